-- How the end of what was opened is seen from further back.
use Rattle.std.proofs.Common.{◌≡◌, ℕ, ◌+◌, Result, Ok, Err, refl, ap, arith}
use Rattle.p21_lex.specs.declared.scan.Unclosed.{Unclosed}
use Rattle.p21_lex.specs.declared.scan.Unclosed.TheVariants.{Cut, Bad}
use Rattle.p21_lex.specs.Scan.{shifted}

pub shifted_none : (n : ℕ) (r : Result ℕ Unclosed) → n ≡ 0 → shifted n r ≡ r
shifted_none n (Ok len) z = ap (λ (k : ℕ). Ok k) (omega arith)
shifted_none n (Err Cut) z = refl
shifted_none n (Err (Bad k)) z = ap (λ (m : ℕ). Err (Bad m)) (omega arith)

-- what is seen from n + m bytes back
pub shifted_more : (n m k : ℕ) (r : Result ℕ Unclosed) → k ≡ n + m → shifted k r ≡ shifted n (shifted m r)
shifted_more n m k (Ok len) e = ap (λ (x : ℕ). Ok x) (omega arith)
shifted_more n m k (Err Cut) e = refl
shifted_more n m k (Err (Bad x)) e = ap (λ (y : ℕ). Err (Bad y)) (omega arith)
