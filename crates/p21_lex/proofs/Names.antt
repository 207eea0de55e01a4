-- What a name's bytes are.
use Rattle.std.proofs.Common.{ℕ, ◌≤◌, List, length, drop, All, ap, subst, sym, arith}
use Rattle.std.specs.Prelude.{IsTrue}
use Rattle.std.proofs.lemmas.List.Elements.{All-from_recursion}
use Rattle.p21_lex.specs.declared.token.TokenKind.TheVariants.{Name}
use Rattle.p21_lex.specs.Class.{is_digit}
use Rattle.p21_lex.specs.Number.{name_value}
use Rattle.p21_lex.specs.Reading.{Spells}
use Rattle.p21_lex.proofs.Numbers.{digits_each}

pub name_filled : (text : List ℕ) → Spells Name text → 1 ≤ length text
name_filled text h = omega (arith, ap length h.1)

pub name_digits : (text : List ℕ) → Spells Name text → All (λ b. IsTrue (is_digit b)) (drop 1 text)
name_digits text h = subst (λ (t : List ℕ). All (λ b. IsTrue (is_digit b)) (drop 1 t)) (sym h.1) (All-from_recursion (λ b. IsTrue (is_digit b)) h.0 (digits_each h.0 h.2))

pub name_small : (text : List ℕ) → Spells Name text → name_value text ≤ 2147483647
name_small text h = h.4
