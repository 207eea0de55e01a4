-- Numbers in digits.
use Rattle.std.proofs.Common.{◌≡◌, ℕ, zero, suc, ◌+◌, ◌*◌, ◌-◌, ◌^◌, ◌<◌, ◌≤◌, Bool, true, false, List, [], ◌∷◌, length, take, get_or, refl, arith, add-one}
use Rattle.std.specs.Prelude.{◌&&◌, nat_le, nat_lt, not}
use Rattle.std.specs.List.{list_all}
use Rattle.std.proofs.Math.Nat.{pow-suc, pow-le-pow_right}
use Rattle.std.proofs.lemmas.Bool.Decides.{nat_tests}
use Rattle.std.proofs.lemmas.List.Sums.{fold_more}
use Rattle.controller.specs.Numerals.{is_digit, value_of, is_number, has_leading_zero}

both : (a b : Bool) → (a && b) ≡ true → (a ≡ true) × (b ≡ true)
both true b e = (refl, e)
both false b e = absurd (cc)

pub digit_at : (xs : List ℕ) (i : ℕ) → list_all is_digit xs ≡ true → i < length xs → is_digit (get_or xs i 0) ≡ true
digit_at [] i all lt = absurd (omega arith)
digit_at (x ∷ xs) zero all lt = (both (is_digit x) (list_all is_digit xs) all).0
digit_at (x ∷ xs) (suc i) all lt = digit_at xs i (both (is_digit x) (list_all is_digit xs) all).1 (omega arith)

pub digit_range : (b : ℕ) → is_digit b ≡ true → (48 ≤ b) × (b ≤ 57)
digit_range b e = let h = both (nat_le 48 b) (nat_le b 57) e in (grind (arith, nat_tests), grind (arith, nat_tests))

pub value_more : (xs : List ℕ) (i : ℕ) → i < length xs → value_of (take (i + 1) xs) ≡ value_of (take i xs) * 10 + (get_or xs i 0 - 48)
value_more xs i lt = fold_more (λ n b. n * 10 + (b - 48)) 0 xs i 0 lt

-- so many digits are a number below that power of ten
pub bound_more : (v i d : ℕ) → v < 10 ^ i → d ≤ 9 → v * 10 + d < 10 ^ (i + 1)
bound_more v i d lt le = rw (add-one, pow-suc 10 i) (omega arith)

pub bound_few : (v i : ℕ) → v < 10 ^ i → i < 10 → v < 1000000000
bound_few v i lt few = let most : 10 ^ i ≤ 10 ^ 9 = pow-le-pow_right {n = 10} (omega arith) {i = i} {j = 9} (omega arith) in omega arith

pub number_parts : (most : ℕ) (w : List ℕ) → is_number most w ≡ true → (length w ≤ most) × (list_all is_digit w ≡ true)
number_parts most w e =
    let h = both (nat_lt 0 (length w) && nat_le (length w) most && list_all is_digit w) (not (has_leading_zero w)) e in
    let k = both (nat_lt 0 (length w) && nat_le (length w) most) (list_all is_digit w) h.0 in
    let l = both (nat_lt 0 (length w)) (nat_le (length w) most) k.0 in
    (grind (arith, nat_tests), k.1)
