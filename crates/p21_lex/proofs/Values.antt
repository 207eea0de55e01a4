-- The value of digits, as far as it is counted.
use Rattle.std.proofs.Common.{◌≡◌, ℕ, ◌+◌, ◌-◌, ◌*◌, ◌<◌, ◌≤◌, min, Bool, List, take, length, get_or, All, ap, sym, ◌∙◌, arith}
use Rattle.std.specs.Prelude.{IsTrue, count_by, nat_lt}
use Rattle.std.specs.List.{prefix_len}
use Rattle.std.specs.Char.{digit_value}
use Rattle.std.specs.Str.Parse.{digits_value}
use Rattle.std.proofs.lemmas.Int.Digits.{digits_value_more}
use Rattle.std.proofs.lemmas.Bool.{le-ltb}
use Rattle.std.proofs.lemmas.Bool.Decides.{nat_tests}
use Rattle.std.proofs.lemmas.List.{get_or-take, length-take}
use Rattle.std.proofs.lemmas.List.Sums.{prefix_len_passes, count_by-le-length}
use Rattle.p21_lex.specs.declared.number.TheConstants.{MAX_DIGITS}
use Rattle.p21_lex.specs.Class.{is_digit}

digit_is : (b : ℕ) → IsTrue (is_digit b) → digit_value b ≡ b - 48
digit_is b h = grind (arith, nat_tests)

-- one digit more
pub capped_more : (digits : List ℕ) (i value b : ℕ) → i < length digits → get_or digits i 0 ≡ b → IsTrue (is_digit b) → value ≡ min (digits_value 10 (take i digits)) 2147483648
    → min (value * 10 + (b - 48)) 2147483648 ≡ min (digits_value 10 (take (i + 1) digits)) 2147483648
capped_more digits i value b lt read digit so_far =
    let more : digits_value 10 (take (i + 1) digits) ≡ digits_value 10 (take i digits) * 10 + digit_value (get_or digits i 0) = digits_value_more 10 digits i lt in
    let is : digit_value (get_or digits i 0) ≡ b - 48 = ap digit_value read ∙ digit_is b digit in
    omega (arith, more, is, so_far)

-- the bytes of a run are of its class
pub run_passes : (class : ℕ → Bool) (bytes : List ℕ) → All (λ b. IsTrue (class b)) (take (prefix_len class bytes) bytes)
run_passes class bytes k d lt =
    let le : k < prefix_len class bytes = omega (arith, length-take (prefix_len class bytes) bytes) in
    rw (get_or-take (prefix_len class bytes) bytes k d le) (prefix_len_passes class bytes k d le)

-- where there are few bytes, there are few digits
pub few_digits : (bytes : List ℕ) → length bytes ≤ MAX_DIGITS → nat_lt MAX_DIGITS (length bytes) ≡ nat_lt MAX_DIGITS (count_by is_digit bytes)
few_digits bytes few = le-ltb MAX_DIGITS (length bytes) few ∙ sym (le-ltb MAX_DIGITS (count_by is_digit bytes) (omega (arith, few, count_by-le-length is_digit bytes)))
