-- The digits that say when an edit is due.
use Rattle.std.proofs.Common.{◌≡◌, ℕ, zero, suc, ◌+◌, ◌-◌, ◌*◌, ◌^◌, ◌<◌, ◌≤◌, Bool, true, false, ◌&&◌, List, [], ◌∷◌, take, length, get_or, All, refl, ap, ◌∙◌, arith, IsTrue}
use Rattle.std.specs.Prelude.{nat_lt, nat_le, not, ◌||◌, ◌==◌, slice_index}
use Rattle.std.specs.List.{list_all}
use Rattle.std.specs.Char.{digit_value}
use Rattle.std.specs.Str.Parse.{digits_value, AllDigits}
use Rattle.std.proofs.lemmas.Int.Digits.{digits_value_more, digits_value-lt}
use Rattle.std.proofs.lemmas.Bool.Decides.{nat_tests}
use Rattle.std.proofs.lemmas.List.{get_or-take, length-take}
use Rattle.p21_lex.specs.Class.{is_digit}
use Rattle.edit_script.specs.Script.{is_moment}

digit_is : (b : ℕ) → IsTrue (is_digit b) → digit_value b ≡ b - 48
digit_is b h = grind (arith, nat_tests)

digit_below : (b : ℕ) → IsTrue (is_digit b) → digit_value b < 10
digit_below b h = grind (arith, nat_tests)

all_digits : (bs : List ℕ) → All (λ b. IsTrue (is_digit b)) bs → AllDigits 10 bs
all_digits [] h = tt
all_digits (b ∷ bs) h = (digit_below b (h 0 0 (omega arith)), all_digits bs (λ k d lt. h (suc k) d (omega arith)))

front_digits : (i : ℕ) (bs : List ℕ) → All (λ b. IsTrue (is_digit b)) bs → All (λ b. IsTrue (is_digit b)) (take i bs)
front_digits i bs h k d lt =
    let le : k < i = omega (arith, lt, length-take i bs) in
    let within : k < length bs = omega (arith, lt, length-take i bs) in
    rw (get_or-take i bs k d le) (h k d within)

ten : (n : ℕ) → n ≤ 7 → 10 ^ n ≤ 10000000
ten zero h = omega arith
ten (suc zero) h = omega arith
ten (suc (suc zero)) h = omega arith
ten (suc (suc (suc zero))) h = omega arith
ten (suc (suc (suc (suc zero)))) h = omega arith
ten (suc (suc (suc (suc (suc zero))))) h = omega arith
ten (suc (suc (suc (suc (suc (suc zero)))))) h = omega arith
ten (suc (suc (suc (suc (suc (suc (suc zero))))))) h = omega arith
ten (suc (suc (suc (suc (suc (suc (suc (suc n)))))))) h = absurd (omega arith)

-- one digit more
pub moment_more : (digits : List ℕ) (i value b : ℕ) → i < length digits → get_or digits i 0 ≡ b → IsTrue (is_digit b) → value ≡ digits_value 10 (take i digits)
    → value * 10 + (b - 48) ≡ digits_value 10 (take (i + 1) digits)
moment_more digits i value b lt read digit so_far =
    let more : digits_value 10 (take (i + 1) digits) ≡ digits_value 10 (take i digits) * 10 + digit_value (get_or digits i 0) = digits_value_more 10 digits i lt in
    let is : digit_value (get_or digits i 0) ≡ b - 48 = ap digit_value read ∙ digit_is b digit in
    omega (arith, more, is, so_far)

-- seven digits say less than ten million
pub moment_below : (digits : List ℕ) (i value b : ℕ) → i < length digits → get_or digits i 0 ≡ b → IsTrue (is_digit b) → value ≡ digits_value 10 (take i digits)
    → All (λ b. IsTrue (is_digit b)) digits → length digits ≤ 7 → value * 10 + (b - 48) < 10000000
moment_below digits i value b lt read digit so_far all few =
    let more = moment_more digits i value b lt read digit so_far in
    let below = digits_value-lt 10 (take (i + 1) digits) (all_digits (take (i + 1) digits) (front_digits (i + 1) digits all)) in
    let le : length (take (i + 1) digits) ≤ 7 = omega (arith, few, length-take (i + 1) digits) in
    let bound = ten (length (take (i + 1) digits)) le in
    omega (arith, more, below, bound)

and_true : (a b : Bool) → a && b ≡ true → (a ≡ true) × (b ≡ true)
and_true true b e = (refl, e)
and_true false b e = absurd cc

digit_at : (bs : List ℕ) → list_all is_digit bs ≡ true → All (λ b. IsTrue (is_digit b)) bs
digit_at [] e k d lt = absurd (omega arith)
digit_at (b ∷ bs) e zero d lt = (and_true (is_digit b) (list_all is_digit bs) e).0
digit_at (b ∷ bs) e (suc k) d lt = digit_at bs (and_true (is_digit b) (list_all is_digit bs) e).1 k d (omega arith)

four : (a b c d : Bool) → a && (b && c) && d ≡ true → (a ≡ true) × (c ≡ true)
four true true true d e = (refl, refl)
four true true false d e = absurd cc
four true false c d e = absurd cc
four false b c d e = absurd cc

pub moment_digits : (text : List ℕ) → is_moment text ≡ true → All (λ b. IsTrue (is_digit b)) text
moment_digits text e = digit_at text (four (list_all is_digit text) (nat_lt 0 (length text)) (nat_le (length text) 7) ((length text == 1) || not (slice_index text 0 == 48)) e).0

pub moment_few : (text : List ℕ) → is_moment text ≡ true → length text ≤ 7
moment_few text e =
    let few : nat_le (length text) 7 ≡ true = (four (list_all is_digit text) (nat_lt 0 (length text)) (nat_le (length text) 7) ((length text == 1) || not (slice_index text 0 == 48)) e).1 in
    grind (arith, nat_tests)
