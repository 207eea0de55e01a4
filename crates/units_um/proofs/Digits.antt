-- The number that decimal digits write.
use Rattle.std.proofs.Common.{◌≡◌, ℕ, zero, suc, ◌+◌, ◌-◌, ◌*◌, ◌^◌, ◌<◌, ◌≤◌, true, List, [], ◌∷◌, ◌++◌, length, get_or, take, refl, ap, ◌∙◌, add-one, arith}
use Rattle.std.specs.Char.{digit_value}
use Rattle.std.specs.Str.Parse.{digits_value, digits_value_after}
use Rattle.std.specs.Int.{IsInRange}
use Rattle.std.specs.Str.{all_ascii_digits}
use Rattle.std.proofs.lemmas.Nat.{mul-le, pow-add}
use Rattle.std.proofs.lemmas.Bool.{lt-ltb, le-ltb}
use Rattle.std.proofs.lemmas.Str.Parse.{IsNumeralModel, numerals_by_value, tells_all_ascii_digits, digit_at}
use Rattle.units_um.proofs.Scale.{power_grows}
use Rattle.std.proofs.lemmas.Grind.{common_steps}
use Rattle.units_um.specs.Number.{AreDigits}

-- one digit more
pub value_more : (n i : ℕ) (ds : List ℕ) → i < length ds → digits_value_after 10 n (take (i + 1) ds) ≡ digits_value_after 10 n (take i ds) * 10 + digit_value (get_or ds i 0)
value_more n i [] lt = absurd (omega arith)
value_more n zero (d ∷ ds) lt = refl
value_more n (suc i) (d ∷ ds) lt = rw add-one (let next = value_more (n * 10 + digit_value d) i ds (omega arith) in rw add-one at next)

-- all digits
pub value_all : (n i : ℕ) (ds : List ℕ) → length ds ≤ i → digits_value_after 10 n (take i ds) ≡ digits_value_after 10 n ds
value_all n i ds le = grind (arith, common_steps)

-- digits behind digits
pub value_append : (n : ℕ) (xs ys : List ℕ) → digits_value_after 10 n (xs ++ ys) ≡ digits_value_after 10 (digits_value_after 10 n xs) ys
value_append n [] ys = refl
value_append n (x ∷ xs) ys = value_append (n * 10 + digit_value x) xs ys

own : IsNumeralModel (λ ds. all_ascii_digits ds ≡ true) (digits_value 10)
own = numerals_by_value _ tells_all_ascii_digits

-- a digit at its place
pub digit_in : (ds : List ℕ) (i : ℕ) → AreDigits ds → i < length ds → IsInRange 48 57 (get_or ds i 0)
digit_in ds i all lt = digit_at ds i (own.to ds all) lt

-- the value of a digit
pub digit_is : (c : ℕ) → IsInRange 48 57 c → digit_value c ≡ c - 48
digit_is c within =
    let low : 48 ≤ c = within.0 in
    let high : c < 58 = omega (arith, within.1) in
    rw (le-ltb c 48 low, lt-ltb c 58 high) refl

-- room for one digit more
pub room_for_one : (v n i most : ℕ) → (v + 1) * 10 ^ (n - i) ≤ most → i < n → (v + 1) * 10 ≤ most
room_for_one v n i most room lt =
    let power : 10 ^ 1 ≤ 10 ^ (n - i) = power_grows 1 (n - i) (omega arith) in
    let product : (v + 1) * 10 ≤ (v + 1) * 10 ^ (n - i) = mul-le (v + 1) 10 (v + 1) (10 ^ (n - i)) (omega arith) power in
    omega arith

-- the room that is left behind one digit more
pub room_left : (v n i most d : ℕ) → (v + 1) * 10 ^ (n - i) ≤ most → i < n → d ≤ 9 → (v * 10 + d + 1) * 10 ^ (n - (i + 1)) ≤ most
room_left v n i most d room lt digit =
    let rest = 10 ^ (n - (i + 1)) in
    let power : 10 ^ (n - i) ≡ 10 ^ 1 * rest = ap (λ k. 10 ^ k) (omega arith) ∙ pow-add 10 1 (n - (i + 1)) in
    let same : (v + 1) * 10 ^ (n - i) ≡ ((v + 1) * 10) * rest = rw power (grind arith) in
    let product : (v * 10 + d + 1) * rest ≤ ((v + 1) * 10) * rest = mul-le (v * 10 + d + 1) rest ((v + 1) * 10) rest (omega arith) (omega arith) in
    omega arith

-- so many digits have room from the start
pub room_at_first : (n most : ℕ) → n ≤ most → 1 * 10 ^ n ≤ 10 ^ most
room_at_first n most le = omega (arith, power_grows n most le)

-- and so have those that follow them
pub room_behind : (v m n most : ℕ) → v + 1 ≤ (0 + 1) * 10 ^ m → m + n ≤ most → (v + 1) * 10 ^ n ≤ 10 ^ most
room_behind v m n most small le =
    let product : (v + 1) * 10 ^ n ≤ 10 ^ m * 10 ^ n = mul-le (v + 1) (10 ^ n) (10 ^ m) (10 ^ n) (omega arith) (omega arith) in
    let power : 10 ^ (m + n) ≡ 10 ^ m * 10 ^ n = pow-add 10 m n in
    omega (arith, power_grows (m + n) most le)
