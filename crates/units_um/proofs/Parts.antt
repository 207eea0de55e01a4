-- How each part of a text is read.
use Rattle.std.proofs.Common.{◌≡◌, ℕ, ◌+◌, ◌<◌, ◌≤◌, Bool, true, false, cond, eqb, ◌&&◌, List, [], ◌∷◌, ◌++◌, length, get_or, take, drop, Option, Some, None, refl, sym, ap, one-add, arith}
use Rattle.std.specs.Int.{IsInRange}
use Rattle.std.specs.Option.{option_and_then}
use Rattle.std.proofs.lemmas.Bool.{eqb-true, ne_eqb}
use Rattle.units_um.specs.declared.number.Sign.{Sign}
use Rattle.units_um.specs.declared.number.Sign.TheVariants.{Unsigned, Plus, Minus}
use Rattle.std.specs.Char.{is_ascii_digit}
use Rattle.std.specs.Str.{all_ascii_digits}
use Rattle.std.specs.List.{prefix_len}
use Rattle.std.proofs.lemmas.List.{take_at, drop_at, take-append-drop}
use Rattle.units_um.specs.Number.{AreDigits, sign_text}
use Rattle.std.proofs.lemmas.List.Sums.{prefix_len_is}
use Rattle.units_um.specs.Reading.{sign_at, digits_at}

-- a text is cut behind its first digits
pub digits_cut : (text front back : List ℕ) (n : ℕ) → n ≤ length text → ((k : ℕ) → k < n → is_ascii_digit (get_or text k 0) ≡ true) → (n < length text → is_ascii_digit (get_or text n 0) ≡ false)
    → front ≡ take n text → back ≡ drop n text → (front, back) ≡ digits_at text
unfolding digits_at
digits_cut text front back n fits before stops f b =
    let e : prefix_len is_ascii_digit text ≡ n = prefix_len_is is_ascii_digit text n 0 fits before stops in
    rw (f, b, e) refl

-- both of two tests
pub both_pass : (a b : Bool) → (a && b) ≡ true → (a ≡ true) × (b ≡ true)
both_pass true b e = (refl, e)
both_pass false b e = absurd cc

-- a test that did not fail
pub guard_some : {A : Type 0} (b : Bool) (x : Option A) (y : A) → cond b x None ≡ Some y → (b ≡ true) × (x ≡ Some y)
guard_some true x y e = (refl, e)
guard_some false x y e = absurd cc

-- a step that did not fail
pub bind_some : {A B : Type 0} (o : Option A) (f : A → Option B) (y : B) → option_and_then f o ≡ Some y → (x : A) × (o ≡ Some x) × (f x ≡ Some y)
bind_some (Some x) f y e = (x, refl, e)
bind_some None f y e = absurd cc

-- ---- signs

-- a sign is read as it stands, unless what follows is one
pub sign_again : (s : Sign) (d : ℕ) (rest : List ℕ) → IsInRange 48 57 d → sign_at (sign_text s ++ (d ∷ rest)) ≡ (s, d ∷ rest)
unfolding sign_at
sign_again Plus d rest digit = refl
sign_again Minus d rest digit = refl
sign_again Unsigned d rest digit =
    let plus : eqb d 43 ≡ false = ne_eqb d 43 (λ e. omega (arith, digit.0)) in
    let minus : eqb d 45 ≡ false = ne_eqb d 45 (λ e. omega (arith, digit.0)) in
    rw (plus, minus) refl

-- the first byte, by whether it is a sign
sign_first : (p m : Bool) (b : ℕ) (bs : List ℕ) → eqb b 43 ≡ p → eqb b 45 ≡ m
    → let s : Sign × List ℕ = cond p (Plus, bs) (cond m (Minus, bs) (Unsigned, b ∷ bs)) in sign_text s.0 ++ s.1 ≡ b ∷ bs
sign_first true m b bs plus minus = ap (λ (x : ℕ). x ∷ bs) (sym (eqb-true b 43 plus))
sign_first false true b bs plus minus = ap (λ (x : ℕ). x ∷ bs) (sym (eqb-true b 45 minus))
sign_first false false b bs plus minus = refl

-- and what is read stands in the text
pub sign_takes : (bs : List ℕ) → sign_text (sign_at bs).0 ++ (sign_at bs).1 ≡ bs
unfolding sign_at
sign_takes [] = refl
sign_takes (b ∷ bs) = sign_first (eqb b 43) (eqb b 45) b bs refl refl

-- ---- digits

-- no digit comes first
abbrev pub NoDigitFirst : List ℕ → Type 0
NoDigitFirst bs = prefix_len is_ascii_digit bs ≡ 0

-- digits, and then none
digits_reach : (ds rest : List ℕ) → AreDigits ds → NoDigitFirst rest → prefix_len is_ascii_digit (ds ++ rest) ≡ length ds
digits_reach [] rest all none = none
digits_reach (d ∷ ds) rest all none =
    let parts = both_pass (is_ascii_digit d) (all_ascii_digits ds) all in
    rw (parts.0, digits_reach ds rest parts.1 none) (one-add (length ds))

-- digits are read as they stand
pub digits_again : (ds rest : List ℕ) → AreDigits ds → NoDigitFirst rest → digits_at (ds ++ rest) ≡ (ds, rest)
unfolding digits_at
digits_again ds rest all none =
    rw (digits_reach ds rest all none, take_at ds rest (length ds) refl, drop_at ds rest (length ds) refl) refl

-- the first byte, by whether it is a digit
digits_first : (t : Bool) (b : ℕ) (bs : List ℕ) (n : ℕ) → is_ascii_digit b ≡ t → AreDigits (take n bs) → AreDigits (take (cond t (1 + n) 0) (b ∷ bs))
digits_first true b bs n e rest = rw (one-add, e) rest
digits_first false b bs n e rest = refl

-- what is read as digits is digits
are_front : (bs : List ℕ) → AreDigits (take (prefix_len is_ascii_digit bs) bs)
are_front [] = refl
are_front (b ∷ bs) = digits_first (is_ascii_digit b) b bs (prefix_len is_ascii_digit bs) refl (are_front bs)

-- and what is read stands in the text
pub digits_take : (bs : List ℕ) → AreDigits (digits_at bs).0 × ((digits_at bs).0 ++ (digits_at bs).1 ≡ bs)
unfolding digits_at
digits_take bs = (are_front bs, take-append-drop (prefix_len is_ascii_digit bs) bs)
