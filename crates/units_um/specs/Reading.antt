-- The one number that a text spells, by cases on its bytes.
use Rattle.std.specs.Prelude.{ℕ, ◌&&◌, List, [], ◌∷◌, length, drop, Option, Some, None, option_and_then, nat_lt, ◌==◌, if◌then◌else◌, take_while}
use Rattle.std.specs.List.{prefix_len}
use Rattle.std.specs.Char.{is_ascii_digit}
use Rattle.units_um.specs.declared.number.Sign.{Sign}
use Rattle.units_um.specs.declared.number.Sign.TheVariants.{Unsigned, Plus, Minus}
use Rattle.units_um.specs.Number.{Exponent, Fraction, Number}

-- the sign that a text begins with, and the rest
unfoldable pub sign_at : List ℕ → Sign × List ℕ
sign_at [] = (Unsigned, [])
sign_at (b ∷ bs) = if b == 43 then (Plus, bs) else (if b == 45 then (Minus, bs) else (Unsigned, b ∷ bs))

-- the digits that a text begins with, and the rest
unfoldable pub digits_at : List ℕ → List ℕ × List ℕ
digits_at bs = (take_while is_ascii_digit bs, drop (prefix_len is_ascii_digit bs) bs)

-- all that stands behind an E, if it is an exponent
unfoldable pub exponent_of : List ℕ → Option Exponent
exponent_of bs = let s = sign_at bs in let d = digits_at s.1 in
    if nat_lt 0 (length d.0) && (length d.1 == 0) then Some (record { sign = s.0; digits = d.0 }) else None

-- all that stands behind the digits that follow a point
unfoldable pub fraction_of : List ℕ → List ℕ → Option Fraction
fraction_of digits [] = Some (record { digits = digits; exponent = None })
fraction_of digits (b ∷ bs) = if b == 69 then option_and_then (λ e. Some (record { digits = digits; exponent = Some e })) (exponent_of bs) else None

-- all that stands behind the first digits
unfoldable pub number_of : Sign → List ℕ → List ℕ → Option Number
number_of sign whole [] = Some (record { sign = sign; whole = whole; fraction = None })
number_of sign whole (b ∷ bs) = let d = digits_at bs in
    if b == 46 then option_and_then (λ f. Some (record { sign = sign; whole = whole; fraction = Some f })) (fraction_of d.0 d.1) else None

-- the number that a whole text spells, if it spells one
unfoldable pub reading : List ℕ → Option Number
reading text = let s = sign_at text in let d = digits_at s.1 in
    if nat_lt 0 (length d.0) then number_of s.0 d.0 d.1 else None
