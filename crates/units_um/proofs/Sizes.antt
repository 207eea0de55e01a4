-- The size of a number by its parts.
use Rattle.std.proofs.Common.{◌≡◌, ℕ, ◌+◌, ◌*◌, ◌^◌, List, length, Option, Some, None, refl}
use Rattle.std.specs.Str.Parse.{digits_value, digits_value_after}
use Rattle.std.proofs.lemmas.List.{append-nil}
use Rattle.units_um.specs.declared.number.Sign.{Sign}
use Rattle.units_um.specs.Number.{Fraction, Number}
use Rattle.units_um.specs.Thousandths.{digit_count, exponent_digits, raised_by, lowered_by, numerator, denominator, nearest, size}
use Rattle.units_um.proofs.Digits.{value_append}

abbrev pub made : Sign → List ℕ → Option Fraction → Number
made s w f = record { sign = s; whole = w; fraction = f }

-- an Int has no place behind the point
pub size_int : (s : Sign) (w : List ℕ) (f : Option Fraction) → f ≡ None → size (made s w f) ≡ nearest (digits_value 10 w * 10 ^ 3) (10 ^ 0)
unfolding size numerator denominator
size_int s w f e = rw (e, append-nil w) refl

-- a Real has the digits of both sides of its point
pub size_real : (s : Sign) (w : List ℕ) (f : Option Fraction) (g : Fraction) → f ≡ Some g
    → size (made s w f) ≡ nearest (digits_value_after 10 (digits_value 10 w) g.digits * 10 ^ (3 + raised_by g.exponent)) (10 ^ (length g.digits + lowered_by g.exponent))
unfolding size numerator denominator
size_real s w f g e = rw (e, value_append 0 w g.digits) refl

-- the digits of a Real are those of its three parts
pub digits_real : (s : Sign) (w : List ℕ) (f : Option Fraction) (g : Fraction) → f ≡ Some g → digit_count (made s w f) ≡ length w + length g.digits + length (exponent_digits g.exponent)
digits_real s w f g e = rw e refl
