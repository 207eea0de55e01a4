-- The value of a written number in thousandths, as a fraction, and the whole number that is nearest to it.
use Rattle.std.specs.Prelude.{ℕ, ◌≤◌, ◌+◌, ◌*◌, ◌/◌, ◌^◌, List, [], ◌++◌, length, Option, Some, None, Result, Ok, Err, nat_lt, if◌then◌else◌, ℤ, pos, neg_ℤ}
use Rattle.std.specs.Str.Parse.{digits_value}
use Rattle.units_um.specs.declared.value.TheConstants.{MAX_DIGITS}
use Rattle.nc_base.specs.declared.numbers.TheConstants.{MAX_THOUSANDTHS}
use Rattle.units_um.specs.declared.number.Sign.{Sign}
use Rattle.units_um.specs.declared.fault.UnitErr.{UnitErr}
use Rattle.units_um.specs.declared.fault.UnitErr.TheVariants.{NotNumber, OutOfRange}
use Rattle.units_um.specs.Number.{is_minus, Exponent, Fraction, Number, Spells}
use Rattle.units_um.specs.Reading.{reading}

-- the digits behind the point, none in an Int
abbrev pub digits_behind : Option Fraction → List ℕ
digits_behind None = []
digits_behind (Some f) = f.digits

-- the exponent that is written, if one is
abbrev pub exponent_in : Option Fraction → Option Exponent
exponent_in None = None
exponent_in (Some f) = f.exponent

-- the digits of an exponent, none where none is written
abbrev pub exponent_digits : Option Exponent → List ℕ
exponent_digits None = []
exponent_digits (Some e) = e.digits

-- all digits of the text: those before the point, those behind it, and those of the exponent
abbrev pub digit_count : Number → ℕ
digit_count n = length n.whole + length (digits_behind n.fraction) + length (exponent_digits (exponent_in n.fraction))

-- the digits before the point and those behind it, read as one natural number
abbrev pub mantissa : Number → ℕ
mantissa n = digits_value 10 (n.whole ++ digits_behind n.fraction)

-- by how many powers of ten the exponent raises the number: none where it is signed by -
abbrev pub raised_by : Option Exponent → ℕ
raised_by None = 0
raised_by (Some e) = if is_minus e.sign then 0 else digits_value 10 e.digits

-- by how many powers of ten an exponent signed by - lowers the number
abbrev pub lowered_by : Option Exponent → ℕ
lowered_by None = 0
lowered_by (Some e) = if is_minus e.sign then digits_value 10 e.digits else 0

-- the size of the number in thousandths is this many ..
unfoldable pub numerator : Number → ℕ
numerator n = mantissa n * 10 ^ (3 + raised_by (exponent_in n.fraction))

-- .. parts, of which this many make one thousandth
unfoldable pub denominator : Number → ℕ
denominator n = 10 ^ (length (digits_behind n.fraction) + lowered_by (exponent_in n.fraction))

-- the whole number that is nearest to a fraction, the larger one of two that are equally near
unfoldable pub nearest : ℕ → ℕ → ℕ
nearest num den = (2 * num + den) / (2 * den)

-- the size of the rounded value: of two that are equally near it is the one farther from zero
unfoldable pub size : Number → ℕ
size n = nearest (numerator n) (denominator n)

-- a sign before a size
abbrev pub signed : Sign → ℕ → ℤ
signed s x = if is_minus s then neg_ℤ (pos x) else pos x

-- the rounded value in thousandths
abbrev pub rounded : Number → ℤ
rounded n = signed n.sign (size n)

-- a size, if it is within the limit
unfoldable pub in_range : ℕ → Result ℕ UnitErr
in_range x = if nat_lt MAX_THOUSANDTHS x then Err OutOfRange else Ok x

-- the same with its sign
abbrev pub with_sign : Sign → Result ℕ UnitErr → Result ℤ UnitErr
with_sign s (Ok x) = Ok (signed s x)
with_sign s (Err e) = Err e

-- a number with too many digits is none
unfoldable pub value_of : Option Number → Result ℤ UnitErr
value_of None = Err NotNumber
value_of (Some n) = if nat_lt MAX_DIGITS (digit_count n) then Err NotNumber else with_sign n.sign (in_range (size n))

-- what a text is in thousandths
abbrev pub thousandths_of : List ℕ → Result ℤ UnitErr
thousandths_of text = value_of (reading text)

-- the text is this number's, and the number has at most so many digits
pub record IsShort (text : List ℕ) (n : Number) : Type 0 where
  pub spells : Spells text n
  pub digits : digit_count n ≤ MAX_DIGITS
