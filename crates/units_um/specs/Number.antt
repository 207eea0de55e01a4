-- A number as it is written: the forms Integer and Real (ISO 10303-21, the tokens), by their parts and their spelling.
use Rattle.std.specs.Prelude.{◌≡◌, ℕ, ◌<◌, Bool, true, false, List, [], ◌∷◌, ◌++◌, length, Option, Some, None, IsTrue}
use Rattle.std.specs.Str.{all_ascii_digits}
use Rattle.units_um.specs.declared.number.Sign.{Sign}
use Rattle.units_um.specs.declared.number.Sign.TheVariants.{Unsigned, Plus, Minus}

-- only - turns a value round
abbrev pub is_minus : Sign → Bool
is_minus Minus = true
is_minus Plus = false
is_minus Unsigned = false

-- what stands behind the E
pub record Exponent : Type 0 where
  pub sign : Sign
  pub digits : List ℕ

-- what stands behind the point
pub record Fraction : Type 0 where
  pub digits : List ℕ
  pub exponent : Option Exponent

-- an Int has no fraction, a Real has one
pub record Number : Type 0 where
  pub sign : Sign
  pub whole : List ℕ
  pub fraction : Option Fraction

-- decimal digits and nothing else
abbrev pub AreDigits : List ℕ → Type 0
AreDigits bs = IsTrue (all_ascii_digits bs)

-- at least one digit stands behind the E
abbrev pub IsExponent : Option Exponent → Type 0
IsExponent None = Unit {0}
IsExponent (Some e) = AreDigits e.digits × (0 < length e.digits)

-- any number of digits stands behind the point
abbrev pub IsFraction : Option Fraction → Type 0
IsFraction None = Unit {0}
IsFraction (Some f) = AreDigits f.digits × IsExponent f.exponent

-- at least one digit stands before the point
abbrev pub IsNumber : Number → Type 0
IsNumber n = AreDigits n.whole × (0 < length n.whole) × IsFraction n.fraction

-- nothing, + or -
abbrev pub sign_text : Sign → List ℕ
sign_text Unsigned = []
sign_text Plus = 43 ∷ []
sign_text Minus = 45 ∷ []

-- E, an optional sign, and digits
abbrev pub exponent_text : Option Exponent → List ℕ
exponent_text None = []
exponent_text (Some e) = 69 ∷ (sign_text e.sign ++ e.digits)

-- a point, digits, and an optional exponent
abbrev pub fraction_text : Option Fraction → List ℕ
fraction_text None = []
fraction_text (Some f) = 46 ∷ (f.digits ++ exponent_text f.exponent)

-- an optional sign, digits, and an optional fraction
abbrev pub spelling : Number → List ℕ
spelling n = sign_text n.sign ++ (n.whole ++ fraction_text n.fraction)

-- the text is this number's
pub record Spells (text : List ℕ) (n : Number) : Type 0 where
  pub form : IsNumber n
  pub bytes : text ≡ spelling n
