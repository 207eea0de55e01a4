-- How many bytes of a number stand at the front of a text, and the value of a name.
use Rattle.std.specs.Prelude.{ℕ, ◌+◌, ◌==◌, if◌then◌else◌, List, [], ◌∷◌, drop}
use Rattle.std.specs.List.{prefix_len}
use Rattle.std.specs.Str.Parse.{digits_value}
use Rattle.p21_lex.specs.Class.{is_digit, is_sign}

-- the digits at the front
abbrev pub digits_len : List ℕ → ℕ
digits_len bytes = prefix_len is_digit bytes

-- a sign at the front
abbrev pub sign_len : List ℕ → ℕ
sign_len [] = 0
sign_len (b ∷ bs) = if is_sign b then 1 else 0

-- digits with or without a sign, and nothing where there is no digit
unfoldable pub int_len : List ℕ → ℕ
int_len bytes = if digits_len (drop (sign_len bytes) bytes) == 0 then 0 else sign_len bytes + digits_len (drop (sign_len bytes) bytes)

-- an E and an integer; where no integer follows, the E is no part of the number
unfoldable pub exponent_len : List ℕ → ℕ
exponent_len [] = 0
exponent_len (b ∷ bs) = if b == 69 then (if int_len bs == 0 then 0 else 1 + int_len bs) else 0

-- the point of a real, its digits and its exponent
unfoldable pub fraction_len : List ℕ → ℕ
fraction_len [] = 0
fraction_len (b ∷ bs) = if b == 46 then 1 + digits_len bs + exponent_len (drop (digits_len bs) bs) else 0

-- The number that a name's digits say, behind the mark #; leading zeros say nothing.
abbrev pub name_value : List ℕ → ℕ
name_value text = digits_value 10 (drop 1 text)
