-- Numbers as words of a command spell them.
use Rattle.std.specs.Prelude.{ℕ, ◌+◌, ◌-◌, ◌*◌, Bool, false, not, ◌&&◌, ◌==◌, nat_lt, nat_le, List, [], ◌∷◌, length, fold}
use Rattle.std.specs.List.{list_all}
use Rattle.controller.specs.declared.numerals.TheConstants.{FIRST_DIGIT, LAST_DIGIT}

abbrev pub is_digit : ℕ → Bool
is_digit b = nat_le FIRST_DIGIT b && nat_le b LAST_DIGIT

-- the number that digits spell
abbrev pub value_of : List ℕ → ℕ
value_of digits = fold (λ n b. n * 10 + (b - FIRST_DIGIT)) 0 digits

-- no digit 0 stands before others
abbrev pub has_leading_zero : List ℕ → Bool
has_leading_zero [] = false
has_leading_zero (b ∷ []) = false
has_leading_zero (b ∷ c ∷ bs) = b == FIRST_DIGIT

-- a number: 1 to `most` digits without a leading zero, 0 alone allowed
abbrev pub is_number : ℕ → List ℕ → Bool
is_number most w = nat_lt 0 (length w) && nat_le (length w) most && list_all is_digit w && not (has_leading_zero w)

-- a number up to `most`, in at most so many digits
abbrev pub is_upto : ℕ → ℕ → List ℕ → Bool
is_upto digits most w = is_number digits w && nat_le (value_of w) most

-- a number from 1 to `most`, in at most so many digits
abbrev pub is_count : ℕ → ℕ → List ℕ → Bool
is_count digits most w = is_number digits w && nat_le 1 (value_of w) && nat_le (value_of w) most
