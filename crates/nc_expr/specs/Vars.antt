-- The values of variables by number.
use Rattle.std.specs.Prelude.{ℕ, ℤ, pos, ◌==◌, if◌then◌else◌, unwrap_or, List, [], ◌∷◌, Option, Some, None}
use Rattle.std.specs.Option.{option_or}
use Rattle.std.specs.Ordering.{nat_cmp, is_eq}
use Rattle.std.specs.Map.{lookup}

-- the value of the last of these pairs that has the number, or None where none has it
abbrev pub last_value : List (ℕ × ℤ) → ℕ → Option ℤ
last_value [] n = None
last_value (pair ∷ pairs) n = option_or (last_value pairs n) (if pair.0 == n then Some pair.1 else None)

-- the value of a variable, or None where there is none of the number
abbrev pub value_of_variable : List (ℕ × ℤ) → ℕ → Option ℤ
value_of_variable vars n = lookup (λ m. is_eq (nat_cmp n m)) vars

-- the value of a variable, or 0 where there is none of the number
abbrev pub value_at : List (ℕ × ℤ) → ℕ → ℤ
value_at vars n = unwrap_or (value_of_variable vars n) (pos 0)
