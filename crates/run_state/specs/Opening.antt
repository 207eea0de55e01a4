-- The values that the variables of a project open with, as pairs of number and value.
use Rattle.std.specs.Prelude.{◌≡◌, ◌<◌, ◌⊎◌, ℕ, ℤ, pos, if◌then◌else◌, List, [], ◌∷◌, ◌++◌, slice_get, Option, Some, None, IsSome}
use Rattle.std.specs.Ordering.{int_eq}
use Rattle.entity_types.specs.declared.entity.Entity.{Entity}
use Rattle.nc_expr.specs.Vars.{last_value}
use Rattle.exec_tree.specs.Said.{Said}
use Rattle.project_law.specs.Variables.{opening_vars}
use Rattle.run_state.specs.State.{variable_by}

-- the pairs with the opening value of one more variable
abbrev pub opened : List Entity → Option ℕ → List (ℕ × ℤ) → List (ℕ × ℤ)
opened store None pairs = pairs
opened store (Some v) pairs = pairs ++ (v, opening_vars store v) ∷ []

-- the number, where what stands there opens with another value than 0
abbrev pub opening_number : List Entity → ℕ → Option ℕ
opening_number store n = if int_eq (opening_vars store n) (pos 0) then None else Some n

-- what stands at a number is the opening value
abbrev pub IsOpening : ℤ → Option ℤ → Type 0
IsOpening x None = Unit {0}
IsOpening x (Some y) = y ≡ x

-- the pairs have opening values alone, and of these first entities each that doesn't open with 0
pub record AreOpening (store : List Entity) (count : ℕ) (pairs : List (ℕ × ℤ)) : Type 0 where
  pub right : (v : ℕ) → IsOpening (opening_vars store v) (last_value pairs v)
  pub all : (j : ℕ) (entity : Entity) → j < count → slice_get store j ≡ Some entity → (opening_vars store entity.number ≡ pos 0) ⊎ IsSome (last_value pairs entity.number)

-- the pairs have each variable that these first nodes assign
abbrev pub AreAssigned : List Said → ℕ → List (ℕ × ℤ) → Type 0
AreAssigned said count pairs = (j v : ℕ) → j < count → variable_by (slice_get said j) ≡ Some v → IsSome (last_value pairs v)
