-- The variables of a run: their opening values, changed by the assignments so far.
use Rattle.std.specs.Prelude.{ℕ, ℤ, pos, ◌==◌, if◌then◌else◌, List, [], ◌∷◌, Option}
use Rattle.std.specs.Option.{option_map_or}
use Rattle.entity_types.specs.declared.field.Field.{Field}
use Rattle.entity_types.specs.declared.field.Field.TheVariants.{Value}
use Rattle.entity_types.specs.declared.entity.Entity.{Entity}
use Rattle.entity_types.specs.Entity.{field_of}
use Rattle.project_store.specs.Entities.{entity_at}
use Rattle.exec_tree.specs.Said.{target_of}
use Rattle.run_log.specs.declared.entry.Entry.{Entry}
use Rattle.run_log.specs.declared.entry.Entry.TheVariants.{Assign}
use Rattle.project_law.specs.Script.{Edit, plan_with}

-- the number of a field, and 0 for `$`
abbrev pub number_by : Field → ℤ
number_by (Value x) = x
number_by _ = pos 0

-- the value at 2 that a variable opens with, in thousandths (ISO 14649-10, nc_variable)
abbrev pub opening_of : Option Entity → ℤ
opening_of found = option_map_or (λ entity. option_map_or number_by (field_of entity 2) (pos 0)) found (pos 0)

-- the values that the variables of a store open with
abbrev pub opening_vars : List Entity → ℕ → ℤ
opening_vars store v = opening_of (entity_at store v)

-- the values of the variables after one more entry: an assignment sets the variable that it names in the store
abbrev pub vars_with : List Entity → (ℕ → ℤ) → Entry → ℕ → ℤ
vars_with store vars (Assign n x) v = if target_of (entity_at store n) == v then x else vars v
vars_with store vars _ v = vars v

-- the values of the variables after these entries, each assignment read off the store there
abbrev pub vars_from : List Edit → List Entity → (ℕ → ℤ) → List Entry → ℕ → ℤ
vars_from script store vars [] v = vars v
vars_from script store vars (x ∷ t) v = vars_from script (plan_with script store x) (vars_with store vars x) t v

-- the values of the variables of a project after these entries
abbrev pub vars_after : List Edit → List Entity → List Entry → ℕ → ℤ
vars_after script store t v = vars_from script store (opening_vars store) t v
