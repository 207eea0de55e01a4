-- What can be resolved.
use Rattle.std.specs.Prelude.{ℕ, Bool, false, Option}
use Rattle.std.specs.Option.{option_map_or}
use Rattle.entity_types.specs.declared.class.Class.TheVariants.{MachiningWorkingstep}
use Rattle.entity_types.specs.declared.entity.Entity.{Entity}
use Rattle.step_def.specs.Lookup.{is_of}

-- n is a workingstep
abbrev pub is_workingstep : (ℕ → Option Entity) → ℕ → Bool
is_workingstep from n = option_map_or (is_of MachiningWorkingstep) (from n) false
