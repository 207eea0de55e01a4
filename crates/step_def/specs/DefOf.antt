-- The definition of a workingstep.
use Rattle.std.specs.Prelude.{◌≡◌, ℕ, Option, Result, Ok, Err, refl}
use Rattle.entity_types.specs.declared.entity.Entity.{Entity}
use Rattle.path_blocks.specs.declared.def.Def.{Def}
use Rattle.step_def.specs.declared.fault.DefFault.{DefFault}
use Rattle.path_blocks.specs.Numbers.{Numbers}
use Rattle.step_def.specs.Numbers.{numbers_at}
use Rattle.step_def.specs.Ranges.{KeepsRanges, def_with}
use Rattle.step_def.specs.Sound.{keeps_ranges}

-- the definition with the numbers that were found, or the fault
abbrev pub with_ranges : (found : Result Numbers DefFault) → ((x : Numbers) → found ≡ Ok x → KeepsRanges x) → Result Def DefFault
with_ranges (Ok x) keeps = Ok (def_with x (keeps x refl))
with_ranges (Err fault) keeps = Err fault

-- the definition of workingstep n, or its first fault
unfoldable pub def_of : (ℕ → Option Entity) → ℕ → Result Def DefFault
def_of from n = with_ranges (numbers_at from n) (keeps_ranges from n)
