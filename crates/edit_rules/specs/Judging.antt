-- How the steps that an edit reaches are judged, in order of number.
use Rattle.std.specs.Prelude.{ℕ, List, [], ◌∷◌, Option, None, option_map}
use Rattle.std.specs.Option.{option_or}
use Rattle.nc_base.specs.declared.verdict.Verdict.{Verdict}
use Rattle.entity_types.specs.declared.entity.Entity.{Entity}
use Rattle.edit_rules.specs.Judge.{j1, j2, j3, j4}

-- the first of these steps that has a fault, with that fault
abbrev pub first_step : (ℕ → Option ℕ) → List ℕ → Option (ℕ × ℕ)
first_step fault_of_one [] = None
first_step fault_of_one (n ∷ ns) = option_or (option_map (λ fault. (n, fault)) (fault_of_one n)) (first_step fault_of_one ns)

-- the first of the rules on items that applies: classes, and references
abbrev pub item_refusal : List Entity → List Entity → Option Verdict
item_refusal store items = option_or (j1 store items) (option_or (j2 store items) (j3 store items))

-- the first of the rules that applies before a definition is looked up
abbrev pub early_refusal : List Entity → List ℕ → List ℕ → List Entity → Option Verdict
early_refusal store steps sent items = option_or (item_refusal store items) (j4 store steps sent items)
