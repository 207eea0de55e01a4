-- Workingsteps with their definitions.
use Rattle.std.specs.Prelude.{◌≡◌, ℕ, ◌<◌, true, false, List, [], ◌∷◌, length, take, map, slice_index, slice_get, Some, None, Result, Ok, Err}
use Rattle.std.specs.Global.{Vec}
use Rattle.std.specs.List.{list_all}
use Rattle.std.specs.Ordering.{nat_cmp}
use Rattle.std.specs.BTreeMap.{BTreeMap, get}
use Rattle.entity_types.specs.declared.entity.Entity.{Entity}
use Rattle.project_store.specs.Entities.{entity_at}
use Rattle.step_def.specs.DefOf.{def_of}
use Rattle.path_blocks.specs.declared.step.Step.{Step}
use Rattle.edit_rules.specs.declared.error.ProjErr.{ProjErr}
use Rattle.edit_rules.specs.declared.error.ProjErr.TheVariants.{Tree, Definition, NoMemory}
use Rattle.edit_rules.specs.Faults.{has_def, is_among, IsLeastFault}

-- of these workingsteps the first that has no definition is the least that has none
abbrev pub IsLeastFirst : List Entity → List ℕ → Type 0
IsLeastFirst entities numbers =
    (i : ℕ) → i < length numbers → list_all (has_def entities) (take i numbers) ≡ true → has_def entities (slice_index numbers i) ≡ false
    → (m : ℕ) → is_among numbers m ≡ true → m < slice_index numbers i → has_def entities m ≡ true

-- the steps have these definitions
abbrev pub HaveDefs : List Entity → List Step → Type 0
HaveDefs entities [] = Unit {0}
HaveDefs entities (step ∷ steps) = (def_of (entity_at entities) step.number ≡ Ok step.def) × HaveDefs entities steps

-- the numbers of the steps
abbrev pub step_numbers : List Step → List ℕ
step_numbers steps = map (λ step. step.number) steps

-- the steps of these workingsteps with their definitions, or the fault of the least that has one, unless memory ran out
abbrev pub AreSteps : List Entity → List ℕ → Result (Vec Step) ProjErr → Type 0
AreSteps entities numbers (Ok steps) = (step_numbers steps.items ≡ numbers) × (list_all (has_def entities) numbers ≡ true) × HaveDefs entities steps.items
AreSteps entities numbers (Err (Definition n fault)) = IsLeastFault entities numbers n fault
AreSteps entities numbers (Err (Tree fault)) = ⊥
AreSteps entities numbers (Err NoMemory) = Unit {0}

-- the map tells of each number where it stands among these, and nothing of others
pub record AreIndices (indices : BTreeMap ℕ ℕ) (numbers : List ℕ) : Type 0 where
  pub found : (n i : ℕ) → get nat_cmp indices n ≡ Some i → slice_get numbers i ≡ Some n
  pub all : (n : ℕ) → get nat_cmp indices n ≡ None → is_among numbers n ≡ false
