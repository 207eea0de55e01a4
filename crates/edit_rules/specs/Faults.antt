-- Workingsteps with and without a definition.
use Rattle.std.specs.Prelude.{◌≡◌, ℕ, ◌<◌, Bool, true, ◌==◌, List, Ok, Err, is_ok}
use Rattle.std.specs.List.{list_any}
use Rattle.entity_types.specs.declared.entity.Entity.{Entity}
use Rattle.project_store.specs.Entities.{entity_at}
use Rattle.step_def.specs.declared.fault.DefFault.{DefFault}
use Rattle.step_def.specs.DefOf.{def_of}
use Rattle.path_blocks.specs.declared.def.Def.{Def}

-- n has a definition
abbrev pub has_def : List Entity → ℕ → Bool
has_def entities n = is_ok (def_of (entity_at entities) n)

-- n is among these
abbrev pub is_among : List ℕ → ℕ → Bool
is_among ns n = list_any (λ m. m == n) ns

-- n is among these, and this is its definition
pub record IsDefOf (entities : List Entity) (steps : List ℕ) (n : ℕ) (def : Def) : Type 0 where
  pub among : is_among steps n ≡ true
  pub defined : def_of (entity_at entities) n ≡ Ok def

-- of these workingsteps n has this fault, and each of a lesser number has a definition
pub record IsLeastFault (entities : List Entity) (steps : List ℕ) (n : ℕ) (fault : DefFault) : Type 0 where
  pub among : is_among steps n ≡ true
  pub faulty : def_of (entity_at entities) n ≡ Err fault
  pub least : (m : ℕ) → is_among steps m ≡ true → m < n → has_def entities m ≡ true
