-- What is kept of the instances of a file.
use Rattle.std.specs.Prelude.{◌≡◌, ◌≤◌, ℕ, List, length, map, take, Option, Some, None, Ok, Err}
use Rattle.p21_parse.specs.declared.limits.TheConstants.{MAX_INSTANCES}
use Rattle.p21_parse.specs.Tree.{InstanceTree, ExchangeTree}
use Rattle.p21_parse.specs.Allowed.{own_number_of}
use Rattle.p21_parse.specs.Front.{IsFront}
use Rattle.entity_types.specs.declared.entity.Entity.{Entity}
use Rattle.entity_read.specs.Typed.{entity_of}
use Rattle.project_read.specs.declared.reason.ProjectReason.{ProjectReason}
use Rattle.project_read.specs.declared.reason.ProjectErr.TheVariants.{Refused}
use Rattle.project_read.specs.declared.gathered.Gathered.{Gathered}
use Rattle.project_read.specs.Typing.{all_typed}
use Rattle.project_read.specs.Reads.{AllTyped}

-- the instances are these entities, or this is their first bad attribute
abbrev pub IsKept : List InstanceTree → List Entity → Option ProjectReason → Type 0
IsKept items entities None = all_typed items ≡ Ok (map entity_of entities)
IsKept items entities (Some reason) = AllTyped items (Err (Refused reason))

-- what is kept is of these instances
pub record IsGathered (items : List InstanceTree) (g : Gathered) : Type 0 where
  pub numbers : g.numbers.items ≡ map own_number_of items
  pub kept : IsKept items g.entities.items g.fault

-- The bytes up to a place are the front of a file, and this is kept of its instances, of which there are few enough.
pub record IsReadTo (bytes : List ℕ) (at : ℕ) (g : Gathered) : Type 0 where
  pub exchange : ExchangeTree
  pub front : IsFront (take at bytes) exchange
  pub gathered : IsGathered exchange.items g
  pub few : length exchange.items ≤ MAX_INSTANCES
  pub within : at ≤ length bytes
