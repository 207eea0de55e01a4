-- What the least fault of a list of entities is.
use Rattle.std.specs.Prelude.{◌≡◌, ℕ, ◌≤◌, List, Option, Some, IfSome, Contains}
use Rattle.std.specs.List.{AllByRecursion}
use Rattle.entity_types.specs.declared.entity.Entity.{Entity}

-- an entity of the list, of this number, has this fault, and no entity of the list that has a fault has a lesser number
pub record IsLeast (fault_of_one : Entity → Option ℕ) (all : List Entity) (n fault : ℕ) : Type 0 where
  pub entity : Entity
  pub among : Contains all entity
  pub numbered : entity.number ≡ n
  pub faulty : fault_of_one entity ≡ Some fault
  pub least : AllByRecursion (λ (e : Entity). IfSome (fault_of_one e) (λ _. n ≤ e.number)) all
