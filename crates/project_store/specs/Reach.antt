-- What an entity uses, and what that uses in turn.
use Rattle.std.specs.Prelude.{◌≡◌, ◌↔◌, ℕ, List, Option, Some, Contains}
use Rattle.std.specs.List.Sorted.{IsStrictlyIncreasing}
use Rattle.entity_types.specs.declared.entity.Entity.{Entity}
use Rattle.entity_types.specs.Entity.{uses_of}

-- the number is n, or one that an entity uses whose number is reached from n
pub data Reaches (entities : ℕ → Option Entity) (n : ℕ) : ℕ → Type 0 where
  root : Reaches entities n n
  used : (m r : ℕ) (entity : Entity) → Reaches entities n m → entities m ≡ Some entity → Contains (uses_of entity) r → Reaches entities n r

-- the least set that holds n and what its members use, in order of number
pub record IsClosure (entities : ℕ → Option Entity) (n : ℕ) (numbers : List ℕ) : Type 0 where
  pub rising : IsStrictlyIncreasing numbers
  pub members : (m : ℕ) → Contains numbers m ↔ Reaches entities n m
