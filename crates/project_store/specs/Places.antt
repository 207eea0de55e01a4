-- Where the entity of each number stands, for a search by number.
use Rattle.std.specs.Prelude.{◌≡◌, ◌⊎◌, ◌+◌, ℕ, suc, false, nat_eq, List, [], ◌∷◌, slice_get, Some, Contains}
use Rattle.std.specs.List.{IsDistinct}
use Rattle.std.specs.List.Sorted.{IsNonDecreasingBy}
use Rattle.std.specs.Ordering.{nat_cmp}
use Rattle.std.specs.BTreeMap.{BTreeMap, get}
use Rattle.entity_types.specs.declared.entity.Entity.{Entity}
use Rattle.project_store.specs.declared.places.Place.{Place}
use Rattle.project_store.specs.Entities.{numbers_of}
use Rattle.project_store.specs.Inserts.{is_among}

-- the entity of this number stands at this index
abbrev pub place_at : ℕ → ℕ → Place
place_at number index = record { number = number; index = index }

-- the places of entities of which the first stands at this index
abbrev pub places_from : ℕ → List Entity → List Place
places_from index [] = []
places_from index (entity ∷ entities) = place_at entity.number index ∷ places_from (suc index) entities

-- the places are in order of number
abbrev pub AreOrdered : List Place → Type 0
AreOrdered places = IsNonDecreasingBy (λ (place : Place). place.number) places

-- an entity of this number stands at this index
abbrev pub IsAt : List Entity → ℕ → ℕ → Type 0
IsAt entities number index = (entity : Entity) × (slice_get entities index ≡ Some entity) × (entity.number ≡ number)

-- the place of this number is among these, or the map has it
abbrev pub Leads : List Place → BTreeMap ℕ ℕ → ℕ → ℕ → Type 0
Leads opening added n i = Contains opening (place_at n i) ⊎ (get nat_cmp added n ≡ Some i)

-- entities of distinct numbers, and their places: of those that were there at first in order of number, and of those added later in a map,
-- which may have others beside them
pub record IsIndex (opening : List Place) (added : BTreeMap ℕ ℕ) (entities : List Entity) : Type 0 where
  pub ordered : AreOrdered opening
  pub sound : (n i : ℕ) → Contains opening (place_at n i) → IsAt entities n i
  pub complete : (n i : ℕ) → IsAt entities n i → Leads opening added n i
  pub distinct : IsDistinct nat_eq (numbers_of entities)

-- the map has what it had of other numbers than these
abbrev pub AreKept : BTreeMap ℕ ℕ → BTreeMap ℕ ℕ → List ℕ → Type 0
AreKept old new numbers = (n : ℕ) → is_among numbers n ≡ false → get nat_cmp new n ≡ get nat_cmp old n

-- the map has the places of entities of these numbers, of which the first stands at an index
abbrev pub AreNoted : BTreeMap ℕ ℕ → ℕ → List ℕ → Type 0
AreNoted added first numbers = (k n : ℕ) → slice_get numbers k ≡ Some n → get nat_cmp added n ≡ Some (first + k)
