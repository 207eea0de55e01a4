-- A store with items put.
use Rattle.std.specs.Prelude.{ℕ, ◌==◌, if◌then◌else◌, List, [], ◌∷◌, Option, Some, None}
use Rattle.std.specs.Option.{option_or}
use Rattle.entity_types.specs.declared.entity.Entity.{Entity}

-- one entity put: it stands under its number, and the others stay
abbrev pub put : (ℕ → Option Entity) → Entity → ℕ → Option Entity
put entities entity n = if n == entity.number then Some entity else entities n

-- items put in their order, so that of two with one number the later stands
abbrev pub put_all : (ℕ → Option Entity) → List Entity → ℕ → Option Entity
put_all entities [] = entities
put_all entities (item ∷ items) = put_all (put entities item) items

-- the last item of this number
abbrev pub last_of : List Entity → ℕ → Option Entity
last_of [] n = None
last_of (item ∷ items) n = option_or (last_of items n) (if n == item.number then Some item else None)

-- a store with an item put: it takes the place of the entity of its number, or comes at the end
abbrev pub put_in : List Entity → Entity → List Entity
put_in [] item = item ∷ []
put_in (entity ∷ store) item = if entity.number == item.number then item ∷ store else entity ∷ put_in store item

-- a store with items put in their order
abbrev pub put_items : List Entity → List Entity → List Entity
put_items store [] = store
put_items store (item ∷ items) = put_items (put_in store item) items
