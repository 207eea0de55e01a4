-- Entities in a row, looked up by number.
use Rattle.std.specs.Prelude.{ℕ, ◌==◌, List, Option, map, find}
use Rattle.entity_types.specs.declared.entity.Entity.{Entity}

-- the numbers, in order
abbrev pub numbers_of : List Entity → List ℕ
numbers_of entities = map (λ entity. entity.number) entities

-- the entity of this number, or None where there is none
abbrev pub entity_at : List Entity → ℕ → Option Entity
entity_at entities number = find (λ entity. number == entity.number) entities
