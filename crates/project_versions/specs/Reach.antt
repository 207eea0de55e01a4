-- What an edit reaches.
use Rattle.std.specs.Prelude.{◌≡◌, ℕ, zero, suc, ◌+◌, Bool, true, ◌||◌, List, ◌++◌, length, Option}
use Rattle.std.specs.List.{list_any}
use Rattle.entity_types.specs.declared.entity.Entity.{Entity}
use Rattle.project_store.specs.Entities.{numbers_of, entity_at}
use Rattle.project_store.specs.Inserts.{is_among, uses_at}
use Rattle.project_store.specs.Put.{put_all}
use Rattle.project_store.specs.Reach.{Reaches}

-- by at most so many references one comes from n to a number with the property
abbrev pub leads : (ℕ → Option Entity) → (ℕ → Bool) → ℕ → ℕ → Bool
leads entities goal zero n = goal n
leads entities goal (suc k) n = goal n || list_any (leads entities goal k) (uses_at entities n)

-- the entities of a store with an edit's items put
abbrev pub after : List Entity → List Entity → ℕ → Option Entity
after store items = put_all (entity_at store) items

-- the edit puts this number
abbrev pub is_put : List Entity → ℕ → Bool
is_put items n = is_among (numbers_of items) n

-- the edit reaches n: from n, in the store with the edit put, one comes to a number that the edit puts. No way needs more references than
-- there are entities
abbrev pub is_reached : List Entity → List Entity → ℕ → Bool
is_reached store items n = leads (after store items) (is_put items) (length (store ++ items) + 1) n

-- the same, of the closure: it holds a number that the edit puts
abbrev pub Reach : List Entity → List Entity → ℕ → Type 0
Reach store items n = (m : ℕ) × Reaches (after store items) n m × (is_put items m ≡ true)
