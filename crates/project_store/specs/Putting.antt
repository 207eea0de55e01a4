-- Which items may be put into a store, so that it stays one.
use Rattle.std.specs.Prelude.{◌≡◌, ℕ, false, List, Option, Some, None, IsTrue, Contains}
use Rattle.entity_types.specs.declared.entity.Entity.{Entity}
use Rattle.entity_types.specs.declared.field.Field.{Field}
use Rattle.entity_types.specs.declared.table.Target.{Target}
use Rattle.entity_types.specs.Target.{accepts}
use Rattle.entity_types.specs.Entity.{field_of, references_of}
use Rattle.project_store.specs.Entities.{entity_at}
use Rattle.project_store.specs.Put.{put_all}
use Rattle.project_store.specs.Resolved.{target_at}
use Rattle.project_store.specs.Build.{is_project}

-- each reference at a used position of the entity names one of these entities, and that is of the position's target
abbrev pub ResolvesIn : (ℕ → Option Entity) → Entity → Type 0
ResolvesIn entities entity = (position reference : ℕ) (target : Target) (field : Field)
    → target_at entity.class position ≡ Some target → field_of entity position ≡ Some field → Contains (references_of field) reference
    → (other : Entity) × (entities reference ≡ Some other) × IsTrue (accepts target other.class)

-- with the items put each of their references is there and of its target, an item is of the class of the entity that it replaces, and
-- none that is new is a PROJECT
pub record CanPut (store items : List Entity) : Type 0 where
  pub resolved : (item : Entity) → Contains items item → ResolvesIn (put_all (entity_at store) items) item
  pub kept : (item old : Entity) → Contains items item → entity_at store item.number ≡ Some old → item.class ≡ old.class
  pub no_project : (item : Entity) → Contains items item → entity_at store item.number ≡ None → is_project item ≡ false
