-- What holds of the entities of every store.
use Rattle.std.specs.Prelude.{◌≡◌, ℕ, ◌==◌, if◌then◌else◌, List, [], ◌∷◌, Option, Some, None, IsTrue, Contains}
use Rattle.entity_types.specs.declared.class.Class.{Class}
use Rattle.entity_types.specs.declared.entity.Entity.{Entity}
use Rattle.entity_types.specs.declared.field.Field.{Field}
use Rattle.entity_types.specs.declared.table.Target.{Target}
use Rattle.entity_types.specs.declared.table.UsedPosition.{UsedPosition}
use Rattle.entity_types.specs.Table.{used_of}
use Rattle.entity_types.specs.Target.{accepts}
use Rattle.entity_types.specs.Entity.{field_of, references_of}
use Rattle.project_store.specs.Entities.{entity_at}

-- the target at the position, where these positions are used
abbrev pub target_among : List UsedPosition → ℕ → Option Target
target_among [] position = None
target_among (used ∷ others) position = if used.position == position then Some used.target else target_among others position

-- what a reference at the position of an entity of the class has to refer to
abbrev pub target_at : Class → ℕ → Option Target
target_at class position = target_among (used_of class) position

-- each reference at a used position of an entity names an entity, and that is of the position's target
abbrev pub IsResolved : List Entity → Type 0
IsResolved all = (n position reference : ℕ) (entity : Entity) (target : Target) (field : Field)
    → entity_at all n ≡ Some entity → target_at entity.class position ≡ Some target → field_of entity position ≡ Some field
    → Contains (references_of field) reference
    → (other : Entity) × (entity_at all reference ≡ Some other) × IsTrue (accepts target other.class)
