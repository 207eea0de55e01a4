-- What is read from an entity: the field at a position, and the references that it uses.
use Rattle.std.specs.Prelude.{ℕ, Bool, false, ◌||◌, ◌==◌, if◌then◌else◌, List, [], ◌∷◌, Option, Some, None, flat_map}
use Rattle.entity_types.specs.declared.class.Class.{Class}
use Rattle.entity_types.specs.declared.table.UsedPosition.{UsedPosition}
use Rattle.entity_types.specs.declared.field.Field.{Field}
use Rattle.entity_types.specs.declared.field.Field.TheVariants.{Ref, Refs}
use Rattle.entity_types.specs.declared.entity.Entity.{Entity}
use Rattle.entity_types.specs.Table.{used_of}

-- the position is one of these
abbrev pub is_among : ℕ → List UsedPosition → Bool
is_among position [] = false
is_among position (used ∷ others) = used.position == position || is_among position others

-- the class uses the position
abbrev pub is_used : Class → ℕ → Bool
is_used class position = is_among position (used_of class)

-- the field that stands at the position, where these positions are used and these are their fields
abbrev pub field_at : List UsedPosition → List Field → ℕ → Option Field
field_at [] fields position = None
field_at (used ∷ others) [] position = None
field_at (used ∷ others) (field ∷ fields) position =
    if used.position == position then Some field else field_at others fields position

-- the field at a position of an entity, or None where its class doesn't use the position
abbrev pub field_of : Entity → ℕ → Option Field
field_of entity position = field_at (used_of entity.class) entity.fields position

-- the references of a field, in order
abbrev pub references_of : Field → List ℕ
references_of (Ref number) = number ∷ []
references_of (Refs numbers) = numbers
references_of _ = []

-- the references that an entity uses: those in its used positions, in order
abbrev pub uses_of : Entity → List ℕ
uses_of entity = flat_map references_of entity.fields
