-- What an executable of a store says: its kind, its parts in order, the channel that it names, and its expression (ISO 14649-10, executables).
use Rattle.std.specs.Prelude.{ℕ, List, [], ◌∷◌, map, Option, Some, None}
use Rattle.std.specs.Option.{option_map_or}
use Rattle.exec_tree.specs.declared.kind.Kind.{Kind}
use Rattle.exec_tree.specs.declared.kind.Kind.TheVariants as kind
use Rattle.entity_types.specs.declared.class.Class.{Class}
use Rattle.entity_types.specs.declared.class.Class.TheVariants.{Workplan, Parallel, NonSequential, Selective, IfStatement, WhileStatement, Assignment, SetMark, WaitForMark, MachiningWorkingstep}
use Rattle.entity_types.specs.declared.field.Field.{Field}
use Rattle.entity_types.specs.declared.field.Field.TheVariants.{Ref}
use Rattle.entity_types.specs.declared.entity.Entity.{Entity}
use Rattle.entity_types.specs.Entity.{field_of, references_of}

-- the one reference of a field, or None for `$`
abbrev pub reference_of : Field → Option ℕ
reference_of (Ref n) = Some n
reference_of _ = None

-- the references at a position, and the one reference there
abbrev pub references_at : Entity → ℕ → List ℕ
references_at entity position = option_map_or references_of (field_of entity position) []

abbrev pub reference_at : Entity → ℕ → Option ℕ
reference_at entity position = option_map_or reference_of (field_of entity position) None

-- the kind of node that a class is. What is no executable stands in no tree of a resolved store; else it would be as a note
abbrev pub kind_of : Class → Kind
kind_of Workplan = kind.Plan
kind_of Parallel = kind.Par
kind_of NonSequential = kind.NonSeq
kind_of Selective = kind.Sel
kind_of IfStatement = kind.If
kind_of WhileStatement = kind.While
kind_of Assignment = kind.Assign
kind_of SetMark = kind.Set
kind_of WaitForMark = kind.Wait
kind_of MachiningWorkingstep = kind.Work
kind_of _ = kind.Note

-- the elements of a workplan, a parallel, a non-sequential or a selective; the branches of an if, for yes and for no; the body of a while.
-- None is a `$` branch
abbrev pub parts_by : Kind → Entity → List (Option ℕ)
parts_by kind.Plan entity = map Some (references_at entity 2)
parts_by kind.Par entity = map Some (references_at entity 2)
parts_by kind.NonSeq entity = map Some (references_at entity 2)
parts_by kind.Sel entity = map Some (references_at entity 2)
parts_by kind.If entity = reference_at entity 3 ∷ reference_at entity 4 ∷ []
parts_by kind.While entity = reference_at entity 3 ∷ []
parts_by _ entity = []

abbrev pub parts_of : Entity → List (Option ℕ)
parts_of entity = parts_by (kind_of entity.class) entity

-- the channel that a workplan names
abbrev pub channel_by : Kind → Entity → Option ℕ
channel_by kind.Plan entity = reference_at entity 3
channel_by _ entity = None

abbrev pub channel_named : Entity → Option ℕ
channel_named entity = channel_by (kind_of entity.class) entity

-- the expression of an executable: an if's and a while's condition, the value that is assigned
abbrev pub expression_by : Kind → Entity → Option Field
expression_by kind.If entity = field_of entity 2
expression_by kind.While entity = field_of entity 2
expression_by kind.Assign entity = field_of entity 3
expression_by _ entity = None

abbrev pub expression_of : Entity → Option Field
expression_of entity = expression_by (kind_of entity.class) entity

-- of a number that names no entity
abbrev pub kind_at : Option Entity → Kind
kind_at found = option_map_or (λ entity. kind_of entity.class) found kind.Note

abbrev pub parts_at : Option Entity → List (Option ℕ)
parts_at found = option_map_or parts_of found []

abbrev pub channel_at : Option Entity → Option ℕ
channel_at found = option_map_or channel_named found None
