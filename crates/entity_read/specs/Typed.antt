-- What an instance is to this profile: its class by its keyword, and the field at each used position by the kind of the position.
use Rattle.std.specs.Prelude.{◌≡◌, ℕ, ◌-◌, ℤ, pos, Bool, true, false, ◌||◌, List, [], ◌∷◌, slice_get, Option, Some, None, option_map, option_and_then, Result, Ok, Err, if◌then◌else◌}
use Rattle.std.specs.Option.{option_map_or, option_or}
use Rattle.p21_lex.specs.declared.token.TokenKind.TheVariants as kinds
use Rattle.p21_parse.specs.Tree.{Tree, one, reference, list, typed, Trees, none, first, listed, PartTree, InstanceTree}
use Rattle.units_um.specs.Thousandths.{thousandths_of}
use Rattle.units_um.specs.declared.fault.UnitErr.{UnitErr}
use Rattle.entity_types.specs.declared.class.Class.{Class}
use Rattle.entity_types.specs.declared.class.Class.TheVariants.{Opaque}
use Rattle.entity_types.specs.declared.table.Kind.{Kind}
use Rattle.entity_types.specs.declared.table.Kind.TheVariants.{Reference, References, SomeReferences, Numeral, Length, Operand, Coordinates, Flag}
use Rattle.entity_types.specs.declared.table.UsedPosition.{UsedPosition}
use Rattle.entity_types.specs.declared.field.Field.{Field}
use Rattle.entity_types.specs.declared.field.Field.TheVariants.{Absent, Present, Ref, Value, Refs, Values}
use Rattle.entity_types.specs.declared.entity.Entity.{Entity}
use Rattle.entity_types.specs.Class.{class_of}
use Rattle.entity_types.specs.Fits.{is_flag}
use Rattle.entity_types.specs.Table.{used_of}
use Rattle.entity_read.specs.declared.error.TypeErr.{TypeErr}
use Rattle.entity_read.specs.declared.error.TypeErr.TheVariants.{BadAttribute, NoMemory}

infixl 10 ◌>>=◌
abbrev pub ◌>>=◌ : {A B : Type 0} → Option A → (A → Option B) → Option B
None >>= f = None
(Some x) >>= f = f x

-- `$`
abbrev pub is_unset : Tree → Bool
is_unset (one kinds.Dollar text) = true
is_unset _ = false

-- the value that is there, if it is a value of this type
abbrev pub value_in : Result ℤ UnitErr → Option ℤ
value_in (Ok x) = Some x
value_in (Err e) = None

-- an Int or a Real in thousandths, within range
abbrev pub plain_number : Tree → Option ℤ
plain_number (one kinds.Int text) = value_in (thousandths_of text)
plain_number (one kinds.Real text) = value_in (thousandths_of text)
plain_number _ = None

-- the only one of these, if there is only one
abbrev pub only_of : Trees → Option Tree
only_of (first tree none) = Some tree
only_of _ = None

-- a number: an Int or a Real, or a typed parameter around one
abbrev pub number_in : Tree → Option ℤ
number_in (typed keyword trees) = option_and_then plain_number (only_of trees)
number_in tree = plain_number tree

-- a reference
abbrev pub reference_in : Tree → Option ℕ
reference_in (reference number) = Some number
reference_in _ = None

-- these are references and nothing else
abbrev pub all_references : List Tree → Option (List ℕ)
all_references [] = Some []
all_references (tree ∷ trees) = option_and_then (λ number. option_map (λ numbers. number ∷ numbers) (all_references trees)) (reference_in tree)

-- the parameters of a list
abbrev pub items_of : Tree → Option (List Tree)
items_of (list trees) = Some (listed trees)
items_of _ = None

-- a list of references
abbrev pub references_in : Tree → Option (List ℕ)
references_in tree = option_and_then all_references (items_of tree)

-- one to three numbers; those left out are 0
abbrev pub coordinates_of : List Tree → Option Field
coordinates_of (x ∷ []) = do
  x ← number_in x
  Some (Values 1 x (pos 0) (pos 0))
coordinates_of (x ∷ y ∷ []) = do
  x ← number_in x
  y ← number_in y
  Some (Values 2 x y (pos 0))
coordinates_of (x ∷ y ∷ z ∷ []) = do
  x ← number_in x
  y ← number_in y
  z ← number_in z
  Some (Values 3 x y z)
coordinates_of _ = None

-- a list of one to three numbers
abbrev pub coordinates_in : Tree → Option Field
coordinates_in tree = option_and_then coordinates_of (items_of tree)

-- at least one reference
abbrev pub some_references : List ℕ → Option Field
some_references [] = None
some_references (number ∷ numbers) = Some (Refs (number ∷ numbers))

-- a reference, or else a number
abbrev pub reference_or_number : Tree → Option Field
reference_or_number tree = option_or (option_map Ref (reference_in tree)) (option_map Value (number_in tree))

-- the field of something other than `$`, if it is of the kind
abbrev pub stated_field : Kind → Tree → Option Field
stated_field Reference tree = option_map Ref (reference_in tree)
stated_field References tree = option_map Refs (references_in tree)
stated_field SomeReferences tree = option_and_then some_references (references_in tree)
stated_field Numeral tree = option_map Value (number_in tree)
stated_field Length tree = reference_or_number tree
stated_field Operand tree = reference_or_number tree
stated_field Coordinates tree = coordinates_in tree
stated_field Flag tree = Some Present

-- the field of `$`, if it may stand there
abbrev pub unset_field : UsedPosition → Option Field
unset_field used = if used.optional || is_flag used.kind then Some Absent else None

-- the field of a parameter at a used position, if it is of the position's kind
abbrev pub field_in : UsedPosition → Tree → Option Field
field_in used tree = if is_unset tree then unset_field used else stated_field used.kind tree

-- the field at a used position, if what stands there is of its kind; past the last parameter there stands `$`
abbrev pub field_among : UsedPosition → List Tree → Option Field
field_among used trees = option_map_or (field_in used) (slice_get trees (used.position - 1)) (unset_field used)

-- one more field in front
abbrev pub with_first : Field → Result (List Field) ℕ → Result (List Field) ℕ
with_first field (Ok fields) = Ok (field ∷ fields)
with_first field (Err position) = Err position

-- the fields at these used positions, or the first of the positions where what stands there is not of its kind
abbrev pub fields_among : List UsedPosition → List Tree → Result (List Field) ℕ
fields_among [] trees = Ok []
fields_among (used ∷ others) trees =
    option_map_or (λ field. with_first field (fields_among others trees)) (field_among used trees) (Err used.position)

-- the keyword and the parameters of a simple instance of one part
abbrev pub simple_part : InstanceTree → Option PartTree
simple_part instance = if instance.complex then None else only_part instance.parts
  where
    only_part : List PartTree → Option PartTree
    only_part (part ∷ []) = Some part
    only_part _ = None

-- the class of an instance
abbrev pub class_in : InstanceTree → Class
class_in instance = option_map_or (λ part. class_of part.keyword) (simple_part instance) Opaque

-- the parameters of an instance of one part
abbrev pub parameters_in : InstanceTree → List Tree
parameters_in instance = option_map_or (λ part. listed part.parameters) (simple_part instance) []

-- the fields of an instance, or the least used position where what stands there is not of its kind
abbrev pub fields_of : InstanceTree → Result (List Field) ℕ
fields_of instance = fields_among (used_of (class_in instance)) (parameters_in instance)

-- what an entity is, without the proof that its fields fit
pub record EntityTree : Type 0 where
  pub number : ℕ
  pub class : Class
  pub fields : List Field

abbrev pub entity_of : Entity → EntityTree
entity_of entity = record { number = entity.number; class = entity.class; fields = entity.fields }

-- what reading fields answers: the fields, or the number of the instance with that position, unless memory ran out
abbrev pub Lists : ℕ → Result (List Field) ℕ → Result (List Field) TypeErr → Type 0
Lists number read (Ok fields) = read ≡ Ok fields
Lists number read (Err (BadAttribute at position)) = (at ≡ number) × (read ≡ Err position)
Lists number read (Err NoMemory) = Unit {0}

-- the entity of an instance, or the least used position where what stands there is not of its kind
abbrev pub typed_of : InstanceTree → Result EntityTree ℕ
typed_of instance = with_fields (fields_of instance)
  where
    with_fields : Result (List Field) ℕ → Result EntityTree ℕ
    with_fields (Ok fields) = Ok (record { number = instance.number; class = class_in instance; fields = fields })
    with_fields (Err position) = Err position

-- what typing an instance answers: its entity, or the instance's number with that position, unless memory ran out
abbrev pub Types : InstanceTree → Result Entity TypeErr → Type 0
Types instance (Ok entity) = typed_of instance ≡ Ok (entity_of entity)
Types instance (Err (BadAttribute number position)) = (number ≡ instance.number) × (typed_of instance ≡ Err position)
Types instance (Err NoMemory) = Unit {0}
