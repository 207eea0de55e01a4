-- Which fields may stand at which used positions.
use Rattle.std.specs.Prelude.{ℕ, ℤ, Bool, true, false, ◌&&◌, ◌||◌, ◌==◌, nat_le, List, [], ◌∷◌, unsigned_abs}
use Rattle.entity_types.specs.declared.class.Class.{Class}
use Rattle.entity_types.specs.declared.table.Kind.{Kind}
use Rattle.entity_types.specs.declared.table.Kind.TheVariants.{Reference, References, SomeReferences, Numeral, Length, Operand, Coordinates, Flag}
use Rattle.entity_types.specs.declared.table.UsedPosition.{UsedPosition}
use Rattle.entity_types.specs.declared.field.Field.{Field}
use Rattle.entity_types.specs.declared.field.Field.TheVariants.{Absent, Present, Ref, Value, Refs, Values}
use Rattle.nc_base.specs.declared.numbers.TheConstants.{MAX_THOUSANDTHS}
use Rattle.entity_types.specs.Table.{used_of}

-- of at most the greatest size, 10^15 thousandths
abbrev pub in_range : ℤ → Bool
in_range x = nat_le (unsigned_abs x) MAX_THOUSANDTHS

-- only whether there is anything is looked at
abbrev pub is_flag : Kind → Bool
is_flag Flag = true
is_flag _ = false

-- a reference may stand there
abbrev pub takes_reference : Kind → Bool
takes_reference Reference = true
takes_reference Length = true
takes_reference Operand = true
takes_reference _ = false

-- a number may stand there
abbrev pub takes_number : Kind → Bool
takes_number Numeral = true
takes_number Length = true
takes_number Operand = true
takes_number _ = false

-- this list of references may stand there
abbrev pub takes_references : Kind → List ℕ → Bool
takes_references References numbers = true
takes_references SomeReferences [] = false
takes_references SomeReferences (number ∷ numbers) = true
takes_references _ numbers = false

-- a list of numbers may stand there
abbrev pub takes_coordinates : Kind → Bool
takes_coordinates Coordinates = true
takes_coordinates _ = false

-- zero, where the coordinate is past the count
abbrev pub is_zero_past : ℕ → ℕ → ℤ → Bool
is_zero_past count place x = nat_le place count || unsigned_abs x == 0

-- one to three numbers within range, those left out 0
abbrev pub are_coordinates : ℕ → ℤ → ℤ → ℤ → Bool
are_coordinates count x y z =
    nat_le 1 count && nat_le count 3 && in_range x && in_range y && in_range z && is_zero_past count 2 y && is_zero_past count 3 z

-- the field, which is not Absent, may stand where this kind is wanted
abbrev pub kind_fits : Kind → Field → Bool
kind_fits kind Absent = false
kind_fits kind Present = is_flag kind
kind_fits kind (Ref number) = takes_reference kind
kind_fits kind (Value x) = takes_number kind && in_range x
kind_fits kind (Refs numbers) = takes_references kind numbers
kind_fits kind (Values count x y z) = takes_coordinates kind && are_coordinates count x y z

-- the field may stand at the used position; Absent only at a flag or where `$` may stand
abbrev pub field_fits : UsedPosition → Field → Bool
field_fits used Absent = used.optional || is_flag used.kind
field_fits used field = kind_fits used.kind field

-- there is one field for each of the positions, in their order, and each may stand there
abbrev pub all_fit : List UsedPosition → List Field → Bool
all_fit [] [] = true
all_fit [] (field ∷ fields) = false
all_fit (used ∷ others) [] = false
all_fit (used ∷ others) (field ∷ fields) = field_fits used field && all_fit others fields

-- the fields are those of an entity of the class
abbrev pub fields_fit : Class → List Field → Bool
fields_fit class fields = all_fit (used_of class) fields
