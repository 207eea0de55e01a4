-- The lookup of a workingstep: what is looked up from it, in order, and where something is missing.
use Rattle.std.specs.Prelude.{ℕ, ℤ, Bool, true, false, not, ◌==◌, if◌then◌else◌, List, [], ◌∷◌, Option, Some, None, option_map, option_and_then, Result, Ok, Err, ◌||◌}
use Rattle.entity_types.specs.declared.class.Class.{Class}
use Rattle.entity_types.specs.declared.class.Class.TheVariants.{RoundHole, PlanarFace, ClosedPocket, LinearPath, LinearProfile, RectangularClosedProfile, GeneralClosedProfile, Polyline, Plane, Axis2Placement3d, CartesianPoint, Direction, Bidirectional, Unidirectional, MillingTechnology, MillingCuttingTool, MillingToolDimension, TolerancedLengthMeasure, NumericParameter, Drilling, Boring, PlaneRoughMilling, PlaneFinishMilling, BottomAndSideRoughMilling, BottomAndSideFinishMilling, Endmill, TwistDrill}
use Rattle.entity_types.specs.declared.field.Field.{Field}
use Rattle.entity_types.specs.declared.field.Field.TheVariants.{Absent, Ref, Value, Refs, Values}
use Rattle.entity_types.specs.declared.entity.Entity.{Entity}
use Rattle.entity_types.specs.Class.{code_of}
use Rattle.entity_types.specs.Entity.{field_of}
use Rattle.entity_types.specs.Target.{is_class_between}
use Rattle.step_def.specs.declared.fault.DefFault.{DefFault}
use Rattle.step_def.specs.declared.fault.DefFault.TheVariants.{Missing}
use Rattle.step_def.specs.declared.attributes.Coordinates.{Coordinates}
use Rattle.step_def.specs.declared.attributes.Quantity.{Quantity}
use Rattle.step_def.specs.declared.attributes.Placement.{Placement}
use Rattle.step_def.specs.declared.attributes.Technology.{Technology}
use Rattle.step_def.specs.declared.attributes.Outline.{Outline}
use Rattle.step_def.specs.declared.attributes.Outline.TheVariants.{Lengths, Corners, Other}
use Rattle.step_def.specs.declared.attributes.Strategy.{Strategy}
use Rattle.step_def.specs.declared.attributes.FeaturePart.{FeaturePart}
use Rattle.step_def.specs.declared.attributes.FeaturePart.TheVariants.{Hole, Face, Hollow}
use Rattle.step_def.specs.declared.attributes.OperationPart.{OperationPart}
use Rattle.step_def.specs.declared.attributes.OperationPart.TheVariants.{Drilling, Facing, Pocketing}
use Rattle.step_def.specs.declared.attributes.Lookup.{Lookup}
use Rattle.step_def.specs.Steps.{◌>>=◌}

-- ---- references

-- the instance that a field refers to, with its number
abbrev pub referred : (ℕ → Option Entity) → Option Field → Option (ℕ × Entity)
referred from (Some (Ref number)) = option_map (λ entity. (number, entity)) (from number)
referred from _ = None

-- this, or else position of n is missing
abbrev pub found : {A : Type 0} → ℕ → ℕ → Option A → Result A DefFault
found n position (Some x) = Ok x
found n position None = Err (Missing n position)

-- the entity is of the class
abbrev pub is_of : Class → Entity → Bool
is_of class entity = code_of entity.class == code_of class

-- the instance where it is of the class
abbrev pub of_class : Class → ℕ × Entity → Option (ℕ × Entity)
of_class class instance = if is_of class instance.1 then Some instance else None

-- the instance that position of instance n refers to, of any class
unfoldable pub instance_at : (ℕ → Option Entity) → ℕ → Entity → ℕ → Result (ℕ × Entity) DefFault
instance_at from n entity position = found n position (referred from (field_of entity position))

-- the instance that position of instance n refers to, of this class
unfoldable pub class_at : (ℕ → Option Entity) → ℕ → Entity → ℕ → Class → Result (ℕ × Entity) DefFault
class_at from n entity position class = found n position (option_and_then (of_class class) (referred from (field_of entity position)))

-- the field is `$`
abbrev pub is_absent : Option Field → Bool
is_absent (Some Absent) = true
is_absent _ = false

-- what is looked up at a position that is free: nothing where it is `$`
abbrev pub free : {A : Type 0} → Option Field → Result A DefFault → Result (Option A) DefFault
free field looked = if is_absent field then Ok None else (looked >>= λ x. Ok (Some x))

-- ---- points, directions and placements (after ISO 10303-42)

-- the coordinates that a field holds
abbrev pub coordinates_in : ℕ → Option Field → Option Coordinates
coordinates_in n (Some (Values count x y z)) = Some (record { number = n; x = x; y = y; z = z })
coordinates_in n _ = None

-- the coordinates of the point or direction that position of instance n refers to
unfoldable pub coordinates_at : (ℕ → Option Entity) → ℕ → Entity → ℕ → Class → Result Coordinates DefFault
coordinates_at from n entity position class = do
  instance ← class_at from n entity position class
  found instance.0 2 (coordinates_in instance.0 (field_of instance.1 2))

-- the placement that position of instance n refers to: its point, then its two directions, each of them free
unfoldable pub placement_at : (ℕ → Option Entity) → ℕ → Entity → ℕ → Result Placement DefFault
placement_at from n entity position = do
  placement ← class_at from n entity position Axis2Placement3d
  point ← coordinates_at from placement.0 placement.1 2 CartesianPoint
  axis ← free (field_of placement.1 3) (coordinates_at from placement.0 placement.1 3 Direction)
  reference ← free (field_of placement.1 4) (coordinates_at from placement.0 placement.1 4 Direction)
  Ok (record { point = point; axis = axis; reference = reference })

-- the placement of the plane that position of instance n refers to
unfoldable pub plane_at : (ℕ → Option Entity) → ℕ → Entity → ℕ → Result Placement DefFault
plane_at from n entity position = do
  plane ← class_at from n entity position Plane
  placement_at from plane.0 plane.1 2

-- ---- numbers

-- the number that a field holds
abbrev pub value_in : Option Field → Option ℤ
value_in (Some (Value x)) = Some x
value_in _ = None

-- the number of a measure: position 1 of a TOLERANCED_LENGTH_MEASURE, position 2 of a NUMERIC_PARAMETER
abbrev pub measure_of : Entity → Option ℤ
measure_of entity =
    if is_of TolerancedLengthMeasure entity then value_in (field_of entity 1)
    else if is_of NumericParameter entity then value_in (field_of entity 2)
    else None

-- the length that a field holds: a number, or a reference to a measure
abbrev pub length_in : (ℕ → Option Entity) → Option Field → Option ℤ
length_in from (Some (Value x)) = Some x
length_in from (Some (Ref number)) = option_and_then measure_of (from number)
length_in from _ = None

-- a number with the position that holds it or the reference to it
abbrev pub quantity : ℕ → ℕ → ℤ → Quantity
quantity n position x = record { number = n; position = position; value = x }

-- the number at position of instance n
unfoldable pub number_at : ℕ → Entity → ℕ → Result Quantity DefFault
number_at n entity position = found n position (option_map (quantity n position) (value_in (field_of entity position)))

-- the length at position of instance n
unfoldable pub length_at : (ℕ → Option Entity) → ℕ → Entity → ℕ → Result Quantity DefFault
length_at from n entity position = found n position (option_map (quantity n position) (length_in from (field_of entity position)))

-- the length at a position that is free
abbrev pub free_length_at : (ℕ → Option Entity) → ℕ → Entity → ℕ → Result (Option Quantity) DefFault
free_length_at from n entity position = free (field_of entity position) (length_at from n entity position)

-- the number at a position that is free
abbrev pub free_number_at : ℕ → Entity → ℕ → Result (Option Quantity) DefFault
free_number_at n entity position = free (field_of entity position) (number_at n entity position)

-- ---- features, by their classes

-- what a hole adds: its diameter
unfoldable pub hole_part : (ℕ → Option Entity) → ℕ × Entity → Result FeaturePart DefFault
hole_part from feature = do
  diameter ← length_at from feature.0 feature.1 6
  Ok (Hole diameter)

-- what a face adds: the length and the direction of its course, and the width of its profile
unfoldable pub face_part : (ℕ → Option Entity) → ℕ × Entity → Result FeaturePart DefFault
face_part from feature = do
  path ← class_at from feature.0 feature.1 6 LinearPath
  length ← length_at from path.0 path.1 2
  course ← coordinates_at from path.0 path.1 3 Direction
  profile ← class_at from feature.0 feature.1 7 LinearProfile
  width ← length_at from profile.0 profile.1 2
  Ok (Face (record { length = length; course = course; width = width }))

-- the coordinates of a point that polyline n names
unfoldable pub corner_at : (ℕ → Option Entity) → ℕ → ℕ → Result Coordinates DefFault
corner_at from n number =
    found n 2 (option_and_then (λ (point : Entity). if is_of CartesianPoint point then coordinates_in number (field_of point 2) else None) (from number))

-- each of these is a point, and together they are no outline
abbrev pub points_alone : (ℕ → Option Entity) → ℕ → List ℕ → Result Outline DefFault
points_alone from n [] = Ok (Other n)
points_alone from n (x ∷ xs) = corner_at from n x >>= λ _. points_alone from n xs

-- four points of polyline n
unfoldable pub four_corners : (ℕ → Option Entity) → ℕ → ℕ → ℕ → ℕ → ℕ → Result Outline DefFault
four_corners from n a b c d = do
  first ← corner_at from n a
  second ← corner_at from n b
  third ← corner_at from n c
  fourth ← corner_at from n d
  Ok (Corners (record { polyline = n; first = first; second = second; third = third; fourth = fourth; fifth = None }))

-- five points of polyline n
unfoldable pub five_corners : (ℕ → Option Entity) → ℕ → ℕ → ℕ → ℕ → ℕ → ℕ → Result Outline DefFault
five_corners from n a b c d e = do
  first ← corner_at from n a
  second ← corner_at from n b
  third ← corner_at from n c
  fourth ← corner_at from n d
  fifth ← corner_at from n e
  Ok (Corners (record { polyline = n; first = first; second = second; third = third; fourth = fourth; fifth = Some fifth }))

-- the points of polyline n: four, or five, or others
unfoldable pub corners_at : (ℕ → Option Entity) → ℕ → List ℕ → Result Outline DefFault
corners_at from n (a ∷ b ∷ c ∷ d ∷ []) = four_corners from n a b c d
corners_at from n (a ∷ b ∷ c ∷ d ∷ e ∷ []) = five_corners from n a b c d e
corners_at from n numbers = points_alone from n numbers

-- the corners that the field of polyline n names
abbrev pub corners_in : (ℕ → Option Entity) → ℕ → Option Field → Result Outline DefFault
corners_in from n (Some (Refs numbers)) = corners_at from n numbers
corners_in from n _ = Err (Missing n 2)

-- the outline that a contour is, a polyline
unfoldable pub contour_of : (ℕ → Option Entity) → ℕ × Entity → Result Outline DefFault
contour_of from contour = if is_of Polyline contour.1 then corners_in from contour.0 (field_of contour.1 2) else Ok (Other contour.0)

-- the outline of a pocket: the sides of a rectangular profile, or the contour of a general one
unfoldable pub outline_of : (ℕ → Option Entity) → ℕ × Entity → Result Outline DefFault
outline_of from boundary =
    if is_of RectangularClosedProfile boundary.1 then (do
      length ← length_at from boundary.0 boundary.1 2
      width ← length_at from boundary.0 boundary.1 3
      Ok (Lengths length width))
    else if is_of GeneralClosedProfile boundary.1 then (instance_at from boundary.0 boundary.1 2 >>= λ contour. contour_of from contour)
    else Ok (Other boundary.0)

-- what a pocket adds: its outline
unfoldable pub pocket_part : (ℕ → Option Entity) → ℕ × Entity → Result FeaturePart DefFault
pocket_part from feature = do
  boundary ← instance_at from feature.0 feature.1 11
  outline ← outline_of from boundary
  Ok (Hollow outline)

-- what the feature of step n adds by its class
unfoldable pub feature_part_of : (ℕ → Option Entity) → ℕ → ℕ × Entity → Result FeaturePart DefFault
feature_part_of from n feature =
    if is_of RoundHole feature.1 then hole_part from feature
    else if is_of PlanarFace feature.1 then face_part from feature
    else if is_of ClosedPocket feature.1 then pocket_part from feature
    else Err (Missing n 3)

-- ---- operations, by their classes

-- what each operation has: a retract, which is free, a tool, and a technology with a feed and a spindle speed
unfoldable pub technology_of : (ℕ → Option Entity) → ℕ × Entity → Result Technology DefFault
technology_of from operation = do
  retract ← free_length_at from operation.0 operation.1 4
  tool ← class_at from operation.0 operation.1 6 MillingCuttingTool
  technology ← class_at from operation.0 operation.1 7 MillingTechnology
  feed ← number_at technology.0 technology.1 1
  spindle ← number_at technology.0 technology.1 4
  Ok (record { retract = retract; tool = tool.0; feed = feed; spindle = spindle })

-- drilling, center drilling, reaming and boring
abbrev pub is_drilling : Entity → Bool
is_drilling operation = is_class_between Drilling Boring operation.class

-- rough and finish milling of a plane
abbrev pub is_facing : Entity → Bool
is_facing operation = is_class_between PlaneRoughMilling PlaneFinishMilling operation.class

-- rough and finish milling of a bottom and its sides
abbrev pub is_pocketing : Entity → Bool
is_pocketing operation = is_class_between BottomAndSideRoughMilling BottomAndSideFinishMilling operation.class

-- a body of a milling cutting tool: an endmill, plain, tapered or with a ball, a facemill or a twist drill
abbrev pub is_tool_body : Entity → Bool
is_tool_body body = is_class_between Endmill TwistDrill body.class

-- a strategy of milling a plane
abbrev pub is_strategy : Entity → Bool
is_strategy strategy = is_of Bidirectional strategy || is_of Unidirectional strategy

-- the instance that position of instance n refers to, where it passes the test
unfoldable pub kind_at : (Entity → Bool) → (ℕ → Option Entity) → ℕ → Entity → ℕ → Result (ℕ × Entity) DefFault
kind_at test from n entity position =
    found n position (option_and_then (λ (instance : ℕ × Entity). if test instance.1 then Some instance else None) (referred from (field_of entity position)))

-- the diameter of the tool of a milling operation
unfoldable pub diameter_at : (ℕ → Option Entity) → ℕ × Entity → Result Quantity DefFault
diameter_at from operation = do
  tool ← class_at from operation.0 operation.1 6 MillingCuttingTool
  body ← kind_at is_tool_body from tool.0 tool.1 2
  dimension ← class_at from body.0 body.1 1 MillingToolDimension
  length_at from dimension.0 dimension.1 1

-- what drilling adds: a dwell, which is free
unfoldable pub drilling_part : ℕ × Entity → Result OperationPart DefFault
drilling_part operation = do
  dwell ← free_number_at operation.0 operation.1 12
  Ok (Drilling dwell)

-- the strategy of milling a plane with its overlap, both free: without one it is bidirectional
unfoldable pub strategy_of : (ℕ → Option Entity) → ℕ × Entity → Result Strategy DefFault
strategy_of from operation =
    if is_absent (field_of operation.1 12) then Ok (record { both = true; overlap = None })
    else (do
      strategy ← kind_at is_strategy from operation.0 operation.1 12
      overlap ← free_number_at strategy.0 strategy.1 1
      Ok (record { both = is_of Bidirectional strategy.1; overlap = overlap }))

-- what milling a plane adds: the tool's diameter, the strategy, the greatest depth of a level, and what is left at the bottom
unfoldable pub facing_part : (ℕ → Option Entity) → ℕ × Entity → Result OperationPart DefFault
facing_part from operation = do
  diameter ← diameter_at from operation
  strategy ← strategy_of from operation
  axial ← free_length_at from operation.0 operation.1 13
  bottom ← free_length_at from operation.0 operation.1 14
  Ok (Facing (record { diameter = diameter; strategy = strategy; axial = axial; bottom = bottom }))

-- what milling a pocket adds: the tool's diameter, the greatest depth of a level, the distance of the rings, and what is left at
-- the sides and at the bottom
unfoldable pub pocketing_part : (ℕ → Option Entity) → ℕ × Entity → Result OperationPart DefFault
pocketing_part from operation = do
  diameter ← diameter_at from operation
  axial ← free_length_at from operation.0 operation.1 13
  radial ← free_length_at from operation.0 operation.1 14
  side ← free_length_at from operation.0 operation.1 15
  bottom ← free_length_at from operation.0 operation.1 16
  Ok (Pocketing (record { diameter = diameter; axial = axial; radial = radial; side = side; bottom = bottom }))

-- what the operation of step n adds by its class
unfoldable pub operation_part_of : (ℕ → Option Entity) → ℕ → ℕ × Entity → Result OperationPart DefFault
operation_part_of from n operation =
    if is_drilling operation.1 then drilling_part operation
    else if is_facing operation.1 then facing_part from operation
    else if is_pocketing operation.1 then pocketing_part from operation
    else Err (Missing n 4)

-- ---- all that is looked up

-- all that is looked up from step n: the security plane, the feature's placement and the plane at its bottom, what the feature
-- adds, what each operation has, and what the operation adds
unfoldable pub lookup_of : (ℕ → Option Entity) → ℕ → Entity → Result Lookup DefFault
lookup_of from n step = do
  security ← plane_at from n step 2
  feature ← instance_at from n step 3
  placement ← placement_at from feature.0 feature.1 4
  floor ← plane_at from feature.0 feature.1 5
  feature_part ← feature_part_of from n feature
  operation ← instance_at from n step 4
  technology ← technology_of from operation
  operation_part ← operation_part_of from n operation
  Ok (record {
    feature = feature.0;
    operation = operation.0;
    has_toolpath = not (is_absent (field_of operation.1 1));
    security = security;
    placement = placement;
    floor = floor;
    feature_part = feature_part;
    technology = technology;
    operation_part = operation_part;
  })
