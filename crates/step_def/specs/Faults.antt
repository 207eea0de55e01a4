-- The faults of what a lookup found: in order, those of each kind as they stand in the lookup.
use Rattle.std.specs.Prelude.{ℤ, pos, neg_ℤ, ◌-ℤ◌, int_le, Bool, true, not, ◌&&◌, ◌||◌, if◌then◌else◌, List, [], ◌∷◌, Option, Some, None, option_map, Result, Ok, Err, ⊤}
use Rattle.std.specs.Option.{option_map_or}
use Rattle.std.specs.Int.{is_positive}
use Rattle.std.specs.Ordering.{int_eq}
use Rattle.step_def.specs.declared.fault.DefFault.{DefFault}
use Rattle.step_def.specs.declared.fault.DefFault.TheVariants.{HasToolpath, BadDirection, Mismatch, NotRectangle, NotPositive, OutOfRange}
use Rattle.step_def.specs.declared.ranges.TheConstants.{MAX_VALUE}
use Rattle.step_def.specs.declared.attributes.Coordinates.{Coordinates}
use Rattle.step_def.specs.declared.attributes.Quantity.{Quantity}
use Rattle.step_def.specs.declared.attributes.Ranged.{Ranged}
use Rattle.step_def.specs.declared.attributes.Placement.{Placement}
use Rattle.step_def.specs.declared.attributes.CornerPoints.{CornerPoints}
use Rattle.step_def.specs.declared.attributes.Outline.{Outline}
use Rattle.step_def.specs.declared.attributes.Outline.TheVariants.{Lengths, Corners, Other}
use Rattle.step_def.specs.declared.attributes.FeaturePart.{FeaturePart}
use Rattle.step_def.specs.declared.attributes.FeaturePart.TheVariants.{Hole, Face, Hollow}
use Rattle.step_def.specs.declared.attributes.OperationPart.{OperationPart}
use Rattle.step_def.specs.declared.attributes.OperationPart.TheVariants.{Drilling, Facing, Pocketing}
use Rattle.step_def.specs.declared.attributes.Area.{Area}
use Rattle.step_def.specs.declared.attributes.Area.TheVariants.{Centred, Cornered}
use Rattle.step_def.specs.declared.attributes.Machining.{Machining}
use Rattle.step_def.specs.declared.attributes.Machining.TheVariants.{DrillHole, MillFace, MillPocket}
use Rattle.step_def.specs.declared.attributes.Lookup.{Lookup}
use Rattle.step_def.specs.Steps.{◌>>=◌}
use Rattle.step_def.specs.Lookup.{quantity}

-- nothing where the test holds, else the fault
abbrev pub unless : Bool → DefFault → Result ⊤ DefFault
unless holds fault = if holds then Ok tt else Err fault

-- ---- directions

-- a placement's z axis points up: (0, 0, c) with c above 0
abbrev pub is_upright : Coordinates → Bool
is_upright d = int_eq d.x (pos 0) && int_eq d.y (pos 0) && is_positive d.z

-- a placement's x axis is that of the machine: (c, 0, 0) with c above 0
abbrev pub is_along_x : Coordinates → Bool
is_along_x d = is_positive d.x && int_eq d.y (pos 0) && int_eq d.z (pos 0)

-- a direction that is there has to pass the test
abbrev pub direction_check : (Coordinates → Bool) → Option Coordinates → Result ⊤ DefFault
direction_check test None = Ok tt
direction_check test (Some d) = unless (test d) (BadDirection d.number)

-- a placement isn't turned
abbrev pub placement_check : Placement → Result ⊤ DefFault
placement_check placement = direction_check is_upright placement.axis >>= λ _. direction_check is_along_x placement.reference

-- a course runs along x or along y: its z is 0, and one of its x and y is
abbrev pub is_straight : Coordinates → Bool
is_straight d = int_eq d.z (pos 0) && ((int_eq d.x (pos 0) && not (int_eq d.y (pos 0))) || (not (int_eq d.x (pos 0)) && int_eq d.y (pos 0)))

-- the course of a face runs along x or along y
abbrev pub course_check : FeaturePart → Result ⊤ DefFault
course_check (Hole diameter) = Ok tt
course_check (Face face) = unless (is_straight face.course) (BadDirection face.course.number)
course_check (Hollow outline) = Ok tt

-- no placement of the lookup is turned, and a course is straight
unfoldable pub directions_check : Lookup → Result ⊤ DefFault
directions_check lookup =
    placement_check lookup.security >>= λ _. placement_check lookup.placement >>= λ _. placement_check lookup.floor >>= λ _. course_check lookup.feature_part

-- ---- rectangles, and operations that fit their features

-- the side between these points runs along x and isn't zero
abbrev pub runs_along_x : Coordinates → Coordinates → Bool
runs_along_x from to = int_eq from.y to.y && not (int_eq from.x to.x)

-- the side between these points runs along y and isn't zero
abbrev pub runs_along_y : Coordinates → Coordinates → Bool
runs_along_y from to = int_eq from.x to.x && not (int_eq from.y to.y)

-- a fifth point has the x and y of the first
abbrev pub is_closed : CornerPoints → Bool
is_closed p = option_map_or (λ (fifth : Coordinates). int_eq fifth.x p.first.x && int_eq fifth.y p.first.y) p.fifth true

-- the sides run along x and along y in turn, the first along x
abbrev pub turns_from_x : CornerPoints → Bool
turns_from_x p = runs_along_x p.first p.second && runs_along_y p.second p.third && runs_along_x p.third p.fourth && runs_along_y p.fourth p.first

-- the sides run along x and along y in turn, the first along y
abbrev pub turns_from_y : CornerPoints → Bool
turns_from_y p = runs_along_y p.first p.second && runs_along_x p.second p.third && runs_along_y p.third p.fourth && runs_along_x p.fourth p.first

-- the points are the corners of a rectangle, one after the other
abbrev pub is_rectangle : CornerPoints → Bool
is_rectangle p = (turns_from_x p || turns_from_y p) && is_closed p

-- the rectangle of an outline
abbrev pub area_of : Outline → Result Area DefFault
area_of (Lengths length width) = Ok (Centred length width)
area_of (Corners points) = if is_rectangle points then Ok (Cornered points) else Err (NotRectangle points.polyline)
area_of (Other n) = Err (NotRectangle n)

-- what the operation makes of the feature: drilling makes holes, milling of planes makes faces, and milling of bottoms and sides
-- makes pockets
abbrev pub made_by : Lookup → FeaturePart → OperationPart → Result Machining DefFault
made_by lookup (Hole diameter) (Drilling dwell) = Ok (DrillHole diameter dwell)
made_by lookup (Face face) (Facing cut) = Ok (MillFace face cut)
made_by lookup (Hollow outline) (Pocketing cut) = area_of outline >>= λ area. Ok (MillPocket area cut)
made_by lookup (Hole diameter) _ = Err (Mismatch lookup.operation lookup.feature)
made_by lookup (Face face) _ = Err (Mismatch lookup.operation lookup.feature)
made_by lookup (Hollow outline) _ = Err (Mismatch lookup.operation lookup.feature)

-- ---- numbers that have to be above 0

-- each of these that is there is above 0
abbrev pub all_positive : List (Option Quantity) → Result ⊤ DefFault
all_positive [] = Ok tt
all_positive (None ∷ xs) = all_positive xs
all_positive (Some x ∷ xs) = if is_positive x.value then all_positive xs else Err (NotPositive x.number x.position)

-- how deep the feature is: its bottom plane lies so far below its placement
abbrev pub depth_of : Lookup → ℤ
depth_of lookup = neg_ℤ lookup.floor.point.z

-- those of a rectangle
abbrev pub area_positives : Area → List (Option Quantity)
area_positives (Centred length width) = Some length ∷ Some width ∷ []
area_positives (Cornered points) = []

-- those of a feature
abbrev pub feature_positives : Machining → List (Option Quantity)
feature_positives (DrillHole diameter dwell) = Some diameter ∷ []
feature_positives (MillFace face cut) = Some face.length ∷ Some face.width ∷ []
feature_positives (MillPocket area cut) = area_positives area

-- those of an operation
abbrev pub operation_positives : Machining → List (Option Quantity)
operation_positives (DrillHole diameter dwell) = []
operation_positives (MillFace face cut) = Some cut.diameter ∷ cut.axial ∷ []
operation_positives (MillPocket area cut) = Some cut.diameter ∷ cut.axial ∷ cut.radial ∷ []

-- the numbers that have to be above 0 are so, the first fault in the order of the lookup; the depth is blamed on the feature's position 5
unfoldable pub positives_check : Lookup → Machining → Result ⊤ DefFault
positives_check lookup machining =
    unless (is_positive (depth_of lookup)) (NotPositive lookup.feature 5) >>= λ _. all_positive (feature_positives machining)
    >>= λ _. unless (is_positive lookup.technology.feed.value) (NotPositive lookup.technology.feed.number lookup.technology.feed.position) >>= λ _. all_positive (operation_positives machining)

-- ---- numbers that have to be within a range

-- the number is within its range
abbrev pub is_in_range : Ranged → Bool
is_in_range x = int_le x.least x.value && int_le x.value x.greatest

-- each of these that is there is within its range
abbrev pub all_in_range : List (Option Ranged) → Result ⊤ DefFault
all_in_range [] = Ok tt
all_in_range (None ∷ xs) = all_in_range xs
all_in_range (Some x ∷ xs) = if is_in_range x then all_in_range xs else Err (OutOfRange x.number x.position)

-- between these ends
abbrev pub between : ℤ → ℤ → Quantity → Ranged
between least greatest x = record { number = x.number; position = x.position; value = x.value; least = least; greatest = greatest }

-- within the greatest size, upwards and downwards
abbrev pub is_sized : ℤ → Bool
is_sized z = int_le (neg_ℤ MAX_VALUE) z && int_le z MAX_VALUE

-- the same, as a range
abbrev pub sized : Quantity → Ranged
sized = between (neg_ℤ MAX_VALUE) MAX_VALUE

-- not below 0, and at most the greatest size
abbrev pub unsigned : Quantity → Ranged
unsigned = between (pos 0) MAX_VALUE

-- a part of the whole, in thousandths, and less than the whole
abbrev pub partial : Quantity → Ranged
partial = between (pos 0) (pos 999)

-- not below 0, and less than the depth
abbrev pub shallower : Lookup → Quantity → Ranged
shallower lookup = between (pos 0) (depth_of lookup -ℤ pos 1)

-- a coordinate of a point, which is blamed on the point's position 2
abbrev pub coordinate : Coordinates → ℤ → Option Ranged
coordinate point x = Some (sized (quantity point.number 2 x))

-- the x and the y of a point
abbrev pub x_range : Coordinates → Ranged
x_range point = sized (quantity point.number 2 point.x)

abbrev pub y_range : Coordinates → Ranged
y_range point = sized (quantity point.number 2 point.y)

-- the x and the y of a polyline's points
abbrev pub corner_ranges : CornerPoints → List (Option Ranged)
corner_ranges p =
    coordinate p.first p.first.x ∷ coordinate p.first p.first.y ∷ coordinate p.second p.second.x ∷ coordinate p.second p.second.y
    ∷ coordinate p.third p.third.x ∷ coordinate p.third p.third.y ∷ coordinate p.fourth p.fourth.x ∷ coordinate p.fourth p.fourth.y
    ∷ option_map x_range p.fifth ∷ option_map y_range p.fifth ∷ []

-- those of a rectangle
abbrev pub area_ranges : Area → List (Option Ranged)
area_ranges (Centred length width) = Some (sized length) ∷ Some (sized width) ∷ []
area_ranges (Cornered points) = corner_ranges points

-- those of a feature
abbrev pub feature_ranges : Machining → List (Option Ranged)
feature_ranges (DrillHole diameter dwell) = Some (sized diameter) ∷ []
feature_ranges (MillFace face cut) = Some (sized face.length) ∷ Some (sized face.width) ∷ []
feature_ranges (MillPocket area cut) = area_ranges area

-- those of an operation
abbrev pub operation_ranges : Lookup → Machining → List (Option Ranged)
operation_ranges lookup (DrillHole diameter dwell) = option_map unsigned dwell ∷ []
operation_ranges lookup (MillFace face cut) =
    Some (sized cut.diameter) ∷ option_map partial cut.strategy.overlap ∷ option_map sized cut.axial ∷ option_map (shallower lookup) cut.bottom ∷ []
operation_ranges lookup (MillPocket area cut) =
    Some (sized cut.diameter) ∷ option_map sized cut.axial ∷ option_map sized cut.radial ∷ option_map unsigned cut.side ∷ option_map (shallower lookup) cut.bottom ∷ []

-- those of every lookup before its feature; the depth is in its range where the coordinate is
abbrev pub place_ranges : Lookup → List (Option Ranged)
place_ranges lookup =
    coordinate lookup.security.point lookup.security.point.z ∷ coordinate lookup.placement.point lookup.placement.point.x ∷ coordinate lookup.placement.point lookup.placement.point.y
    ∷ coordinate lookup.placement.point lookup.placement.point.z ∷ coordinate lookup.floor.point lookup.floor.point.z ∷ []

-- those of every operation
abbrev pub cut_ranges : Lookup → List (Option Ranged)
cut_ranges lookup = option_map unsigned lookup.technology.retract ∷ Some (sized lookup.technology.feed) ∷ Some (sized lookup.technology.spindle) ∷ []

-- the numbers of the lookup are within their ranges, the first fault in the order of the lookup
unfoldable pub ranges_check : Lookup → Machining → Result ⊤ DefFault
ranges_check lookup machining =
    all_in_range (place_ranges lookup) >>= λ _. all_in_range (feature_ranges machining) >>= λ _. all_in_range (cut_ranges lookup) >>= λ _. all_in_range (operation_ranges lookup machining)

-- ---- the kinds up to the ranges, in their order

-- what the lookup makes, where none of these faults stands in the way
unfoldable pub machining_of : Lookup → Result Machining DefFault
machining_of lookup = do
  no_toolpath ← unless (not lookup.has_toolpath) (HasToolpath lookup.operation)
  straight ← directions_check lookup
  machining ← made_by lookup lookup.feature_part lookup.operation_part
  above_zero ← positives_check lookup machining
  in_range ← ranges_check lookup machining
  Ok machining
