-- What a lookup without a fault comes down to keeps the ranges of a definition. A definition's type keeps the proof of that, so the
-- definition of a workingstep needs it: it stands here, below that definition, and not among the proofs.
use Rattle.std.specs.Prelude.{◌≡◌, ℕ, ℤ, pos, negsuc, neg_ℤ, ◌-◌, ◌*◌, ◌/◌, ◌≤◌, max, ◌+ℤ◌, ◌-ℤ◌, ◌<ℤ◌, int_lt, int_le, nat_le, unsigned_abs, Bool, true, false, cond, not, ◌&&◌, ◌||◌, if◌then◌else◌, IfSome, IsTrue, List, [], ◌∷◌, Option, Some, None, option_map, Result, Ok, Err, refl, ⊤}
use Rattle.std.specs.Option.{option_map_or}
use Rattle.std.proofs.Common.{subst, arith}
use Rattle.std.proofs.lemmas.Int.{ints}
use Rattle.std.proofs.lemmas.Nat.{mul-le}
use Rattle.std.proofs.Math.Nat.{div-le_of_le-mul}
use Rattle.std.specs.Int.{is_positive, int_min, int_max}
use Rattle.std.specs.Ordering.{int_eq}
use Rattle.entity_types.specs.declared.entity.Entity.{Entity}
use Rattle.path_blocks.specs.declared.def.Shape.{Shape}
use Rattle.path_blocks.specs.declared.def.Shape.TheVariants.{Drill, Plane}
use Rattle.path_blocks.specs.Range.{is_within, is_at_least_zero, is_course, fits_shape}
use Rattle.path_blocks.specs.Count.{block_count}
use Rattle.path_blocks.specs.Numbers.{Numbers}
use Rattle.path_blocks.specs.PathPocket.{Rectangle}
use Rattle.step_def.specs.declared.fault.DefFault.{DefFault}
use Rattle.step_def.specs.declared.fault.DefFault.TheVariants.{HasToolpath, BadDirection, NotPositive, OutOfRange, TooManyBlocks, ToolTooBig}
use Rattle.step_def.specs.declared.attributes.Coordinates.{Coordinates}
use Rattle.step_def.specs.declared.attributes.Quantity.{Quantity}
use Rattle.step_def.specs.declared.attributes.Ranged.{Ranged}
use Rattle.step_def.specs.declared.attributes.FacePart.{FacePart}
use Rattle.step_def.specs.declared.attributes.FaceCut.{FaceCut}
use Rattle.step_def.specs.declared.attributes.PocketCut.{PocketCut}
use Rattle.step_def.specs.declared.attributes.Outline.{Outline}
use Rattle.step_def.specs.declared.attributes.FeaturePart.{FeaturePart}
use Rattle.step_def.specs.declared.attributes.FeaturePart.TheVariants.{Hole, Face, Hollow}
use Rattle.step_def.specs.declared.attributes.OperationPart.{OperationPart}
use Rattle.step_def.specs.declared.attributes.OperationPart.TheVariants.{Drilling, Facing, Pocketing}
use Rattle.step_def.specs.declared.attributes.Area.{Area}
use Rattle.step_def.specs.declared.attributes.Area.TheVariants.{Centred, Cornered}
use Rattle.step_def.specs.declared.attributes.Machining.{Machining}
use Rattle.step_def.specs.declared.attributes.Machining.TheVariants.{DrillHole, MillFace, MillPocket}
use Rattle.step_def.specs.declared.attributes.Lookup.{Lookup}
use Rattle.step_def.specs.Steps.{◌>>=◌}
use Rattle.step_def.specs.Faults.{all_positive, all_in_range, area_of, area_positives, area_ranges, between, course_check, cut_ranges, depth_of, directions_check, feature_positives, feature_ranges, is_in_range, is_sized, is_straight, machining_of, made_by, operation_positives, operation_ranges, place_ranges, placement_check, positives_check, ranges_check, unless}
use Rattle.step_def.specs.Lookup.{found, lookup_of}
use Rattle.step_def.specs.Numbers.{or_else, allowance_of, axial_of, has_room, inset_of, inset_rectangle, numbers_at, numbers_with, pocket_in, radial_of, rectangle_of, shape_of, sign_of, step_of}
use Rattle.step_def.specs.Ranges.{KeepsRanges}
use Rattle.step_def.specs.Facts.{AreaFacts, FaceFacts, Facts, IfBetween, IfPositive, MachiningFacts, PlaceFacts, PocketFacts, RectangleWithin}
use Rattle.path_blocks.specs.declared.limits.TheConstants.{MAX_BLOCKS}
use Rattle.step_def.specs.declared.ranges.TheConstants.{MAX_VALUE}

-- ---- rows of look-ups

abbrev done : {A : Type 0} → A → Result A DefFault
done x = Ok x

-- a row of look-ups without a fault: the first one, and the others
bind_ok : {A B : Type 0} (r : Result A DefFault) (f : A → Result B DefFault) (y : B) → (r >>= f) ≡ Ok y → (x : A) × (r ≡ Ok x) × (f x ≡ Ok y)
bind_ok (Ok x) f y e = (x, refl, e)
bind_ok (Err d) f y e = absurd cc

ok_is : {A : Type 0} (x y : A) → done x ≡ done y → x ≡ y
ok_is x y e = cc

test_ok : {A : Type 0} (b : Bool) (r : Result A DefFault) (d : DefFault) (y : A) → cond b r (Err d) ≡ Ok y → (b ≡ true) × (r ≡ Ok y)
test_ok true r d y e = (refl, e)
test_ok false r d y e = absurd cc

-- ---- what the checks leave

-- each of these that is there is above 0
abbrev ArePositive : List (Option Quantity) → Type 0
ArePositive [] = ⊤
ArePositive (x ∷ xs) = IfSome x (λ f. IsTrue (is_positive f.value)) × ArePositive xs

each_positive : (xs : List (Option Quantity)) → all_positive xs ≡ Ok tt → ArePositive xs
each_positive [] e = tt
each_positive (None ∷ xs) e = (tt, each_positive xs e)
each_positive (Some x ∷ xs) e =
    let h = test_ok (is_positive x.value) (all_positive xs) (NotPositive x.number x.position) tt e in
    (h.0, each_positive xs h.1)

-- each of these that is there is within its range
abbrev AreInRange : List (Option Ranged) → Type 0
AreInRange [] = ⊤
AreInRange (x ∷ xs) = IfSome x (λ f. IsTrue (is_in_range f)) × AreInRange xs

each_in_range : (xs : List (Option Ranged)) → all_in_range xs ≡ Ok tt → AreInRange xs
each_in_range [] e = tt
each_in_range (None ∷ xs) e = (tt, each_in_range xs e)
each_in_range (Some x ∷ xs) e =
    let h = test_ok (is_in_range x) (all_in_range xs) (OutOfRange x.number x.position) tt e in
    (h.0, each_in_range xs h.1)

if_between : (least greatest : ℤ) (x : Option Quantity) → IfSome (option_map (between least greatest) x) (λ f. IsTrue (is_in_range f)) → IfBetween least greatest x
if_between least greatest None h = tt
if_between least greatest (Some f) h = h

-- the course of a face that is made is straight
abbrev Straight : Machining → Type 0
Straight (DrillHole diameter dwell) = ⊤
Straight (MillFace face cut) = IsTrue (is_straight face.course)
Straight (MillPocket area cut) = ⊤

hole_straight : (lookup : Lookup) (diameter : Quantity) (operation : OperationPart) (machining : Machining) → made_by lookup (Hole diameter) operation ≡ Ok machining → Straight machining
hole_straight lookup diameter (Drilling dwell) machining e = subst Straight (ok_is (DrillHole diameter dwell) machining e) tt
hole_straight lookup diameter (Facing cut) machining e = absurd cc
hole_straight lookup diameter (Pocketing cut) machining e = absurd cc

face_straight : (lookup : Lookup) (face : FacePart) (operation : OperationPart) (machining : Machining) → IsTrue (is_straight face.course) → made_by lookup (Face face) operation ≡ Ok machining → Straight machining
face_straight lookup face (Drilling dwell) machining h e = absurd cc
face_straight lookup face (Facing cut) machining h e = subst Straight (ok_is (MillFace face cut) machining e) h
face_straight lookup face (Pocketing cut) machining h e = absurd cc

pocket_straight : (lookup : Lookup) (outline : Outline) (operation : OperationPart) (machining : Machining) → made_by lookup (Hollow outline) operation ≡ Ok machining → Straight machining
pocket_straight lookup outline (Drilling dwell) machining e = absurd cc
pocket_straight lookup outline (Facing cut) machining e = absurd cc
pocket_straight lookup outline (Pocketing cut) machining e =
    let area = bind_ok (area_of outline) (λ area. Ok (MillPocket area cut)) machining e in
    subst Straight (ok_is (MillPocket area.0 cut) machining area.2) tt

made_straight : (lookup : Lookup) (feature : FeaturePart) (operation : OperationPart) (machining : Machining) → course_check feature ≡ Ok tt → made_by lookup feature operation ≡ Ok machining → Straight machining
made_straight lookup (Hole diameter) operation machining c e = hole_straight lookup diameter operation machining e
made_straight lookup (Face face) operation machining c e =
    face_straight lookup face operation machining (test_ok (is_straight face.course) (Ok tt) (BadDirection face.course.number) tt c).0 e
made_straight lookup (Hollow outline) operation machining c e = pocket_straight lookup outline operation machining e

-- the checks on a machining leave its facts
area_facts_of : (area : Area) → ArePositive (area_positives area) → AreInRange (area_ranges area) → AreaFacts area
area_facts_of (Centred length width) p r = record { length_sized = r.0; long = p.0; width_sized = r.1.0; wide = p.1.0 }
area_facts_of (Cornered points) p r = record { first_x = r.0; first_y = r.1.0; third_x = r.1.1.1.1.0; third_y = r.1.1.1.1.1.0 }

job_facts_of : (lookup : Lookup) (machining : Machining) → Straight machining → ArePositive (feature_positives machining) → ArePositive (operation_positives machining) → AreInRange (feature_ranges machining) → AreInRange (operation_ranges lookup machining) → MachiningFacts lookup machining
job_facts_of lookup (DrillHole diameter dwell) s p q r t = if_between (pos 0) MAX_VALUE dwell t.0
job_facts_of lookup (MillFace face cut) s p q r t = record {
  straight = s;
  length = r.0;
  long = p.0;
  width = r.1.0;
  wide = p.1.0;
  diameter = t.0;
  thick = q.0;
  overlap = if_between (pos 0) (pos 999) cut.strategy.overlap t.1.0;
  axial = if_between (neg_ℤ MAX_VALUE) MAX_VALUE cut.axial t.1.1.0;
  cuts = q.1.0;
  bottom = if_between (pos 0) (depth_of lookup -ℤ pos 1) cut.bottom t.1.1.1.0;
}
job_facts_of lookup (MillPocket area cut) s p q r t = record {
  area_facts = area_facts_of area p r;
  diameter = t.0;
  thick = q.0;
  axial = if_between (neg_ℤ MAX_VALUE) MAX_VALUE cut.axial t.1.0;
  cuts = q.1.0;
  radial = if_between (neg_ℤ MAX_VALUE) MAX_VALUE cut.radial t.1.1.0;
  apart = q.1.1.0;
  side = if_between (pos 0) MAX_VALUE cut.side t.1.1.1.0;
  bottom = if_between (pos 0) (depth_of lookup -ℤ pos 1) cut.bottom t.1.1.1.1.0;
}

positive_facts : (lookup : Lookup) (machining : Machining) → positives_check lookup machining ≡ Ok tt
    → IsTrue (is_positive (depth_of lookup)) × ArePositive (feature_positives machining) × IsTrue (is_positive lookup.technology.feed.value) × ArePositive (operation_positives machining)
unfolding positives_check
positive_facts lookup machining e =
    let deep = bind_ok (unless (is_positive (depth_of lookup)) (NotPositive lookup.feature 5)) _ tt e in
    let feature = bind_ok (all_positive (feature_positives machining)) _ tt deep.2 in
    let feed = bind_ok (unless (is_positive lookup.technology.feed.value) (NotPositive lookup.technology.feed.number lookup.technology.feed.position)) _ tt feature.2 in (
      (test_ok (is_positive (depth_of lookup)) (Ok tt) (NotPositive lookup.feature 5) tt deep.1).0,
      each_positive (feature_positives machining) feature.1,
      (test_ok (is_positive lookup.technology.feed.value) (Ok tt) (NotPositive lookup.technology.feed.number lookup.technology.feed.position) tt feed.1).0,
      each_positive (operation_positives machining) feed.2,
    )

range_facts : (lookup : Lookup) (machining : Machining) → ranges_check lookup machining ≡ Ok tt
    → AreInRange (place_ranges lookup) × AreInRange (feature_ranges machining) × AreInRange (cut_ranges lookup) × AreInRange (operation_ranges lookup machining)
unfolding ranges_check
range_facts lookup machining e =
    let place = bind_ok (all_in_range (place_ranges lookup)) _ tt e in
    let feature = bind_ok (all_in_range (feature_ranges machining)) _ tt place.2 in
    let cut = bind_ok (all_in_range (cut_ranges lookup)) _ tt feature.2 in
    (each_in_range (place_ranges lookup) place.1, each_in_range (feature_ranges machining) feature.1, each_in_range (cut_ranges lookup) cut.1, each_in_range (operation_ranges lookup machining) cut.2)

course_ok : (lookup : Lookup) → directions_check lookup ≡ Ok tt → course_check lookup.feature_part ≡ Ok tt
unfolding directions_check
course_ok lookup e =
    let security = bind_ok (placement_check lookup.security) _ tt e in
    let placement = bind_ok (placement_check lookup.placement) _ tt security.2 in
    (bind_ok (placement_check lookup.floor) _ tt placement.2).2

pub facts_of : (lookup : Lookup) (machining : Machining) → machining_of lookup ≡ Ok machining → Facts lookup machining
unfolding machining_of
facts_of lookup found_job e =
    let toolpath = bind_ok (unless (not lookup.has_toolpath) (HasToolpath lookup.operation)) _ found_job e in
    let turned = bind_ok (directions_check lookup) _ found_job toolpath.2 in
    let made = bind_ok (made_by lookup lookup.feature_part lookup.operation_part) _ found_job turned.2 in
    let positive = bind_ok (positives_check lookup made.0) _ found_job made.2 in
    let ranged = bind_ok (ranges_check lookup made.0) _ found_job positive.2 in
    let p = positive_facts lookup made.0 positive.1 in
    let r = range_facts lookup made.0 ranged.1 in
    let straight = made_straight lookup lookup.feature_part lookup.operation_part made.0 (course_ok lookup turned.1) made.1 in
    subst (Facts lookup) (ok_is made.0 found_job ranged.2) (record {
      place = record {
        sec = r.0.0;
        x = r.0.1.0;
        y = r.0.1.1.0;
        z = r.0.1.1.1.0;
        floor = r.0.1.1.1.1.0;
        deep = p.0;
        retract = if_between (pos 0) MAX_VALUE lookup.technology.retract r.2.0;
        feed = r.2.1.0;
        feeds = p.2;
        spindle = r.2.1.1.0;
      };
      made = job_facts_of lookup made.0 straight p.1 p.3 r.1 r.3;
    })

-- ---- the ranges

both : (a b : Bool) → IsTrue a → IsTrue b → IsTrue (a && b)
both a b p q = rw (p, q) refl

within_sized : (x : ℤ) → IsTrue (is_sized x) → IsTrue (is_within x)
within_sized x h = grind (arith, ints)

within_retract : (z0 sec : ℤ) (retract : Option Quantity) → IsTrue (is_sized z0) → IsTrue (is_sized sec) → IfBetween (pos 0) MAX_VALUE retract
    → IsTrue (is_within (option_map_or (λ (f : Quantity). z0 +ℤ f.value) retract sec))
within_retract z0 sec None p q r = within_sized sec q
within_retract z0 sec (Some f) p q r = grind (arith, ints)

zero_fits : (depth : ℤ) → IsTrue (is_positive depth) → IsTrue (int_le (pos 0) (pos 0) && int_le (pos 0) (depth -ℤ pos 1))
zero_fits depth h = grind (arith, ints)

or_zero_fits : (depth : ℤ) (x : Option Quantity) → IsTrue (is_positive depth) → IfBetween (pos 0) (depth -ℤ pos 1) x → IsTrue (int_le (pos 0) (or_else (pos 0) x) && int_le (or_else (pos 0) x) (depth -ℤ pos 1))
or_zero_fits depth None h r = zero_fits depth h
or_zero_fits depth (Some f) h r = r

-- what is left at the bottom is less than the depth
pub allowance_fits : (lookup : Lookup) (machining : Machining) → IsTrue (is_positive (depth_of lookup)) → MachiningFacts lookup machining → IsTrue (int_le (pos 0) (allowance_of machining) && int_le (allowance_of machining) (depth_of lookup -ℤ pos 1))
allowance_fits lookup (DrillHole diameter dwell) h made = zero_fits (depth_of lookup) h
allowance_fits lookup (MillFace face cut) h made = or_zero_fits (depth_of lookup) cut.bottom h made.bottom
allowance_fits lookup (MillPocket area cut) h made = or_zero_fits (depth_of lookup) cut.bottom h made.bottom

bottom_within : (z0 floor a : ℤ) → IsTrue (is_sized z0) → IsTrue (is_sized floor) → IsTrue (is_positive (neg_ℤ floor)) → IsTrue (int_le (pos 0) a && int_le a (neg_ℤ floor -ℤ pos 1)) → IsTrue (is_within (z0 -ℤ neg_ℤ floor +ℤ a))
bottom_within z0 floor a p q r t = grind (arith, ints)

bottom_below : (z0 floor a : ℤ) → IsTrue (int_le (pos 0) a && int_le a (neg_ℤ floor -ℤ pos 1)) → (z0 -ℤ neg_ℤ floor +ℤ a) <ℤ z0
bottom_below z0 floor a t = grind (arith, ints)

depth_within : (floor : ℤ) → IsTrue (is_sized floor) → IsTrue (is_within (neg_ℤ floor))
depth_within floor h = grind (arith, ints)

or_depth_within : (floor : ℤ) (x : Option Quantity) → IsTrue (is_sized floor) → IfBetween (neg_ℤ MAX_VALUE) MAX_VALUE x → IsTrue (is_within (or_else (neg_ℤ floor) x))
or_depth_within floor None h r = depth_within floor h
or_depth_within floor (Some f) h r = within_sized f.value r

or_depth_positive : (depth : ℤ) (x : Option Quantity) → IsTrue (is_positive depth) → IfPositive x → IsTrue (is_positive (or_else depth x))
or_depth_positive depth None h r = h
or_depth_positive depth (Some f) h r = r

axial_within : (lookup : Lookup) (machining : Machining) → IsTrue (is_sized lookup.floor.point.z) → MachiningFacts lookup machining → IsTrue (is_within (axial_of lookup machining))
axial_within lookup (DrillHole diameter dwell) h made = depth_within lookup.floor.point.z h
axial_within lookup (MillFace face cut) h made = or_depth_within lookup.floor.point.z cut.axial h made.axial
axial_within lookup (MillPocket area cut) h made = or_depth_within lookup.floor.point.z cut.axial h made.axial

axial_positive : (lookup : Lookup) (machining : Machining) → IsTrue (is_positive (depth_of lookup)) → MachiningFacts lookup machining → IsTrue (is_positive (axial_of lookup machining))
axial_positive lookup (DrillHole diameter dwell) h made = h
axial_positive lookup (MillFace face cut) h made = or_depth_positive (depth_of lookup) cut.axial h made.cuts
axial_positive lookup (MillPocket area cut) h made = or_depth_positive (depth_of lookup) cut.axial h made.cuts

-- ---- the shapes

dwell_within : (dwell : Option Quantity) → IfBetween (pos 0) MAX_VALUE dwell → IsTrue (is_within (or_else (pos 0) dwell))
dwell_within None h = refl
dwell_within (Some f) h = grind (arith, ints)

dwell_at_least_zero : (dwell : Option Quantity) → IfBetween (pos 0) MAX_VALUE dwell → IsTrue (is_at_least_zero (or_else (pos 0) dwell))
dwell_at_least_zero None h = refl
dwell_at_least_zero (Some f) h = grind (arith, ints)

drill_shaped : (lookup : Lookup) (dwell : Option Quantity) → PlaceFacts lookup → IfBetween (pos 0) MAX_VALUE dwell → IsTrue (fits_shape (Drill lookup.placement.point.x lookup.placement.point.y (or_else (pos 0) dwell)))
drill_shaped lookup dwell place made =
    both _ _ (both _ _ (within_sized lookup.placement.point.x place.x) (both _ _ (within_sized lookup.placement.point.y place.y) (both _ _ (dwell_within dwell made) refl))) (dwell_at_least_zero dwell made)

-- a straight course is along x or along y
course_cases : (x0 y0 up_x up_y : Bool) → IsTrue ((x0 && not y0) || (not x0 && y0)) → IsTrue (is_course (if x0 then pos 0 else if up_x then pos 1 else negsuc 0) (if y0 then pos 0 else if up_y then pos 1 else negsuc 0))
course_cases true true up_x up_y h = absurd cc
course_cases true false up_x true h = refl
course_cases true false up_x false h = refl
course_cases false true true up_y h = refl
course_cases false true false up_y h = refl
course_cases false false up_x up_y h = absurd cc

and_last : (a b : Bool) → IsTrue (a && b) → IsTrue b
and_last true b h = h
and_last false b h = absurd cc

course_signed : (course : Coordinates) → IsTrue (is_straight course) → IsTrue (is_course (sign_of course.x) (sign_of course.y))
course_signed course h =
    course_cases (int_eq course.x (pos 0)) (int_eq course.y (pos 0)) (int_lt (pos 0) course.x) (int_lt (pos 0) course.y) (and_last (int_eq course.z (pos 0)) _ h)

-- a part of a length is no longer
part_short : (d k : ℕ) → k ≤ 1000 → d * k / 1000 ≤ d
part_short d k h = div-le_of_le-mul 1000 (omega (arith, mul-le d k d 1000 (omega arith) h))

sized_abs : (z : ℤ) → IsTrue (is_sized z) → unsigned_abs z ≤ 100000000
sized_abs z h = grind (arith, ints)

pub step_short : (cut : FaceCut) → IsTrue (is_sized cut.diameter.value) → step_of cut ≤ 100000000
step_short cut h =
    omega (arith, part_short (unsigned_abs cut.diameter.value) (1000 - unsigned_abs (or_else (pos 0) cut.strategy.overlap)) (omega arith), sized_abs cut.diameter.value h)

step_within : (n : ℕ) → n ≤ 100000000 → IsTrue (is_within (pos n))
step_within n h = grind (arith, ints)

step_positive : (n : ℕ) → 1 ≤ n → IsTrue (is_positive (pos n))
step_positive n h = grind (arith, ints)

face_shaped : (lookup : Lookup) (face : FacePart) (cut : FaceCut) → PlaceFacts lookup → FaceFacts lookup face cut
    → IsTrue (fits_shape (Plane lookup.placement.point.x lookup.placement.point.y (sign_of face.course.x) (sign_of face.course.y) face.length.value face.width.value (pos (step_of cut)) cut.strategy.both))
face_shaped lookup face cut place made =
    let short = step_short cut made.diameter in
    both _ _ (both _ _
    (both _ _ (within_sized lookup.placement.point.x place.x) (both _ _ (within_sized lookup.placement.point.y place.y) (both _ _ (within_sized face.length.value made.length)
    (both _ _ (within_sized face.width.value made.width) (both _ _ (step_within (step_of cut) short) refl)))))
    (both _ _ made.long (both _ _ made.wide (both _ _ (step_positive (step_of cut) (omega arith)) refl))))
    (course_signed face.course made.straight)

-- ---- pockets

half_before : (x length : ℤ) → IsTrue (is_sized x) → IsTrue (is_sized length) → IsTrue (is_within (x -ℤ pos (unsigned_abs length / 2)))
half_before x length h k = grind (arith, ints)

half_after : (x length : ℤ) → IsTrue (is_sized x) → IsTrue (is_sized length) → IsTrue (is_positive length) → IsTrue (is_within (x -ℤ pos (unsigned_abs length / 2) +ℤ length))
half_after x length h k l = grind (arith, ints)

moved_within : (x y : ℤ) → IsTrue (is_sized x) → IsTrue (is_sized y) → IsTrue (is_within (x +ℤ y))
moved_within x y h k = grind (arith, ints)

choice : (b : Bool) (x y : ℤ) → IsTrue (is_sized x) → IsTrue (is_sized y) → IsTrue (is_sized (cond b x y))
choice true x y h k = h
choice false x y h k = k

pub min_sized : (x y : ℤ) → IsTrue (is_sized x) → IsTrue (is_sized y) → IsTrue (is_sized (int_min x y))
min_sized x y h k = choice (int_lt y x) y x k h

pub max_sized : (x y : ℤ) → IsTrue (is_sized x) → IsTrue (is_sized y) → IsTrue (is_sized (int_max x y))
max_sized x y h k = choice (int_lt y x) x y h k

pub rectangle_within : (lookup : Lookup) (area : Area) → PlaceFacts lookup → AreaFacts area → RectangleWithin (rectangle_of lookup area)
rectangle_within lookup (Centred length width) place sides = record {
  left = half_before lookup.placement.point.x length.value place.x sides.length_sized;
  low = half_before lookup.placement.point.y width.value place.y sides.width_sized;
  right = half_after lookup.placement.point.x length.value place.x sides.length_sized sides.long;
  high = half_after lookup.placement.point.y width.value place.y sides.width_sized sides.wide;
}
rectangle_within lookup (Cornered p) place corners = record {
  left = moved_within lookup.placement.point.x (int_min p.first.x p.third.x) place.x (min_sized p.first.x p.third.x corners.first_x corners.third_x);
  low = moved_within lookup.placement.point.y (int_min p.first.y p.third.y) place.y (min_sized p.first.y p.third.y corners.first_y corners.third_y);
  right = moved_within lookup.placement.point.x (int_max p.first.x p.third.x) place.x (max_sized p.first.x p.third.x corners.first_x corners.third_x);
  high = moved_within lookup.placement.point.y (int_max p.first.y p.third.y) place.y (max_sized p.first.y p.third.y corners.first_y corners.third_y);
}

shrunk_left : (a b : ℤ) (by : ℕ) → IsTrue (is_within a) → IsTrue (is_within b) → IsTrue (int_le (a +ℤ pos by) (b -ℤ pos by)) → IsTrue (is_within (a +ℤ pos by))
shrunk_left a b by h k l = grind (arith, ints)

shrunk_right : (a b : ℤ) (by : ℕ) → IsTrue (is_within a) → IsTrue (is_within b) → IsTrue (int_le (a +ℤ pos by) (b -ℤ pos by)) → IsTrue (is_within (b -ℤ pos by))
shrunk_right a b by h k l = grind (arith, ints)

radial_default : (d : ℕ) → d ≤ 100000000 → IsTrue (is_within (pos (max (d / 2) 1)))
radial_default d h = grind (arith, ints)

radial_above : (d : ℕ) → IsTrue (is_positive (pos (max (d / 2) 1)))
radial_above d = step_positive (max (d / 2) 1) (omega arith)

or_radial_within : (d : ℕ) (x : Option Quantity) → d ≤ 100000000 → IfBetween (neg_ℤ MAX_VALUE) MAX_VALUE x → IsTrue (is_within (or_else (pos (max (d / 2) 1)) x))
or_radial_within d None h r = radial_default d h
or_radial_within d (Some f) h r = within_sized f.value r

or_radial_positive : (d : ℕ) (x : Option Quantity) → IfPositive x → IsTrue (is_positive (or_else (pos (max (d / 2) 1)) x))
or_radial_positive d None r = radial_above d
or_radial_positive d (Some f) r = r

and_first : (a b : Bool) → IsTrue (a && b) → IsTrue a
and_first true b h = refl
and_first false b h = absurd cc

pocket_shaped : (lookup : Lookup) (area : Area) (cut : PocketCut) → PlaceFacts lookup → PocketFacts lookup area cut → IsTrue (has_room (inset_rectangle lookup area cut)) → IsTrue (fits_shape (pocket_in (inset_rectangle lookup area cut) (radial_of cut)))
pocket_shaped lookup area cut place made room =
    let r : Rectangle = rectangle_of lookup area in
    let s : Rectangle = inset_rectangle lookup area cut in
    let sides = rectangle_within lookup area place made.area_facts in
    let across = and_first (int_le s.left s.right) (int_le s.low s.high) room in
    let along = and_last (int_le s.left s.right) (int_le s.low s.high) room in
    let d = sized_abs cut.diameter.value made.diameter in
    both _ _ (both _ _ (both _ _
    (both _ _ (shrunk_left r.left r.right (inset_of cut) sides.left sides.right across) (both _ _ (shrunk_left r.low r.high (inset_of cut) sides.low sides.high along)
    (both _ _ (shrunk_right r.left r.right (inset_of cut) sides.left sides.right across) (both _ _ (shrunk_right r.low r.high (inset_of cut) sides.low sides.high along)
    (both _ _ (or_radial_within (unsigned_abs cut.diameter.value) cut.radial d made.radial) refl)))))
    (or_radial_positive (unsigned_abs cut.diameter.value) cut.radial made.apart))
    across) along

pub shaped : (lookup : Lookup) (machining : Machining) (shape : Shape) → PlaceFacts lookup → MachiningFacts lookup machining → shape_of lookup machining ≡ Ok shape → IsTrue (fits_shape shape)
shaped lookup (DrillHole diameter dwell) shape place made e = subst (λ (s : Shape). IsTrue (fits_shape s)) (ok_is _ shape e) (drill_shaped lookup dwell place made)
shaped lookup (MillFace face cut) shape place made e = subst (λ (s : Shape). IsTrue (fits_shape s)) (ok_is _ shape e) (face_shaped lookup face cut place made)
shaped lookup (MillPocket area cut) shape place made e =
    let room = test_ok (has_room (inset_rectangle lookup area cut)) (Ok (pocket_in (inset_rectangle lookup area cut) (radial_of cut))) (ToolTooBig lookup.technology.tool) shape e in
    subst (λ (s : Shape). IsTrue (fits_shape s)) (ok_is (pocket_in (inset_rectangle lookup area cut) (radial_of cut)) shape room.1) (pocket_shaped lookup area cut place made room.0)

-- ---- all ranges

pub z_in : (lookup : Lookup) (machining : Machining) → Facts lookup machining → IsTrue (is_within lookup.placement.point.z)
z_in lookup machining facts = within_sized lookup.placement.point.z facts.place.z

pub bottom_in : (lookup : Lookup) (machining : Machining) → Facts lookup machining → IsTrue (is_within (lookup.placement.point.z -ℤ depth_of lookup +ℤ allowance_of machining))
bottom_in lookup machining facts =
    bottom_within lookup.placement.point.z lookup.floor.point.z (allowance_of machining) facts.place.z facts.place.floor facts.place.deep (allowance_fits lookup machining facts.place.deep facts.made)

pub bottom_under : (lookup : Lookup) (machining : Machining) → Facts lookup machining → (lookup.placement.point.z -ℤ depth_of lookup +ℤ allowance_of machining) <ℤ lookup.placement.point.z
bottom_under lookup machining facts = bottom_below lookup.placement.point.z lookup.floor.point.z (allowance_of machining) (allowance_fits lookup machining facts.place.deep facts.made)

pub axial_up : (lookup : Lookup) (machining : Machining) → Facts lookup machining → IsTrue (is_positive (axial_of lookup machining))
axial_up lookup machining facts = axial_positive lookup machining facts.place.deep facts.made

-- the numbers of a machining keep the ranges, where their path has few enough blocks
pub keeps : (lookup : Lookup) (machining : Machining) (shape : Shape) → Facts lookup machining → shape_of lookup machining ≡ Ok shape
    → IsTrue (nat_le (block_count lookup.placement.point.z (lookup.placement.point.z -ℤ depth_of lookup +ℤ allowance_of machining) (axial_of lookup machining) shape) MAX_BLOCKS) → KeepsRanges (numbers_with lookup machining shape)
keeps lookup machining shape facts e few =
    let place = facts.place in
    let left = allowance_fits lookup machining place.deep facts.made in
    record {
      within =
          both _ _ (within_sized lookup.technology.spindle.value place.spindle) (both _ _ (within_sized lookup.technology.feed.value place.feed) (both _ _ (within_sized lookup.security.point.z place.sec)
          (both _ _ (within_retract lookup.placement.point.z lookup.security.point.z lookup.technology.retract place.z place.sec place.retract) (both _ _ (within_sized lookup.placement.point.z place.z)
          (both _ _ (bottom_within lookup.placement.point.z lookup.floor.point.z (allowance_of machining) place.z place.floor place.deep left) (both _ _ (axial_within lookup machining place.floor facts.made) refl))))));
      feeds = place.feeds;
      cuts = axial_positive lookup machining place.deep facts.made;
      downwards = bottom_below lookup.placement.point.z lookup.floor.point.z (allowance_of machining) left;
      shaped = shaped lookup machining shape place facts.made e;
      few = few;
    }

-- the numbers of a definition keep the ranges
pub keeps_ranges : (from : ℕ → Option Entity) (n : ℕ) (x : Numbers) → numbers_at from n ≡ Ok x → KeepsRanges x
unfolding numbers_at
keeps_ranges from n x e =
    let step = bind_ok (found n 3 (from n)) _ x e in
    let lookup = bind_ok (lookup_of from n step.0) _ x step.2 in
    let machining = bind_ok (machining_of lookup.0) _ x lookup.2 in
    let shape = bind_ok (shape_of lookup.0 machining.0) _ x machining.2 in
    let numbers : Numbers = numbers_with lookup.0 machining.0 shape.0 in
    let count : ℕ = block_count numbers.z0 numbers.bottom numbers.axial numbers.shape in
    let few = test_ok (nat_le count MAX_BLOCKS) (Ok numbers) (TooManyBlocks n count) x shape.2 in
    subst KeepsRanges (ok_is numbers x few.1) (keeps lookup.0 machining.0 shape.0 (facts_of lookup.0 machining.0 machining.1) shape.1 few.0)
