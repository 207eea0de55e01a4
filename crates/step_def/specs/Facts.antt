-- What is known of the numbers of a lookup once none of its checks refuses it.
use Rattle.std.specs.Prelude.{ℤ, pos, neg_ℤ, ◌-ℤ◌, int_le, ◌&&◌, IfSome, IsTrue, Option}
use Rattle.std.specs.Int.{is_positive}
use Rattle.path_blocks.specs.Range.{is_within}
use Rattle.path_blocks.specs.PathPocket.{Rectangle}
use Rattle.step_def.specs.declared.ranges.TheConstants.{MAX_VALUE}
use Rattle.step_def.specs.declared.attributes.CornerPoints.{CornerPoints}
use Rattle.step_def.specs.declared.attributes.Quantity.{Quantity}
use Rattle.step_def.specs.declared.attributes.FacePart.{FacePart}
use Rattle.step_def.specs.declared.attributes.FaceCut.{FaceCut}
use Rattle.step_def.specs.declared.attributes.PocketCut.{PocketCut}
use Rattle.step_def.specs.declared.attributes.Area.{Area}
use Rattle.step_def.specs.declared.attributes.Area.TheVariants.{Centred, Cornered}
use Rattle.step_def.specs.declared.attributes.Machining.{Machining}
use Rattle.step_def.specs.declared.attributes.Machining.TheVariants.{DrillHole, MillFace, MillPocket}
use Rattle.step_def.specs.declared.attributes.Lookup.{Lookup}
use Rattle.step_def.specs.Faults.{depth_of, is_sized, is_straight}

-- a number that is there is between these ends
abbrev pub IfBetween : ℤ → ℤ → Option Quantity → Type 0
IfBetween least greatest x = IfSome x (λ f. IsTrue (int_le least f.value && int_le f.value greatest))

-- a number that is there is above 0
abbrev pub IfPositive : Option Quantity → Type 0
IfPositive x = IfSome x (λ f. IsTrue (is_positive f.value))

-- what is known of every lookup
pub record PlaceFacts (lookup : Lookup) : Type 0 where
  pub sec : IsTrue (is_sized lookup.security.point.z)
  pub x : IsTrue (is_sized lookup.placement.point.x)
  pub y : IsTrue (is_sized lookup.placement.point.y)
  pub z : IsTrue (is_sized lookup.placement.point.z)
  pub floor : IsTrue (is_sized lookup.floor.point.z)
  pub deep : IsTrue (is_positive (depth_of lookup))
  pub retract : IfBetween (pos 0) MAX_VALUE lookup.technology.retract
  pub feed : IsTrue (is_sized lookup.technology.feed.value)
  pub feeds : IsTrue (is_positive lookup.technology.feed.value)
  pub spindle : IsTrue (is_sized lookup.technology.spindle.value)

-- what is known of a face
pub record FaceFacts (lookup : Lookup) (face : FacePart) (cut : FaceCut) : Type 0 where
  pub straight : IsTrue (is_straight face.course)
  pub length : IsTrue (is_sized face.length.value)
  pub long : IsTrue (is_positive face.length.value)
  pub width : IsTrue (is_sized face.width.value)
  pub wide : IsTrue (is_positive face.width.value)
  pub diameter : IsTrue (is_sized cut.diameter.value)
  pub thick : IsTrue (is_positive cut.diameter.value)
  pub overlap : IfBetween (pos 0) (pos 999) cut.strategy.overlap
  pub axial : IfBetween (neg_ℤ MAX_VALUE) MAX_VALUE cut.axial
  pub cuts : IfPositive cut.axial
  pub bottom : IfBetween (pos 0) (depth_of lookup -ℤ pos 1) cut.bottom

-- what is known of the rectangle of a pocket
pub record SidesFacts (length width : Quantity) : Type 0 where
  pub length_sized : IsTrue (is_sized length.value)
  pub long : IsTrue (is_positive length.value)
  pub width_sized : IsTrue (is_sized width.value)
  pub wide : IsTrue (is_positive width.value)

pub record CornersFacts (p : CornerPoints) : Type 0 where
  pub first_x : IsTrue (is_sized p.first.x)
  pub first_y : IsTrue (is_sized p.first.y)
  pub third_x : IsTrue (is_sized p.third.x)
  pub third_y : IsTrue (is_sized p.third.y)

abbrev pub AreaFacts : Area → Type 0
AreaFacts (Centred length width) = SidesFacts length width
AreaFacts (Cornered points) = CornersFacts points

-- what is known of a pocket
pub record PocketFacts (lookup : Lookup) (area : Area) (cut : PocketCut) : Type 0 where
  pub area_facts : AreaFacts area
  pub diameter : IsTrue (is_sized cut.diameter.value)
  pub thick : IsTrue (is_positive cut.diameter.value)
  pub axial : IfBetween (neg_ℤ MAX_VALUE) MAX_VALUE cut.axial
  pub cuts : IfPositive cut.axial
  pub radial : IfBetween (neg_ℤ MAX_VALUE) MAX_VALUE cut.radial
  pub apart : IfPositive cut.radial
  pub side : IfBetween (pos 0) MAX_VALUE cut.side
  pub bottom : IfBetween (pos 0) (depth_of lookup -ℤ pos 1) cut.bottom

-- what is known of a machining
abbrev pub MachiningFacts : Lookup → Machining → Type 0
MachiningFacts lookup (DrillHole diameter dwell) = IfBetween (pos 0) MAX_VALUE dwell
MachiningFacts lookup (MillFace face cut) = FaceFacts lookup face cut
MachiningFacts lookup (MillPocket area cut) = PocketFacts lookup area cut

-- what is known where nothing was refused
pub record Facts (lookup : Lookup) (machining : Machining) : Type 0 where
  pub place : PlaceFacts lookup
  pub made : MachiningFacts lookup machining

-- a rectangle's sides are within the range of a definition
pub record RectangleWithin (r : Rectangle) : Type 0 where
  pub left : IsTrue (is_within r.left)
  pub low : IsTrue (is_within r.low)
  pub right : IsTrue (is_within r.right)
  pub high : IsTrue (is_within r.high)
