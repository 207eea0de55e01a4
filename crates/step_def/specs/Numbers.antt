-- The numbers of a definition.
use Rattle.std.specs.Prelude.{ℕ, ℤ, Bool, pos, negsuc, ◌+◌, ◌-◌, ◌*◌, ◌/◌, max, ◌+ℤ◌, ◌-ℤ◌, int_le, int_lt, nat_le, unsigned_abs, ◌&&◌, if◌then◌else◌, Option, Result, Ok, Err}
use Rattle.std.specs.Option.{option_map_or}
use Rattle.std.specs.Int.{int_min, int_max}
use Rattle.std.specs.Ordering.{int_eq}
use Rattle.path_blocks.specs.declared.def.Shape.{Shape}
use Rattle.path_blocks.specs.declared.def.Shape.TheVariants.{Drill, Plane, Pocket}
use Rattle.path_blocks.specs.declared.limits.TheConstants.{MAX_BLOCKS}
use Rattle.path_blocks.specs.Count.{block_count}
use Rattle.path_blocks.specs.Numbers.{Numbers}
use Rattle.path_blocks.specs.PathPocket.{Rectangle, shrunk}
use Rattle.entity_types.specs.declared.entity.Entity.{Entity}
use Rattle.step_def.specs.declared.fault.DefFault.{DefFault}
use Rattle.step_def.specs.declared.fault.DefFault.TheVariants.{ToolTooBig, TooManyBlocks}
use Rattle.step_def.specs.declared.attributes.Quantity.{Quantity}
use Rattle.step_def.specs.declared.attributes.Area.{Area}
use Rattle.step_def.specs.declared.attributes.Area.TheVariants.{Centred, Cornered}
use Rattle.step_def.specs.declared.attributes.FaceCut.{FaceCut}
use Rattle.step_def.specs.declared.attributes.PocketCut.{PocketCut}
use Rattle.step_def.specs.declared.attributes.Machining.{Machining}
use Rattle.step_def.specs.declared.attributes.Machining.TheVariants.{DrillHole, MillFace, MillPocket}
use Rattle.step_def.specs.declared.attributes.Lookup.{Lookup}
use Rattle.step_def.specs.Steps.{◌>>=◌}
use Rattle.step_def.specs.Lookup.{found, lookup_of}
use Rattle.step_def.specs.Faults.{depth_of, machining_of}

-- a number that may be left out
abbrev pub or_else : ℤ → Option Quantity → ℤ
or_else otherwise x = option_map_or (λ (f : Quantity). f.value) x otherwise

-- the height of the retract plane: so far above the placement, or the security plane where no retract is given
abbrev pub retract_height : Lookup → ℤ
retract_height lookup = option_map_or (λ (retract : Quantity). lookup.placement.point.z +ℤ retract.value) lookup.technology.retract lookup.security.point.z

-- how much is left at the bottom
abbrev pub allowance_of : Machining → ℤ
allowance_of (DrillHole diameter dwell) = pos 0
allowance_of (MillFace face cut) = or_else (pos 0) cut.bottom
allowance_of (MillPocket area cut) = or_else (pos 0) cut.bottom

-- the greatest depth of a level: the whole depth where none is given, as for a hole
abbrev pub axial_of : Lookup → Machining → ℤ
axial_of lookup (DrillHole diameter dwell) = depth_of lookup
axial_of lookup (MillFace face cut) = or_else (depth_of lookup) cut.axial
axial_of lookup (MillPocket area cut) = or_else (depth_of lookup) cut.axial

-- ---- faces

-- 1, 0 or -1, as the number is above 0, 0 or below 0
abbrev pub sign_of : ℤ → ℤ
sign_of z = if int_eq z (pos 0) then pos 0 else if int_lt (pos 0) z then pos 1 else negsuc 0

-- how far rows lie apart: what the overlap, in thousandths, leaves of the tool's diameter, truncated, at least 1
abbrev pub step_of : FaceCut → ℕ
step_of cut = max (unsigned_abs cut.diameter.value * (1000 - unsigned_abs (or_else (pos 0) cut.strategy.overlap)) / 1000) 1

-- ---- pockets

-- the rectangle of a pocket: centred on the placement, half the length truncated to its left, or the polyline's, moved by the placement
abbrev pub rectangle_of : Lookup → Area → Rectangle
rectangle_of lookup (Centred length width) =
    let left = lookup.placement.point.x -ℤ pos (unsigned_abs length.value / 2) in
    let low = lookup.placement.point.y -ℤ pos (unsigned_abs width.value / 2) in
    record { left = left; low = low; right = left +ℤ length.value; high = low +ℤ width.value }
rectangle_of lookup (Cornered p) = record {
  left = lookup.placement.point.x +ℤ int_min p.first.x p.third.x;
  low = lookup.placement.point.y +ℤ int_min p.first.y p.third.y;
  right = lookup.placement.point.x +ℤ int_max p.first.x p.third.x;
  high = lookup.placement.point.y +ℤ int_max p.first.y p.third.y;
}

-- how far the middle of the tool stays from the sides: half its diameter, rounded up, and what is left at the sides
abbrev pub inset_of : PocketCut → ℕ
inset_of cut = (unsigned_abs cut.diameter.value + 1) / 2 + unsigned_abs (or_else (pos 0) cut.side)

-- the rectangle that the middle of the tool keeps within
abbrev pub inset_rectangle : Lookup → Area → PocketCut → Rectangle
inset_rectangle lookup area cut = shrunk (rectangle_of lookup area) (inset_of cut)

-- no side of the rectangle is below 0
abbrev pub has_room : Rectangle → Bool
has_room r = int_le r.left r.right && int_le r.low r.high

-- how far rings lie apart: half the tool's diameter, truncated, at least 1, where nothing else is given
abbrev pub radial_of : PocketCut → ℤ
radial_of cut = or_else (pos (max (unsigned_abs cut.diameter.value / 2) 1)) cut.radial

-- the pocket of a rectangle
abbrev pub pocket_in : Rectangle → ℤ → Shape
pocket_in r radial = Pocket r.left r.low r.right r.high radial

-- ---- all numbers

-- the shape that is made, unless the tool is too big for it
abbrev pub shape_of : Lookup → Machining → Result Shape DefFault
shape_of lookup (DrillHole diameter dwell) = Ok (Drill lookup.placement.point.x lookup.placement.point.y (or_else (pos 0) dwell))
shape_of lookup (MillFace face cut) =
    Ok (Plane lookup.placement.point.x lookup.placement.point.y (sign_of face.course.x) (sign_of face.course.y) face.length.value face.width.value (pos (step_of cut)) cut.strategy.both)
shape_of lookup (MillPocket area cut) =
    if has_room (inset_rectangle lookup area cut) then Ok (pocket_in (inset_rectangle lookup area cut) (radial_of cut)) else Err (ToolTooBig lookup.technology.tool)

-- the numbers with this shape
abbrev pub numbers_with : Lookup → Machining → Shape → Numbers
numbers_with lookup machining shape = record {
  tool = lookup.technology.tool;
  spindle = lookup.technology.spindle.value;
  feed = lookup.technology.feed.value;
  sec = lookup.security.point.z;
  ret = retract_height lookup;
  z0 = lookup.placement.point.z;
  bottom = lookup.placement.point.z -ℤ depth_of lookup +ℤ allowance_of machining;
  axial = axial_of lookup machining;
  shape = shape;
}

-- the numbers, unless the path of step n would have too many blocks
abbrev pub few_blocks : ℕ → Numbers → Result Numbers DefFault
few_blocks n x =
    let count = block_count x.z0 x.bottom x.axial x.shape in if nat_le count MAX_BLOCKS then Ok x else Err (TooManyBlocks n count)

-- the numbers of the definition of workingstep n, or its first fault; an n that is not there has no feature at its position 3
unfoldable pub numbers_at : (ℕ → Option Entity) → ℕ → Result Numbers DefFault
numbers_at from n = do
  step ← found n 3 (from n)
  lookup ← lookup_of from n step
  machining ← machining_of lookup
  shape ← shape_of lookup machining
  few_blocks n (numbers_with lookup machining shape)
