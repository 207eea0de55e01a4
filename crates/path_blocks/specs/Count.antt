-- How many blocks a path has.
use Rattle.std.specs.Prelude.{ℕ, ℤ, pos, unsigned_abs, ◌-ℤ◌, int_lt, ◌+◌, ◌*◌, ◌/◌, min, if◌then◌else◌}
use Rattle.path_blocks.specs.declared.def.Shape.{Shape}
use Rattle.path_blocks.specs.declared.def.Shape.TheVariants.{Drill, Plane, Pocket}
use Rattle.path_blocks.specs.Cuts.{cut_count}

-- how many levels a depth takes
abbrev pub level_count : ℤ → ℤ → ℤ → ℕ
level_count z0 bottom axial = cut_count (unsigned_abs axial) (unsigned_abs (z0 -ℤ bottom))

-- how many rows a width takes
abbrev pub row_count : ℤ → ℤ → ℕ
row_count step width = cut_count (unsigned_abs step) (unsigned_abs width) + 1

-- the greatest number of times that a rectangle can be shrunk by radial on each side
abbrev pub last_ring : ℤ → ℤ → ℤ → ℤ → ℤ → ℕ
last_ring left low right high radial = min (unsigned_abs (right -ℤ left)) (unsigned_abs (high -ℤ low)) / (2 * unsigned_abs radial)

-- how many blocks the path has of a shape between these heights, cut in levels of axial
abbrev pub block_count : ℤ → ℤ → ℤ → Shape → ℕ
block_count z0 bottom axial (Drill x y dwell) = if int_lt (pos 0) dwell then 7 else 6
block_count z0 bottom axial (Plane x y ux uy len width step both) = 3 + level_count z0 bottom axial * (2 + 2 * row_count step width)
block_count z0 bottom axial (Pocket left low right high radial) =
    3 + level_count z0 bottom axial * (2 + 5 * (last_ring left low right high radial + 1))
