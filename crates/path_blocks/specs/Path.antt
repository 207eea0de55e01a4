-- The path of a definition: its blocks in order, after this profile.
use Rattle.std.specs.Prelude.{◌≡◌, ℕ, ℤ, List, length}
use Rattle.path_blocks.specs.declared.block.Block.{Block}
use Rattle.path_blocks.specs.declared.def.Def.{Def}
use Rattle.path_blocks.specs.declared.def.Shape.{Shape}
use Rattle.path_blocks.specs.declared.def.Shape.TheVariants.{Drill, Plane, Pocket}
use Rattle.path_blocks.specs.Numbers.{Numbers, numbers_of}
use Rattle.path_blocks.specs.PathDrill.{path_drill}
use Rattle.path_blocks.specs.PathPlane.{path_plane}
use Rattle.path_blocks.specs.PathPocket.{path_pocket}

-- the blocks of a shape
abbrev pub path_of_shape : Numbers → Shape → List Block
path_of_shape d (Drill x y dwell) = path_drill d x y dwell
path_of_shape d (Plane x y ux uy len width step both) =
    path_plane d (record { x = x; y = y; ux = ux; uy = uy; len = len; width = width; step = step; both = both })
path_of_shape d (Pocket left low right high radial) = path_pocket d (record { left = left; low = low; right = right; high = high }) radial

-- the blocks of these numbers
abbrev pub path_from : Numbers → List Block
path_from d = path_of_shape d d.shape

-- the blocks of the definition
abbrev pub path_of : Def → List Block
path_of d = path_from (numbers_of d)

-- n is how many blocks the path has of any definition with this shape between these heights, cut in levels of axial
abbrev pub IsPathLength : ℤ → ℤ → ℤ → Shape → ℕ → Type 0
IsPathLength z0 bottom axial shape n =
    (d : Numbers) → d.z0 ≡ z0 → d.bottom ≡ bottom → d.axial ≡ axial → d.shape ≡ shape → n ≡ length (path_from d)
