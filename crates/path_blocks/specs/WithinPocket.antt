-- Where the feeds of a pocket lie.
use Rattle.std.specs.Prelude.{ℤ, ◌≤ℤ◌, ⊤}
use Rattle.path_blocks.specs.declared.block.Block.{Block}
use Rattle.path_blocks.specs.declared.block.Block.TheVariants.{Tool, Rapid, Feed, Dwell}
use Rattle.path_blocks.specs.declared.def.Shape.{Shape}
use Rattle.path_blocks.specs.declared.def.Shape.TheVariants.{Drill, Plane, Pocket}
use Rattle.path_blocks.specs.PathPocket.{Rectangle}

-- a point lies in the rectangle, and not below the bottom
abbrev pub LiesIn : Rectangle → ℤ → ℤ → ℤ → ℤ → Type 0
LiesIn r bottom x y z = (r.left ≤ℤ x) × (x ≤ℤ r.right) × (r.low ≤ℤ y) × (y ≤ℤ r.high) × (bottom ≤ℤ z)

-- a feed goes to a point in the rectangle, and not below the bottom
abbrev pub FeedsWithin : Rectangle → ℤ → Block → Type 0
FeedsWithin r bottom (Tool tool spindle) = ⊤
FeedsWithin r bottom (Rapid x y z) = ⊤
FeedsWithin r bottom (Feed x y z f) = LiesIn r bottom x y z
FeedsWithin r bottom (Dwell ms) = ⊤

-- a feed of a pocket stays within its rectangle, and not below its bottom
abbrev pub StaysWithin : ℤ → Shape → Block → Type 0
StaysWithin bottom (Drill x y dwell) b = ⊤
StaysWithin bottom (Plane x y ux uy len width step both) b = ⊤
StaysWithin bottom (Pocket left low right high radial) b = FeedsWithin (record { left = left; low = low; right = right; high = high }) bottom b
