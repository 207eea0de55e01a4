-- Where a hole's path goes.
use Rattle.std.specs.Prelude.{◌≡◌, ℤ, ◌≤ℤ◌, ⊤}
use Rattle.path_blocks.specs.declared.block.Block.{Block}
use Rattle.path_blocks.specs.declared.block.Block.TheVariants.{Tool, Rapid, Feed, Dwell}
use Rattle.path_blocks.specs.declared.def.Shape.{Shape}
use Rattle.path_blocks.specs.declared.def.Shape.TheVariants.{Drill, Plane, Pocket}

-- a move goes to a point over this place, and a feed not below the bottom
abbrev pub MovesOver : ℤ → ℤ → ℤ → Block → Type 0
MovesOver x y bottom (Tool tool spindle) = ⊤
MovesOver x y bottom (Rapid px py z) = (px ≡ x) × (py ≡ y)
MovesOver x y bottom (Feed px py z f) = (px ≡ x) × (py ≡ y) × (bottom ≤ℤ z)
MovesOver x y bottom (Dwell ms) = ⊤

-- a move of a hole stays over its place, and a feed goes not below its bottom
abbrev pub StaysOver : ℤ → Shape → Block → Type 0
StaysOver bottom (Drill x y dwell) b = MovesOver x y bottom b
StaysOver bottom (Plane x y ux uy len width step both) b = ⊤
StaysOver bottom (Pocket left low right high radial) b = ⊤
