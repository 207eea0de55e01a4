-- The path of a drilled hole, after this profile.
use Rattle.std.specs.Prelude.{ℤ, pos, int_lt, List, [], ◌∷◌, ◌++◌, if◌then◌else◌}
use Rattle.path_blocks.specs.declared.block.Block.{Block}
use Rattle.path_blocks.specs.declared.block.Block.TheVariants.{Tool, Rapid, Feed, Dwell}
use Rattle.path_blocks.specs.Numbers.{Numbers}

-- a dwell at the bottom, where there is one
abbrev pub dwell_blocks : ℤ → List Block
dwell_blocks ms = if int_lt (pos 0) ms then Dwell ms ∷ [] else []

-- the tool, over the place, down to the retract plane, and feed to the bottom
abbrev pub down_into : Numbers → ℤ → ℤ → List Block
down_into d x y = Tool d.tool d.spindle ∷ Rapid x y d.sec ∷ Rapid x y d.ret ∷ Feed x y d.bottom d.feed ∷ []

-- back up to the retract plane and to the security plane
abbrev pub up_from : Numbers → ℤ → ℤ → List Block
up_from d x y = Rapid x y d.ret ∷ Rapid x y d.sec ∷ []

-- a drilled hole
abbrev pub path_drill : Numbers → ℤ → ℤ → ℤ → List Block
path_drill d x y dwell = down_into d x y ++ (dwell_blocks dwell ++ up_from d x y)
