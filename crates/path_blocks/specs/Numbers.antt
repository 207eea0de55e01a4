-- The numbers of a definition, without the ranges that its type keeps.
use Rattle.std.specs.Prelude.{ℕ, ℤ, pos, unsigned_abs, ◌-ℤ◌, List, map}
use Rattle.path_blocks.specs.declared.def.Shape.{Shape}
use Rattle.path_blocks.specs.declared.def.Def.{Def}
use Rattle.path_blocks.specs.Cuts.{cuts}

-- all numbers that a path depends on
pub record Numbers : Type 0 where
  pub tool : ℕ
  pub spindle : ℤ
  pub feed : ℤ
  pub sec : ℤ
  pub ret : ℤ
  pub z0 : ℤ
  pub bottom : ℤ
  pub axial : ℤ
  pub shape : Shape

-- the numbers of a definition
abbrev pub numbers_of : Def → Numbers
numbers_of d = record { tool = d.tool; spindle = d.spindle; feed = d.feed; sec = d.sec; ret = d.ret; z0 = d.z0; bottom = d.bottom; axial = d.axial; shape = d.shape }

-- how far the levels go down: axial, 2 axial, .. while that is above the bottom, then to the bottom
abbrev pub depths : ℤ → ℤ → ℤ → List ℕ
depths z0 bottom axial = cuts (unsigned_abs axial) (unsigned_abs (z0 -ℤ bottom))

-- the heights of the levels, from the highest to the bottom
abbrev pub levels : Numbers → List ℤ
levels d = map (λ depth. d.z0 -ℤ pos depth) (depths d.z0 d.bottom d.axial)
