-- The path of a rectangular pocket, after this profile: on each level rings from the inside out.
use Rattle.std.specs.Prelude.{ℕ, ℤ, pos, zero, suc, unsigned_abs, ◌+ℤ◌, ◌-ℤ◌, ◌*◌, List, [], ◌∷◌, ◌++◌}
use Rattle.std.specs.List.{flat_map}
use Rattle.path_blocks.specs.declared.block.Block.{Block}
use Rattle.path_blocks.specs.declared.block.Block.TheVariants.{Tool, Rapid, Feed}
use Rattle.path_blocks.specs.Numbers.{Numbers, levels}
use Rattle.path_blocks.specs.Count.{last_ring}

-- the four sides of a rectangle
pub record Rectangle : Type 0 where
  pub left : ℤ
  pub low : ℤ
  pub right : ℤ
  pub high : ℤ

-- the rectangle shrunk by so much on each side
abbrev pub shrunk : Rectangle → ℕ → Rectangle
shrunk r by = record { left = r.left +ℤ pos by; low = r.low +ℤ pos by; right = r.right -ℤ pos by; high = r.high -ℤ pos by }

-- once round a rectangle: lower left, lower right, upper right, upper left, lower left
abbrev pub round : Numbers → ℤ → Rectangle → List Block
round d z r =
    Feed r.left r.low z d.feed ∷ Feed r.right r.low z d.feed ∷ Feed r.right r.high z d.feed ∷ Feed r.left r.high z d.feed ∷ Feed r.left r.low z d.feed ∷ []

-- ring j: the rectangle shrunk by j times radial
abbrev pub ring : Rectangle → ℤ → ℕ → Rectangle
ring r radial j = shrunk r (j * unsigned_abs radial)

-- the numbers below n, from the greatest down to 0
unfoldable pub down_from : ℕ → List ℕ
down_from zero = []
down_from (suc n) = n ∷ down_from n

-- the number of the innermost ring
abbrev pub innermost : Rectangle → ℤ → ℕ
innermost r radial = last_ring r.left r.low r.right r.high radial

-- a rapid move to the lower left of a rectangle at this height
abbrev pub rapid_over : ℤ → Rectangle → Block
rapid_over z r = Rapid r.left r.low z

-- the rings of a level, from the inside out
abbrev pub rings : Numbers → Rectangle → ℤ → ℤ → List Block
rings d r radial z = flat_map (λ j. round d z (ring r radial j)) (down_from (suc (innermost r radial)))

-- one level: down to the retract plane over the innermost ring, the rings, and up to the retract plane
abbrev pub pocket_level : Numbers → Rectangle → ℤ → ℤ → List Block
pocket_level d r radial z = rapid_over d.ret (ring r radial (innermost r radial)) ∷ (rings d r radial z ++ rapid_over d.ret r ∷ [])

-- a pocket: the tool, over the innermost ring, the levels, and up to the security plane
unfoldable pub path_pocket : Numbers → Rectangle → ℤ → List Block
path_pocket d r radial =
    Tool d.tool d.spindle
    ∷ rapid_over d.sec (ring r radial (innermost r radial))
    ∷ (flat_map (pocket_level d r radial) (levels d) ++ rapid_over d.sec r ∷ [])
