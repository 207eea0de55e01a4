use Rattle.std.proofs.Common.{◌∙◌, ◌-◌, ◌++◌, arith, w64, to_z, of_z}
use Rattle.std.proofs.lemmas.Int.{to_z-of_z}
use Rattle.path_blocks.specs.Numbers.{numbers_of}
use Rattle.path_blocks.specs.PathDrill.{down_into, dwell_blocks, up_from}
use Rattle.path_gen.proofs.Pieces.{of_second}
use Rattle.path_gen.proofs.Holes.{back_told}
use Rattle.path_gen.proofs.hole.block.Goals as goal

pub returns-in_default : goal.returns-in_default
returns-in_default c =
    of_second (down_into (numbers_of c.args.def.now) c.args.x c.args.y) (dwell_blocks c.args.dwell ++ up_from (numbers_of c.args.def.now) c.args.x c.args.y) c.args.index (c.args.index - 4) (omega arith)
    ∙ back_told (numbers_of c.args.def.now) c.args.x c.args.y c.args.dwell (to_z w64 (of_z w64 c.args.x)) (to_z w64 (of_z w64 c.args.y)) (to_z w64 (of_z w64 c.args.dwell)) (c.args.index - 4)
    (to_z-of_z w64 c.args.x c.ranges.x) (to_z-of_z w64 c.args.y c.ranges.y) (to_z-of_z w64 c.args.dwell c.ranges.dwell)
    ∙ c.back_block.ensures
