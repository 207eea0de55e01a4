use Rattle.std.proofs.Common.{◌∙◌, ◌-◌, w64, to_z, of_z}
use Rattle.std.proofs.lemmas.Int.{to_z-of_z}
use Rattle.path_blocks.specs.Numbers.{numbers_of}
use Rattle.path_blocks.specs.PathDrill.{up_from}
use Rattle.path_gen.proofs.Holes.{after_dwell, up_told, waits}
use Rattle.path_gen.proofs.hole.back_block.Goals as goal

pub returns-else-index-eq0 : goal.returns-else-index-eq0
returns-else-index-eq0 c =
    after_dwell c.args.dwell (up_from (numbers_of c.args.def.now) c.args.x c.args.y) c.args.index (waits c.args.dwell (to_z w64 (of_z w64 c.args.dwell)) (to_z-of_z w64 c.args.dwell c.ranges.dwell) c.if-dwell-le0.false) c.if-index-eq0.false
    ∙ up_told (numbers_of c.args.def.now) c.args.x c.args.y (to_z w64 (of_z w64 c.args.x)) (to_z w64 (of_z w64 c.args.y)) (c.args.index - 1) (to_z-of_z w64 c.args.x c.ranges.x) (to_z-of_z w64 c.args.y c.ranges.y)
    ∙ c.up_block-else-index-eq0.ensures
