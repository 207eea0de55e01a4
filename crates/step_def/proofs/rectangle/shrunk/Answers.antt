use Rattle.std.proofs.Common.{rules, FitsSigned, w64}
use Rattle.step_def.proofs.Heights.{same_sides, sum_back, difference_back}
use Rattle.step_def.proofs.rectangle.shrunk.Goals as goal

pub returns : goal.returns
returns c =
    let f : FitsSigned w64 c.args.sides.now.left = search rules in
    let g : FitsSigned w64 c.args.sides.now.low = search rules in
    let h : FitsSigned w64 c.args.sides.now.right = search rules in
    let k : FitsSigned w64 c.args.sides.now.high = search rules in
    same_sides _ _ _ _ _ _ _ _
    (sum_back c.args.sides.now.left c.args.by f c.requires.within.left c.requires.by)
    (sum_back c.args.sides.now.low c.args.by g c.requires.within.low c.requires.by)
    (difference_back c.args.sides.now.right c.args.by h c.requires.within.right c.requires.by)
    (difference_back c.args.sides.now.high c.args.by k c.requires.within.high c.requires.by)
