use Rattle.std.proofs.Common.{◌<◌, ◌≤◌, arith}
use Rattle.path_blocks.specs.Cuts.{count_below}
use Rattle.path_blocks.proofs.CutsLemmas.{cut_before, cut_last}
use Rattle.path_blocks.proofs.cuts.cut.Goals as goal

pub returns-then-index-count_below-clause-exact : goal.returns-then-index-count_below-clause-exact
returns-then-index-count_below-clause-exact c =
    let before : c.args.index < count_below c.args.step c.args.whole = omega arith in
    cut_before c.args.step c.args.whole c.args.index before

pub returns-else-index-count_below-clause-exact : goal.returns-else-index-count_below-clause-exact
returns-else-index-count_below-clause-exact c =
    let last : count_below c.args.step c.args.whole ≤ c.args.index = omega arith in
    cut_last c.args.step c.args.whole c.args.index last c.requires.index
