use Rattle.edit_rules.proofs.StepLemmas.{next_index}
use Rattle.edit_rules.proofs.indices.indices_of.Goals as goal

pub loop-i-preserved : goal.loop-i-preserved
loop-i-preserved c =
    next_index c.loop-i.indices c.insert.new.self c.args.steps.now c.loop-i.i c.index-steps-i.result c.loop-i-test.true c.index-steps-i.is c.loop-i.invariant c.in_ok-insert.ensures.updates
