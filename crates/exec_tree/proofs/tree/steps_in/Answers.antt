use Rattle.std.proofs.Common.{◌∙◌, ◌++◌, ℕ, Option, ap}
use Rattle.exec_tree.specs.Exec.{number_or_none}
use Rattle.exec_tree.proofs.LookupLemmas.{steps_next}
use Rattle.exec_tree.proofs.tree.steps_in.Goals as goal

pub loop-node-preserved : goal.loop-node-preserved
loop-node-preserved c =
    steps_next c.args.nodes.now c.loop-node.node-index c.node-item.result c.loop-node.steps c.push_some.new.numbers c.loop-node-test.true c.node-item.is c.loop-node.invariant
    (c.in_ok-push_some.ensures ∙ ap (λ (o : Option ℕ). c.loop-node.steps ++ number_or_none o) c.step_of.ensures)
