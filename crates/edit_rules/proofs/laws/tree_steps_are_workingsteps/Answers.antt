use Rattle.edit_rules.proofs.TreeLemmas.{steps_are_workingsteps}
use Rattle.edit_rules.proofs.laws.tree_steps_are_workingsteps.Goals as goal

pub returns : goal.returns
returns c = steps_are_workingsteps
