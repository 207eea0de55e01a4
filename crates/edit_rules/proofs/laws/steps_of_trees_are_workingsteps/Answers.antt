use Rattle.std.proofs.Common.{◌≡◌, sym, subst, true}
use Rattle.std.specs.List.{list_all}
use Rattle.step_def.specs.Condition.{is_workingstep}
use Rattle.edit_rules.proofs.TreeLemmas.{steps_are_workingsteps}
use Rattle.exec_tree.specs.TreeFault.{nothing_seen}
use Rattle.edit_rules.proofs.laws.steps_of_trees_are_workingsteps.Goals as goal

pub returns : goal.returns
returns c = λ entities main tree is.
    subst (λ steps. list_all (is_workingstep entities) steps ≡ true) (sym (c.trees_tell.ensures.steps nothing_seen entities main tree is)) (steps_are_workingsteps entities main)
