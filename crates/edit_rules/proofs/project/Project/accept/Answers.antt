use Rattle.std.proofs.Common.{◌≡◌, List, ℕ, true, sym, subst, ◌∙◌}
use Rattle.std.specs.List.{list_all}
use Rattle.project_store.specs.Entities.{entity_at}
use Rattle.step_def.specs.Condition.{is_workingstep}
use Rattle.exec_tree.specs.Built.{main_of, steps_of}
use Rattle.exec_tree.specs.TreeFault.{nothing_seen}
use Rattle.edit_rules.proofs.TreeLemmas.{steps_are_workingsteps}
use Rattle.edit_rules.proofs.project.Project.accept.Goals as goal

pub steps_of-requires : goal.steps_of-requires
steps_of-requires c =
    let entities = entity_at c.args.store in
    let main = main_of c.args.store in
    let are : c.steps.result.now ≡ steps_of entities main = c.steps.ensures ∙ c.trees_tell.ensures.steps nothing_seen entities main c.in_ok-tree.tree c.in_ok-tree.ensures.tree in
    subst (λ (ns : List ℕ). list_all (is_workingstep entities) ns ≡ true) (sym are) (steps_are_workingsteps entities main)
