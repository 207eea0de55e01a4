use Rattle.std.proofs.Common.{List, sym, ◌∙◌, subst}
use Rattle.exec_tree.specs.Exec.{AreDistinct}
use Rattle.plan_window.specs.Window.{AreLines}
use Rattle.plan_window.proofs.OpenLemmas.{tree_lines}
use Rattle.plan_window.proofs.window.PlanWindow.open.Goals as goal

pub fill_all-requires-clause-lines : goal.fill_all-requires-clause-lines
fill_all-requires-clause-lines c =
    subst (λ (lines : List (List _)). AreLines lines c.in_ok-sent.sent.steps) (sym c.in_ok-lines.ensures)
    (tree_lines c.args.tree.now.nodes c.in_ok-sent.sent.steps (subst AreDistinct (sym c.nodes.ensures.preorder) c.nodes.ensures.distinct) (c.in_ok-sent.ensures.steps ∙ c.steps.ensures))
