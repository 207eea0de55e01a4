use Rattle.std.proofs.Common.{◌≡◌, subst, sym, ap, ◌∙◌, length}
use Rattle.exec_tree.specs.Exec.{nodes, AreDistinct, HasChoices}
use Rattle.exec_tree.specs.Arena.{tree_down, numbers_in, IsClosed, AreShaped, AreNamed}
use Rattle.exec_tree.specs.Walked.{Walked}
use Rattle.exec_tree.specs.Built.{steps_in}
use Rattle.exec_tree.proofs.BuiltLemmas.{is_tree}
use Rattle.exec_tree.proofs.walk.Walk.into_tree.Goals as goal

pub invariant_of-result : goal.invariant_of-result
invariant_of-result g c =
    is_tree c.self.inside.places c.self.inside.nodes.items c.in_ok-nodes.nodes.items c.self.inside.weight c.in_ok-steps.steps c.self.inside.channels c.self.invariant
    (subst (λ (w : Walked). IsClosed w.nodes 0 (length w.nodes)) (sym c.self.view_is) c.requires.closed)
    (subst (λ (w : Walked). AreShaped w.nodes) (sym c.self.view_is) c.requires.shaped)
    (subst (λ (w : Walked). AreNamed w.nodes) (sym c.self.view_is) c.requires.named)
    (subst (λ (w : Walked). numbers_in w.nodes ≡ nodes (tree_down w.nodes 64 0)) (sym c.self.view_is) c.requires.preorder)
    (subst (λ (w : Walked). AreDistinct (nodes (tree_down w.nodes 64 0))) (sym c.self.view_is) c.requires.distinct)
    (subst (λ (w : Walked). HasChoices (tree_down w.nodes 64 0)) (sym c.self.view_is) c.requires.choices)
    (c.in_ok-steps.ensures ∙ ap steps_in c.as_slice.ensures.value) c.in_ok-nodes.ensures.bare
