use Rattle.std.proofs.Common.{sym, subst}
use Rattle.plan_store.specs.StepAhead.{handed}
use Rattle.plan_window.specs.Kept.{IsKept}
use Rattle.plan_window.proofs.TurnLemmas.{kept_same, handed_steps}
use Rattle.plan_window.proofs.window.PlanWindow.offer.Goals as goal

pub invariant_of-self : goal.invariant_of-self
invariant_of-self c =
    let inside = c.self.inside in
    subst (λ all. IsKept all inside.lines.items inside.sent.steps inside.sent.members inside.nexts.items) (sym c.hand.ensures.handed)
    (kept_same inside.store (handed inside.store) _ _ _ _ (handed_steps inside.store) c.self.invariant)
