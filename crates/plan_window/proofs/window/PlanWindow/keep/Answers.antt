use Rattle.std.proofs.Common.{sym, subst}
use Rattle.plan_store.specs.StepAhead.{kept}
use Rattle.plan_window.specs.Kept.{IsKept}
use Rattle.plan_window.proofs.TurnLemmas.{kept_same, kept_steps}
use Rattle.plan_window.proofs.window.PlanWindow.keep.Goals as goal

pub invariant_of-self : goal.invariant_of-self
invariant_of-self c =
    let inside = c.self.inside in
    subst (λ all. IsKept all inside.lines.items inside.sent.steps inside.sent.members inside.nexts.items) (sym c.keep.ensures)
    (kept_same inside.store (kept inside.store c.args.made.step c.args.made.plan) _ _ _ _ (kept_steps inside.store c.args.made.step c.args.made.plan) c.self.invariant)
