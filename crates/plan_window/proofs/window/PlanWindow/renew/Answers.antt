use Rattle.std.proofs.Common.{List, sym, ap, subst, ◌∙◌}
use Rattle.std.specs.Prelude.{Contains}
use Rattle.project_versions.specs.Versioned.{version_of}
use Rattle.plan_law.specs.Tickets.{all_renewed}
use Rattle.plan_window.specs.Window.{Windowed, IsWindow}
use Rattle.plan_window.specs.Kept.{IsKept}
use Rattle.plan_window.proofs.TurnLemmas.{kept_same, renewed_steps, ahead_is_known}
use Rattle.plan_window.proofs.window.PlanWindow.renew.Goals as goal

pub renew_all-requires : goal.renew_all-requires
renew_all-requires c = λ i a at.
    let inside = c.self.inside in
    let told = subst IsWindow (sym c.self.view_is) c.legal.ensures in
    subst (λ (ns : List _). Contains ns a.step) (ap (λ (w : Windowed). w.known) c.self.view_is ∙ sym c.requires)
    (ahead_is_known inside.store inside.lines.items inside.sent.steps inside.sent.members inside.nexts.items told.windows c.self.invariant i a at)

pub invariant_of-self : goal.invariant_of-self
invariant_of-self c =
    let inside = c.self.inside in
    let version = version_of c.args.versions.now.versions in
    subst (λ all. IsKept all inside.lines.items inside.sent.steps inside.sent.members inside.nexts.items) (sym c.renew_all.ensures)
    (kept_same inside.store (all_renewed version inside.store) _ _ _ _ (renewed_steps version inside.store) c.self.invariant)
