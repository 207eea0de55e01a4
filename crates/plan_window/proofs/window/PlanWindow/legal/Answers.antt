use Rattle.std.proofs.Common.{subst}
use Rattle.plan_window.specs.Window.{IsWindow}
use Rattle.plan_window.proofs.TurnLemmas.{is_window}
use Rattle.plan_window.proofs.window.PlanWindow.legal.Goals as goal

pub returns : goal.returns
returns c = subst IsWindow c.self.view_is (is_window _ _ _ _ _ c.tickets.ensures.windows c.self.invariant)
