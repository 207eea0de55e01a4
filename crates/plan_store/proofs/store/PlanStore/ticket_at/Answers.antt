use Rattle.std.proofs.Common.{◌∙◌}
use Rattle.plan_store.proofs.StoreLemmas.{rows_of, row_read}
use Rattle.plan_store.specs.StepAhead.{ticket_of}
use Rattle.plan_store.proofs.store.PlanStore.ticket_at.Goals as goal

pub returns : goal.returns
returns c = λ x at.
    let rows = rows_of _ _ _ c.self.invariant c.self.view_is in
    row_read ticket_of _ _ _ x _ (c.deref.ensures.0 ∙ rows.tickets_are) at
