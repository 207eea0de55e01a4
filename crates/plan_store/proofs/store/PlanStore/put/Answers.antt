use Rattle.std.proofs.Common.{set, sym}
use Rattle.plan_store.proofs.StoreLemmas.{rows_of, row_written, some_at, windows_told, told_ticket}
use Rattle.plan_store.specs.StepAhead.{told, ticket_of, plan_of}
use Rattle.plan_store.specs.Stage.{stage_of}
use Rattle.plan_store.proofs.StepLemmas.{view_of, holds_of}
use Rattle.plan_store.proofs.store.PlanStore.put.Goals as goal

pub invariant_of-self : goal.invariant_of-self
invariant_of-self c =
    let rows = rows_of _ _ _ c.self.invariant c.self.view_is in
    let a = some_at c.args.self.now c.args.index c.requires.within in
    let s = stage_of c.args.state c.args.plan in
    let b = told c.args.version s a.0 in
    let here = told_ticket c.ticket_at-ticket.result a.0 c.args.version c.args.state s (c.ticket_at-ticket.ensures a.0 a.1) c.requires.told in
    holds_of _ _ (set c.args.self.now c.args.index b)
    (row_written ticket_of _ _ c.args.self.now c.args.index _ b rows.tickets_are c.as_mut_slice.ensures.value here)
    (row_written plan_of _ _ c.args.self.now c.args.index _ b rows.plans_are c.as_mut_slice-2.ensures.value (sym c.requires.planned))
    (windows_told c.args.version s c.args.self.now c.args.index a.0 rows.windows a.1)

pub returns : goal.returns
returns c = λ a at.
    let rows = rows_of _ _ _ c.self.invariant c.self.view_is in
    let s = stage_of c.args.state c.args.plan in
    let b = told c.args.version s a in
    let here = told_ticket c.ticket_at-ticket.result a c.args.version c.args.state s (c.ticket_at-ticket.ensures a at) c.requires.told in
    view_of _ _ (set c.args.self.now c.args.index b)
    (row_written ticket_of _ _ c.args.self.now c.args.index _ b rows.tickets_are c.as_mut_slice.ensures.value here)
    (row_written plan_of _ _ c.args.self.now c.args.index _ b rows.plans_are c.as_mut_slice-2.ensures.value (sym c.requires.planned))
