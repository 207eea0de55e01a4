use Rattle.plan_store.proofs.StoreLemmas.{rows_of, step_at, step_nowhere, step_of_ticket}
use Rattle.plan_store.proofs.store.PlanStore.seek.Goals as goal

pub unreachable-requires : goal.unreachable-requires
unreachable-requires c =
    let rows = rows_of _ _ _ c.self.invariant c.self.view_is in
    let seen = c.deref.ensures.0 in
    let none = step_nowhere c.args.step c.args.self.now cc in
    let some = step_of_ticket c.args.step c.args.self.now c.requires in
    let there = some.1 in
    cc

pub returns-clause-there : goal.returns-clause-there
returns-clause-there c =
    let rows = rows_of _ _ _ c.self.invariant c.self.view_is in
    let seen = c.deref.ensures.0 in
    step_at c.args.step c.args.self.now c.in-Some.index cc

pub returns-clause-windows : goal.returns-clause-windows
returns-clause-windows c = (rows_of _ _ _ c.self.invariant c.self.view_is).windows
