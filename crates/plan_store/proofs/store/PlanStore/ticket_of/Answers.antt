use Rattle.std.proofs.Common.{◌≡◌, Some, None, sym, ◌∙◌, ap}
use Rattle.plan_store.proofs.StoreLemmas.{rows_of, step_at, step_within, step_nowhere, some_at}
use Rattle.std.specs.Option.{option_map}
use Rattle.plan_store.specs.StepAhead.{ticket_of, step_in}
use Rattle.plan_store.proofs.store.PlanStore.ticket_of.Goals as goal

pub returns-in_err-index : goal.returns-in_err-index
returns-in_err-index c =
    let rows = rows_of _ _ _ c.self.invariant c.self.view_is in
    let seen = c.deref.ensures.0 in
    let was : c.index_of.result ≡ None = c.in_err-index.was in
    let none = step_nowhere c.args.step c.args.self.now cc in
    c.from_residual.ensures ∙ ap (option_map ticket_of) (sym none)

pub returns : goal.returns
returns c =
    let rows = rows_of _ _ _ c.self.invariant c.self.view_is in
    let seen = c.deref.ensures.0 in
    let was : c.index_of.result ≡ Some c.in_ok-index.index = c.in_ok-index.was in
    let at = step_at c.args.step c.args.self.now c.in_ok-index.index cc in
    let a = some_at c.args.self.now c.in_ok-index.index (step_within c.args.step c.args.self.now c.in_ok-index.index cc) in
    let told = c.ticket_at.ensures a.0 a.1 in
    let found : step_in c.args.self.now c.args.step ≡ Some a.0 = sym at ∙ a.1 in
    ap Some told ∙ ap (option_map ticket_of) (sym found)

pub ticket_at-requires : goal.ticket_at-requires
ticket_at-requires c =
    let rows = rows_of _ _ _ c.self.invariant c.self.view_is in
    let seen = c.deref.ensures.0 in
    let was : c.index_of.result ≡ Some c.in_ok-index.index = c.in_ok-index.was in
    step_within c.args.step c.args.self.now c.in_ok-index.index cc
