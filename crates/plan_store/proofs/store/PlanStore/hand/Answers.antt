use Rattle.std.proofs.Common.{◌≡◌, Option, Some, None, set, sym, ◌∙◌, ap, refl}
use Rattle.plan_store.proofs.StoreLemmas.{rows_of, some_at, waiting_at, waiting_within, waiting_nowhere}
use Rattle.std.specs.Option.{option_map}
use Rattle.std.proofs.lemmas.Bool.{eq-eqb}
use Rattle.plan_store.specs.declared.ticket.Ticket.{Ticket}
use Rattle.plan_store.specs.Stage.{Asked}
use Rattle.plan_store.specs.StepAhead.{StepAhead, first_waiting, asked, asked_for, told}
use Rattle.plan_store.proofs.StepLemmas.{changed_at}
use Rattle.plan_store.proofs.store.PlanStore.hand.Goals as goal

nowhere : (c : goal.After-from_residual) → first_waiting c.args.self.now ≡ None
nowhere c =
    let rows = rows_of _ _ _ c.self.invariant c.self.view_is in
    let seen = c.deref.ensures.0 in
    let was : c.first_waiting.result ≡ None = c.in_err-index.was in
    waiting_nowhere c.args.self.now cc

pub returns-in_err-index-clause-first : goal.returns-in_err-index-clause-first
returns-in_err-index-clause-first c = c.from_residual.ensures ∙ ap (λ (o : Option StepAhead). option_map (λ (a : StepAhead). (a.step, a.version)) o) (sym (nowhere c))

pub returns-in_err-index-clause-handed : goal.returns-in_err-index-clause-handed
returns-in_err-index-clause-handed c = ap (asked_for c.args.self.now) (sym (nowhere c))

pub returns-clause-first : goal.returns-clause-first
returns-clause-first c =
    let rows = rows_of _ _ _ c.self.invariant c.self.view_is in
    let seen = c.deref.ensures.0 in
    let was : c.first_waiting.result ≡ Some c.in_ok-index.index = c.in_ok-index.was in
    let at = waiting_at c.args.self.now c.in_ok-index.index cc in
    let a = some_at c.args.self.now c.in_ok-index.index (waiting_within c.args.self.now c.in_ok-index.index cc) in
    let told = c.ticket_at-ticket.ensures a.0 a.1 in
    let found : first_waiting c.args.self.now ≡ Some a.0 = sym at ∙ a.1 in
    ap (λ (t : Ticket). Some (t.step, t.version)) told ∙ ap (λ (o : Option StepAhead). option_map (λ (b : StepAhead). (b.step, b.version)) o) (sym found)

pub returns-clause-handed : goal.returns-clause-handed
returns-clause-handed c =
    let rows = rows_of _ _ _ c.self.invariant c.self.view_is in
    let seen = c.deref.ensures.0 in
    let was : c.first_waiting.result ≡ Some c.in_ok-index.index = c.in_ok-index.was in
    let at = waiting_at c.args.self.now c.in_ok-index.index cc in
    let a = some_at c.args.self.now c.in_ok-index.index (waiting_within c.args.self.now c.in_ok-index.index cc) in
    let told_so = c.ticket_at-ticket.ensures a.0 a.1 in
    let found : first_waiting c.args.self.now ≡ Some a.0 = sym at ∙ a.1 in
    c.put.ensures a.0 a.1
    ∙ ap (λ (t : Ticket). set c.args.self.now c.in_ok-index.index (told t.version Asked a.0)) told_so
    ∙ changed_at a.0.step asked c.args.self.now c.in_ok-index.index a.0 (rows.windows.once a.0.step) a.1 (eq-eqb a.0.step a.0.step refl)
    ∙ ap (asked_for c.args.self.now) (sym found)
