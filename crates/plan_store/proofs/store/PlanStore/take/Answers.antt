use Rattle.std.proofs.Common.{List, Option, map, option_and_then, sym, ◌∙◌, ap}
use Rattle.std.specs.List.{remove}
use Rattle.path_blocks.specs.declared.def.Def.{Def}
use Rattle.plan_store.specs.declared.ticket.Ticket.{Ticket}
use Rattle.plan_store.specs.StepAhead.{taken, ticket_of, plan_of}
use Rattle.plan_store.proofs.StepLemmas.{view_of, holds_of, taken_at}
use Rattle.plan_store.proofs.StoreLemmas.{rows_of, row_read, row_removed, step_of_ticket, step_found}
use Rattle.plan_store.proofs.WindowLemmas.{windows_taken}
use Rattle.plan_store.proofs.store.PlanStore.take.Goals as goal

pub invariant_of-self : goal.invariant_of-self
invariant_of-self c =
    let rows = rows_of _ _ _ c.self.invariant c.self.view_is in
    let a = step_of_ticket c.args.step c.args.self.now c.requires in
    let at = c.seek-index.ensures.there ∙ a.1 in
    let gone = taken_at c.args.step c.args.self.now c.seek-index.result a.0 (rows.windows.once c.args.step) at (step_found c.args.step c.args.self.now a.0 a.1) in
    holds_of _ _ (taken c.args.self.now c.args.step)
    (c.remove.ensures.items ∙ ap (λ (ys : List Ticket). remove ys c.seek-index.result) rows.tickets_are ∙ row_removed ticket_of c.args.self.now c.seek-index.result ∙ ap (map ticket_of) gone)
    (c.remove-2.ensures.items ∙ ap (λ (ys : List (Option Def)). remove ys c.seek-index.result) rows.plans_are ∙ row_removed plan_of c.args.self.now c.seek-index.result ∙ ap (map plan_of) gone)
    (windows_taken c.args.step c.args.self.now rows.windows)

pub returns-clause-plan : goal.returns-clause-plan
returns-clause-plan c =
    let rows = rows_of _ _ _ c.self.invariant c.self.view_is in
    let a = step_of_ticket c.args.step c.args.self.now c.requires in
    let at = c.seek-index.ensures.there ∙ a.1 in
    c.remove-2.ensures.value ∙ row_read plan_of _ c.args.self.now c.seek-index.result a.0 _ rows.plans_are at ∙ ap (option_and_then plan_of) (sym a.1)

pub returns-clause-taken : goal.returns-clause-taken
returns-clause-taken c =
    let rows = rows_of _ _ _ c.self.invariant c.self.view_is in
    let a = step_of_ticket c.args.step c.args.self.now c.requires in
    let at = c.seek-index.ensures.there ∙ a.1 in
    let gone = taken_at c.args.step c.args.self.now c.seek-index.result a.0 (rows.windows.once c.args.step) at (step_found c.args.step c.args.self.now a.0 a.1) in
    view_of _ _ (taken c.args.self.now c.args.step)
    (c.remove.ensures.items ∙ ap (λ (ys : List Ticket). remove ys c.seek-index.result) rows.tickets_are ∙ row_removed ticket_of c.args.self.now c.seek-index.result ∙ ap (map ticket_of) gone)
    (c.remove-2.ensures.items ∙ ap (λ (ys : List (Option Def)). remove ys c.seek-index.result) rows.plans_are ∙ row_removed plan_of c.args.self.now c.seek-index.result ∙ ap (map plan_of) gone)
