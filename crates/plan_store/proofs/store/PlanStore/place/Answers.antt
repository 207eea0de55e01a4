use Rattle.std.proofs.Common.{◌≡◌, length, ◌∙◌, ap, arith}
use Rattle.plan_store.proofs.StoreLemmas.{rows_of, end_of, end_within, row_inserted, none_counted}
use Rattle.std.proofs.lemmas.List.{length-map}
use Rattle.plan_store.specs.StepAhead.{placed, up_to, ticket_of, plan_of}
use Rattle.plan_store.proofs.StepLemmas.{view_of, holds_of}
use Rattle.plan_store.proofs.WindowLemmas.{room_in_all, windows_placed}
use Rattle.plan_store.proofs.store.PlanStore.place.Goals as goal

pub insert-requires : goal.insert-requires
insert-requires c =
    let rows = rows_of _ _ _ c.self.invariant c.self.view_is in
    let seen = c.deref.ensures.0 in
    let all = end_of c.args.self.now c.args.channel in
    let end : c.count_up_to-end.result ≡ length (up_to c.args.self.now c.args.channel) = cc in
    let long = ap length rows.tickets_are ∙ length-map c.args.self.now ticket_of in
    let room = room_in_all c.args.self.now c.args.channel rows.windows c.requires.within c.requires.room in
    let within = end_within c.args.self.now c.args.channel in
    (omega arith, (omega arith, omega arith))

pub insert-requires-2 : goal.insert-requires-2
insert-requires-2 c =
    let rows = rows_of _ _ _ c.self.invariant c.self.view_is in
    let seen = c.deref.ensures.0 in
    let all = end_of c.args.self.now c.args.channel in
    let end : c.count_up_to-end.result ≡ length (up_to c.args.self.now c.args.channel) = cc in
    let long = ap length rows.plans_are ∙ length-map c.args.self.now plan_of in
    let room = room_in_all c.args.self.now c.args.channel rows.windows c.requires.within c.requires.room in
    let within = end_within c.args.self.now c.args.channel in
    (omega arith, (omega arith, omega arith))

pub invariant_of-self : goal.invariant_of-self
invariant_of-self c =
    let rows = rows_of _ _ _ c.self.invariant c.self.view_is in
    let seen = c.deref.ensures.0 in
    let all = end_of c.args.self.now c.args.channel in
    let end : c.count_up_to-end.result ≡ length (up_to c.args.self.now c.args.channel) = cc in
    holds_of _ _ (placed c.args.self.now c.args.step c.args.channel c.args.version)
    (row_inserted ticket_of _ _ c.args.self.now c.count_up_to-end.result c.args.step c.args.channel c.args.version rows.windows c.insert.ensures.items rows.tickets_are end)
    (row_inserted plan_of _ _ c.args.self.now c.count_up_to-end.result c.args.step c.args.channel c.args.version rows.windows c.insert-2.ensures.items rows.plans_are end)
    (windows_placed c.args.self.now c.args.step c.args.channel c.args.version rows.windows c.requires.within (none_counted c.args.step c.args.self.now c.requires.new) c.requires.room)

pub returns : goal.returns
returns c =
    let rows = rows_of _ _ _ c.self.invariant c.self.view_is in
    let seen = c.deref.ensures.0 in
    let all = end_of c.args.self.now c.args.channel in
    let end : c.count_up_to-end.result ≡ length (up_to c.args.self.now c.args.channel) = cc in
    view_of _ _ (placed c.args.self.now c.args.step c.args.channel c.args.version)
    (row_inserted ticket_of _ _ c.args.self.now c.count_up_to-end.result c.args.step c.args.channel c.args.version rows.windows c.insert.ensures.items rows.tickets_are end)
    (row_inserted plan_of _ _ c.args.self.now c.count_up_to-end.result c.args.step c.args.channel c.args.version rows.windows c.insert-2.ensures.items rows.plans_are end)
