use Rattle.std.proofs.Common.{◌<◌, ℕ, length, subst, arith}
use Rattle.std.proofs.lemmas.List.{get_or_read}
use Rattle.project_store.specs.Entities.{entity_at}
use Rattle.project_versions.specs.Users.{rows_of, AddsLinked}
use Rattle.project_versions.proofs.UserLemmas.{placed}
use Rattle.project_versions.proofs.BackwardLemmas.{on_ok, users_all, users_none}
use Rattle.project_versions.proofs.backward.insert_users.Goals as goal

pub index-requires : goal.index-requires
index-requires c =
    let place = placed c.args.store.now c.args.number c.in-Some.place c.in-Some.ensures.found in
    omega (arith, place.there, c.requires.rows.heads)

pub insert_linked-requires-clause-within : goal.insert_linked-requires-clause-within
insert_linked-requires-clause-within c =
    let heads = c.args.users.now.heads.items in
    let place = placed c.args.store.now c.args.number c.in-Some.place c.in-Some.ensures.found in
    let within : c.in-Some.place < length heads = omega (arith, place.there, c.requires.rows.heads) in
    omega (arith, get_or_read heads c.in-Some.place c.index.result.now within c.index.ensures 0, c.requires.index.linked.ends c.in-Some.place)

pub returns-in-Some-clause-order : goal.returns-in-Some-clause-order
returns-in-Some-clause-order c =
    let store = c.args.store.now in
    let rows = rows_of c.args.users.now in
    let heads = c.args.users.now.heads.items in
    let old = c.args.set.now.order.items in
    let new = c.insert_linked.new.set.order.items in
    let place = placed store c.args.number c.in-Some.place c.in-Some.ensures.found in
    let within : c.in-Some.place < length heads = omega (arith, place.there, c.requires.rows.heads) in
    let head = get_or_read heads c.in-Some.place c.index.result.now within c.index.ensures 0 in
    on_ok c.insert_linked.result
    (λ adds. users_all store rows c.args.number c.in-Some.place old new c.requires.index c.in-Some.ensures.found (subst (λ (h : ℕ). AddsLinked store rows h 0 old new) head adds))
    c.insert_linked.ensures.order

pub returns-in-None-clause-order : goal.returns-in-None-clause-order
returns-in-None-clause-order c =
    users_none (entity_at c.args.store.now) c.args.number c.args.set.now.order.items c.closed.ensures (c.place_of.ensures.none.0 c.in-None.is)
