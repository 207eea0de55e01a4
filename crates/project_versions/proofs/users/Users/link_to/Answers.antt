use Rattle.std.proofs.Common.{◌∷◌, [], IsTrue, refl, sym, subst, arith}
use Rattle.project_versions.specs.Users.{Rows, rows_of, Links}
use Rattle.project_versions.proofs.UserLemmas.{placed, unplaced, one_link, no_link_more}
use Rattle.project_versions.proofs.UnlinkLemmas.{linked_before}
use Rattle.project_versions.proofs.users.Users.link_to.Goals as goal

pub is_linked-requires-clause-place : goal.is_linked-requires-clause-place
is_linked-requires-clause-place c =
    let place = placed c.args.store.now c.args.reference c.in-Some.place c.in-Some.ensures.found in
    omega (arith, place.there, c.requires.rows.heads)

pub is_linked-requires-clause-user : goal.is_linked-requires-clause-user
is_linked-requires-clause-user c = omega (arith, c.requires.user, c.requires.rows.since)

pub link-requires-clause-place : goal.link-requires-clause-place
link-requires-clause-place c =
    let place = placed c.args.store.now c.args.reference c.in-Some.place c.in-Some.ensures.found in
    omega (arith, place.there, c.requires.rows.heads)

pub returns-then-not-is_linked-clause-links : goal.returns-then-not-is_linked-clause-links
returns-then-not-is_linked-clause-links c =
    let store = c.args.store.now in
    let old = rows_of c.args.self.now in
    let place = placed store c.args.reference c.in-Some.place c.in-Some.ensures.found in
    subst (λ (new : Rows). Links store old new c.args.user (c.args.reference ∷ [])) (sym c.link.ensures.rows)
    (one_link store old c.in-Some.place c.args.user c.args.reference c.requires.linked place.there (omega (arith, place.there, c.requires.rows.heads)) c.requires.user place.is place.only)

pub returns-else-not-is_linked-clause-links : goal.returns-else-not-is_linked-clause-links
returns-else-not-is_linked-clause-links c =
    let store = c.args.store.now in
    let old = rows_of c.args.self.now in
    let place = placed store c.args.reference c.in-Some.place c.in-Some.ensures.found in
    let there : IsTrue c.is_linked.result = rw c.if-not-is_linked.false refl in
    let edge = c.is_linked.ensures there in
    linked_before store old c.in-Some.place c.args.user c.args.reference edge.0 c.requires.linked edge.1 place.only

pub returns-in_default-clause-links : goal.returns-in_default-clause-links
returns-in_default-clause-links c =
    no_link_more c.args.store.now (rows_of c.args.self.now) c.args.user c.args.reference c.requires.linked
    (unplaced c.args.store.now c.args.reference c.place_of.result c.in_default.is c.place_of.ensures.found)
