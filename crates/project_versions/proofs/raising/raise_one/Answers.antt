use Rattle.std.proofs.Common.{◌<◌, ℕ, Option, IfNone, Contains, length, subst, arith}
use Rattle.std.proofs.lemmas.List.{get_or_read}
use Rattle.std.proofs.lemmas.Option.{slice_get_within}
use Rattle.project_versions.proofs.RaisingLemmas.{version_at, raised, not_raised}
use Rattle.project_versions.proofs.raising.raise_one.Goals as goal

pub overflow_add-index_mut : goal.overflow_add-index_mut
overflow_add-index_mut c =
    let order = c.args.order.now.order in
    let versions = c.args.versions.now.items in
    let within : c.in-Some.i < length versions = omega (arith, slice_get_within order c.in-Some.i c.args.step c.in-Some.ensures.found, c.requires.len) in
    let is = version_at order versions c.args.step c.in-Some.i c.in-Some.ensures.is_order.rising c.in-Some.ensures.found c.requires.len in
    let read = get_or_read versions c.in-Some.i c.index_mut.result.now within c.index_mut.ensures.value 0 in
    omega (arith, is, read, c.requires.fits)

pub returns-in-Some : goal.returns-in-Some
returns-in-Some c =
    raised c.args.order.now.order c.args.versions.now.items c.args.step c.in-Some.i c.index_mut.result.now c.in-Some.ensures.is_order.rising c.in-Some.ensures.found c.requires.len c.index_mut.ensures.value

pub returns-in_default : goal.returns-in_default
returns-in_default c =
    not_raised c.args.order.now.steps c.args.order.now.order c.args.versions.now.items c.args.step c.place_of.ensures.is_order
    (subst (λ (o : Option ℕ). IfNone o (Contains c.args.order.now.steps c.args.step → ⊥)) c.in_default.is c.place_of.ensures.none)
