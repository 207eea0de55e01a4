use Rattle.std.proofs.Common.{◌≡◌, ◌<◌, ◌≤◌, length, get_or, Some, sym, ap, ◌∙◌, arith}
use Rattle.std.specs.Prelude.{slice_get}
use Rattle.std.proofs.lemmas.Option.{slice_get-get_or, slice_get_within}
use Rattle.entity_types.specs.declared.entity.Entity.{Entity}
use Rattle.project_store.proofs.places.index_of_added.Goals as goal

pub returns-in-Some-clause-found : goal.returns-in-Some-clause-found
returns-in-Some-clause-found c =
    let e = c.index-entities-i.result in
    let within : c.in-Some.i.now < length c.args.entities.now = c.if-i-entities.true in
    let at : slice_get c.args.entities.now c.in-Some.i.now ≡ Some e = slice_get-get_or c.args.entities.now c.in-Some.i.now e within ∙ ap Some (sym c.index-entities-i.is) in
    (e, at, ap (λ (x : Entity). x.number) c.index-entities-i.is ∙ c.if-entities-i.true)

pub returns-in_default-clause-none : goal.returns-in_default-clause-none
returns-in_default-clause-none c = λ i got at.
    let both : Some c.in-Some.i.now ≡ Some i = c.in-Some.ensures.value ∙ got in
    let same : c.in-Some.i.now ≡ i = cc in
    let e = c.index-entities-i.result in
    let there = slice_get-get_or c.args.entities.now c.in-Some.i.now e c.if-i-entities.true in
    let read : Entity = get_or c.args.entities.now c.in-Some.i.now e in
    let two : Some read ≡ Some at.0 = sym there ∙ ap (slice_get c.args.entities.now) same ∙ at.1 in
    let one : read ≡ at.0 = cc in
    c.if-entities-i.false (ap (λ (x : Entity). x.number) one ∙ at.2)

pub returns-in_default-2-clause-none : goal.returns-in_default-2-clause-none
returns-in_default-2-clause-none c = λ i got at.
    let both : Some c.in-Some.i.now ≡ Some i = c.in-Some.ensures.value ∙ got in
    let same : c.in-Some.i.now ≡ i = cc in
    let le : length c.args.entities.now ≤ c.in-Some.i.now = omega arith in
    omega (arith, le, same, slice_get_within c.args.entities.now i at.0 at.1)
