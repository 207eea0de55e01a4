use Rattle.std.proofs.Common.{◌≡◌, ◌<◌, List, Some, None, length, sym, subst, ◌∙◌, rules}
use Rattle.std.specs.Prelude.{slice_get}
use Rattle.std.proofs.lemmas.Option.{slice_get_within}
use Rattle.entity_types.specs.declared.entity.Entity.{Entity}
use Rattle.project_store.specs.Entities.{entity_at}
use Rattle.project_store.specs.Places.{IsAt}
use Rattle.project_store.proofs.PlaceLemmas.{told, none_found, got, at_found}
use Rattle.project_store.proofs.index.Index.get.Goals as goal

pub index-requires : goal.index-requires
index-requires c =
    let x = c.self.inside in
    let at : IsAt x.entities.items c.args.n c.in-Some.i =
    (told x.opening.items x.added x.entities.items c.args.n (Some c.in-Some.i) c.self.invariant (rw (← c.as_slice.ensures.value, ← c.as_slice-2.ensures.value) c.in-Some.ensures.found) tt).0 in
    let within : c.in-Some.i < length x.entities.items = slice_get_within x.entities.items c.in-Some.i at.0 at.1 in
    search rules

pub returns-in-Some : goal.returns-in-Some
returns-in-Some c =
    let x = c.self.inside in
    let at : IsAt x.entities.items c.args.n c.in-Some.i =
    (told x.opening.items x.added x.entities.items c.args.n (Some c.in-Some.i) c.self.invariant (rw (← c.as_slice.ensures.value, ← c.as_slice-2.ensures.value) c.in-Some.ensures.found) tt).0 in
    let within : c.in-Some.i < length x.entities.items = slice_get_within x.entities.items c.in-Some.i at.0 at.1 in
    let there : slice_get x.entities.items c.in-Some.i ≡ Some c.index.result.now = got x.entities.items c.in-Some.i c.index.result.now within c.index.ensures in
    let found : entity_at x.entities.items c.args.n ≡ Some at.0 = at_found x.entities.items c.args.n c.in-Some.i c.self.invariant.distinct at in
    let one : entity_at x.entities.items c.args.n ≡ Some c.index.result.now = found ∙ sym at.1 ∙ there in
    sym (subst (λ (xs : List Entity). entity_at xs c.args.n ≡ Some c.index.result.now) c.self.view_is one)

pub returns-in-None : goal.returns-in-None
returns-in-None c =
    let x = c.self.inside in
    let none = (told x.opening.items x.added x.entities.items c.args.n None c.self.invariant tt (rw (← c.as_slice.ensures.value, ← c.as_slice-2.ensures.value) c.in-None.ensures.none)).1 in
    sym (subst (λ (xs : List Entity). entity_at xs c.args.n ≡ None) c.self.view_is (none_found x.entities.items c.args.n none))
