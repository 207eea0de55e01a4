use Rattle.std.proofs.Common.{◌≡◌, ◌↔◌, ℕ, List, Option, Some, None, refl, sym, subst, ◌∙◌, ap}
use Rattle.entity_types.specs.declared.entity.Entity.{Entity}
use Rattle.project_store.specs.Entities.{entity_at}
use Rattle.project_store.specs.Places.{IsAt}
use Rattle.std.specs.List.{IsDistinct}
use Rattle.std.specs.Prelude.{nat_eq}
use Rattle.project_store.specs.Entities.{numbers_of}
use Rattle.project_store.proofs.PlaceLemmas.{Found, told, none_found, at_found, at_one_place}
use Rattle.project_store.proofs.index.Index.place_of.Goals as goal

exactly : (es : List Entity) (n : ℕ) (o : Option ℕ) → IsDistinct nat_eq (numbers_of es) → Found es n o → (i : ℕ) → (o ≡ Some i) ↔ IsAt es n i
exactly es n None distinct h i = (λ e. absurd (let no : ⊥ = cc in no), λ at. absurd (h.1 i at))
exactly es n (Some j) distinct h i = (λ e. (let same : j ≡ i = cc in subst (IsAt es n) same h.0), λ there. ap Some (at_one_place es n j i distinct h.0 there))

exactly_none : (es : List Entity) (n : ℕ) (o : Option ℕ) → IsDistinct nat_eq (numbers_of es) → Found es n o → (o ≡ None) ↔ (entity_at es n ≡ None)
exactly_none es n None distinct h = (λ e. none_found es n h.1, λ e. refl)
exactly_none es n (Some j) distinct h = (λ e. absurd (let no : ⊥ = cc in no), λ e. absurd (let both : None ≡ Some h.0.0 = sym e ∙ at_found es n j distinct h.0 in let no : ⊥ = cc in no))

pub returns-clause-found : goal.returns-clause-found
returns-clause-found c = λ i.
    let x = c.self.inside in
    let h : Found x.entities.items c.args.n c.index_among.result =
    told x.opening.items x.added x.entities.items c.args.n c.index_among.result c.self.invariant (rw (← c.as_slice.ensures.value, ← c.as_slice-2.ensures.value) c.index_among.ensures.found)
    (rw (← c.as_slice.ensures.value, ← c.as_slice-2.ensures.value) c.index_among.ensures.none) in
    subst (λ (es : List Entity). (c.index_among.result ≡ Some i) ↔ IsAt es c.args.n i) c.self.view_is (exactly x.entities.items c.args.n c.index_among.result c.self.invariant.distinct h i)

pub returns-clause-none : goal.returns-clause-none
returns-clause-none c =
    let x = c.self.inside in
    let h : Found x.entities.items c.args.n c.index_among.result =
    told x.opening.items x.added x.entities.items c.args.n c.index_among.result c.self.invariant (rw (← c.as_slice.ensures.value, ← c.as_slice-2.ensures.value) c.index_among.ensures.found)
    (rw (← c.as_slice.ensures.value, ← c.as_slice-2.ensures.value) c.index_among.ensures.none) in
    subst (λ (es : List Entity). (c.index_among.result ≡ None) ↔ (entity_at es c.args.n ≡ None)) c.self.view_is (exactly_none x.entities.items c.args.n c.index_among.result c.self.invariant.distinct h)
