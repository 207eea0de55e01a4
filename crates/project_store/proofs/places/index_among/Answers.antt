use Rattle.std.proofs.Common.{◌≡◌, ◌⊎◌, ℕ, List, Option, Some, None, inl, inr, refl, IfSome, IfNone, Contains}
use Rattle.std.specs.BTreeMap.{BTreeMap, get}
use Rattle.std.specs.Ordering.{nat_cmp}
use Rattle.entity_types.specs.declared.entity.Entity.{Entity}
use Rattle.project_store.specs.declared.places.Place.{Place}
use Rattle.project_store.specs.Places.{place_at, IsAt, Leads}
use Rattle.project_store.proofs.places.index_among.Goals as goal

behind : (opening : List Place) (es : List Entity) (n : ℕ) (o : Option ℕ) → IfSome o (IsAt es n) → IfSome o (λ i. Contains opening (place_at n i) ⊎ IsAt es n i)
behind opening es n None h = tt
behind opening es n (Some i) h = inr h

pub returns-in-None-clause-found : goal.returns-in-None-clause-found
returns-in-None-clause-found c = behind c.args.opening.now c.args.entities.now c.args.n c.index_of_added.result c.index_of_added.ensures.found

nowhere : (opening : List Place) (added : BTreeMap ℕ ℕ) (es : List Entity) (n : ℕ) (o : Option ℕ) → ((p : Place) → Contains opening p → p.number ≡ n → ⊥)
    → IfNone o ((i : ℕ) → get nat_cmp added n ≡ Some i → IsAt es n i → ⊥) → IfNone o ((i : ℕ) → Leads opening added n i → IsAt es n i → ⊥)
nowhere opening added es n (Some i) never none = tt
nowhere opening added es n None never none = λ i leads at. elim leads [ inl has ↦ never (place_at n i) has refl | inr got ↦ none i got at ]

pub returns-in-None-clause-none : goal.returns-in-None-clause-none
returns-in-None-clause-none c = nowhere c.args.opening.now c.args.added.now c.args.entities.now c.args.n c.index_of_added.result c.in-None.ensures.none c.index_of_added.ensures.none
