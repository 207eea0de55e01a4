-- Looking a number up among places.
use Rattle.std.proofs.Common.{Less, Equal, Greater, ◌≡◌, ℕ, zero, suc, ◌+◌, ◌<◌, ◌==◌, nat_eq, Bool, true, false, cond, List, [], ◌∷◌, ◌++◌, length, drop, get_or, Option, Some, None, Err, ◌≤◌, ◌⊎◌, inl, inr, ⊎_elim, refl, sym, ap, subst, ◌∙◌, arith, add-one, drop-cons, append_assoc}
use Rattle.std.specs.Prelude.{slice_get, IfSome, IfNone}
use Rattle.std.specs.List.{IsDistinct, AllByRecursion, Contains}
use Rattle.std.specs.List.Sorted.{IsNonDecreasingBy, IsBinarySearchResult, IsPermutation}
use Rattle.std.specs.Ordering.{nat_cmp, ordering_index}
use Rattle.std.specs.BTreeMap.{BTreeMap}
use Rattle.std.proofs.lemmas.Bool.Decides.{nat_tests}
use Rattle.std.proofs.lemmas.Bool.{cases_order}
use Rattle.std.proofs.lemmas.Cmp.{ranked}
use Rattle.std.proofs.lemmas.List.{get_or_default}
use Rattle.std.proofs.lemmas.List.Sorted.{Contains-permutation, IsPermutation-sym}
use Rattle.entity_types.specs.declared.entity.Entity.{Entity}
use Rattle.project_store.specs.declared.places.Place.{Place}
use Rattle.project_store.specs.Entities.{numbers_of, entity_at}
use Rattle.project_store.specs.Places.{place_at, places_from, AreOrdered, IsIndex, IsAt, Leads}

-- ---- the places of entities

-- the entity of which this is the place, where the first entity stands at an index
pub record IsPlaceOf (entities : List Entity) (first : ℕ) (place : Place) : Type 0 where
  pub behind : ℕ
  pub entity : Entity
  pub there : slice_get entities behind ≡ Some entity
  pub within : behind < length entities
  pub index : place.index ≡ first + behind
  pub number : place.number ≡ entity.number

further : (e : Entity) (es : List Entity) (first : ℕ) (p : Place) → IsPlaceOf es (suc first) p → IsPlaceOf (e ∷ es) first p
further e es first p is = record { behind = suc is.behind; entity = is.entity; there = is.there; within = omega (arith, is.within); index = omega (arith, is.index); number = is.number }

pub is_place : (es : List Entity) (first : ℕ) (p : Place) → Contains (places_from first es) p → IsPlaceOf es first p
is_place [] first p h = absurd (omega (arith, h.1))
is_place (e ∷ es) first p (zero, l, is) =
    record { behind = 0; entity = e; there = refl; within = omega arith; index = ap (λ (q : Place). q.index) (sym is) ∙ omega arith; number = ap (λ (q : Place). q.number) (sym is) }
is_place (e ∷ es) first p (suc k, l, is) = further e es first p (is_place es (suc first) p (k, omega (arith, l), is))

-- each entity has its place
pub has_place : (es : List Entity) (first j : ℕ) (e : Entity) → slice_get es j ≡ Some e → Contains (places_from first es) (place_at e.number (first + j))
has_place [] first j e h = absurd cc
has_place (x ∷ es) first zero e h =
    let same : x ≡ e = cc in
    (0, omega arith, ap (λ (y : Entity). place_at y.number first) same ∙ ap (place_at e.number) (omega arith))
has_place (x ∷ es) first (suc j) e h =
    let rest = has_place es (suc first) j e h in
    subst (λ (n : ℕ). Contains (places_from first (x ∷ es)) (place_at e.number n)) (omega arith) (suc rest.0, omega (arith, rest.1), rest.2)

-- one place more
pub one_place : (es : List Entity) (i : ℕ) (e : Entity) (before whole : List Place) → i < length es → e ≡ get_or es i e → before ++ places_from i (drop i es) ≡ whole
    → (before ++ place_at e.number i ∷ []) ++ places_from (i + 1) (drop (i + 1) es) ≡ whole
one_place es i e before whole lt is all =
    let rest : drop i es ≡ e ∷ drop (i + 1) es = rw add-one (drop-cons es i e lt ∙ ap (λ (y : Entity). y ∷ drop (suc i) es) (sym is)) in
    append_assoc before (place_at e.number i ∷ []) (places_from (i + 1) (drop (i + 1) es)) ∙ ap (λ (ps : List Place). before ++ ps) (next (sym rest)) ∙ all
  where
    next : e ∷ drop (i + 1) es ≡ drop i es → place_at e.number i ∷ places_from (i + 1) (drop (i + 1) es) ≡ places_from i (drop i es)
    next h = ap (λ (k : ℕ). place_at e.number i ∷ places_from k (drop (i + 1) es)) (add-one i) ∙ ap (places_from i) h

-- ---- what is found from the first entity on

other : (n k : ℕ) → n ≡ k → nat_eq n k ≡ false → ⊥
other n k e h = absurd (let t : nat_eq n k ≡ true = grind (arith, nat_tests) in let f : false ≡ true = sym h ∙ t in cc)

itself : (n : ℕ) → (n == n) ≡ true
itself n = grind (arith, nat_tests)

turned : (n k : ℕ) → nat_eq n k ≡ false → (k == n) ≡ false
turned n k h = grind (arith, nat_tests)

differs : (n k : ℕ) → (k ≡ n → ⊥) → (n == k) ≡ false
differs n k h = grind (arith, nat_tests)

pub other_number : (n : ℕ) (es : List Entity) (j : ℕ) (e : Entity) → AllByRecursion (λ m. nat_eq n m ≡ false) (numbers_of es) → slice_get es j ≡ Some e → nat_eq n e.number ≡ false
other_number n [] j e all h = absurd cc
other_number n (x ∷ xs) zero e all h = let same : x ≡ e = cc in subst (λ (y : Entity). nat_eq n y.number ≡ false) same all.0
other_number n (x ∷ xs) (suc j) e all h = other_number n xs j e all.1 h

-- of distinct numbers each is found where it stands
pub found_there : (es : List Entity) (j : ℕ) (e : Entity) → IsDistinct nat_eq (numbers_of es) → slice_get es j ≡ Some e → entity_at es e.number ≡ Some e
unfolding IsDistinct
found_there [] j e d h = absurd cc
found_there (x ∷ xs) zero e d h =
    let same : x ≡ e = cc in
    subst (λ (y : Entity). entity_at (x ∷ xs) y.number ≡ Some y) same (ap (λ (b : Bool). cond b (Some x) (entity_at xs x.number)) (itself x.number))
found_there (x ∷ xs) (suc j) e d h =
    ap (λ (b : Bool). cond b (Some x) (entity_at xs e.number)) (turned x.number e.number (other_number x.number xs j e d.0 h)) ∙ found_there xs j e d.1 h

pub found_nowhere : (es : List Entity) (n : ℕ) → ((j : ℕ) (e : Entity) → slice_get es j ≡ Some e → e.number ≡ n → ⊥) → entity_at es n ≡ None
found_nowhere [] n never = refl
found_nowhere (x ∷ xs) n never =
    ap (λ (b : Bool). cond b (Some x) (entity_at xs n)) (differs n x.number (never 0 x refl)) ∙ found_nowhere xs n (λ j e. never (suc j) e)

-- ---- what is found by places

pub got : (es : List Entity) (i : ℕ) (e : Entity) → i < length es → e ≡ get_or es i e → slice_get es i ≡ Some e
got [] i e l h = absurd (omega arith)
got (x ∷ xs) zero e l h = ap (λ (y : Entity). Some y) (sym h)
got (x ∷ xs) (suc i) e l h = got xs i e (omega arith) h

-- what stands somewhere is found by its number
pub at_found : (es : List Entity) (n i : ℕ) → IsDistinct nat_eq (numbers_of es) → (at : IsAt es n i) → entity_at es n ≡ Some at.0
at_found es n i distinct at = ap (entity_at es) (sym at.2) ∙ found_there es i at.0 distinct at.1

-- of distinct numbers each stands at one place
pub at_one_place : (es : List Entity) (n i j : ℕ) → IsDistinct nat_eq (numbers_of es) → IsAt es n i → IsAt es n j → i ≡ j
unfolding IsDistinct
at_one_place [] n i j d p q = absurd (let h : None ≡ Some p.0 = p.1 in cc)
at_one_place (x ∷ xs) n zero zero d p q = refl
at_one_place (x ∷ xs) n zero (suc j) d p q =
    let same : x ≡ p.0 = let h : Some x ≡ Some p.0 = p.1 in cc in
    let number : x.number ≡ n = ap (λ (y : Entity). y.number) same ∙ p.2 in
    absurd (other x.number q.0.number (number ∙ sym q.2) (other_number x.number xs j q.0 d.0 q.1))
at_one_place (x ∷ xs) n (suc i) zero d p q =
    let same : x ≡ q.0 = let h : Some x ≡ Some q.0 = q.1 in cc in
    let number : x.number ≡ n = ap (λ (y : Entity). y.number) same ∙ q.2 in
    absurd (other x.number p.0.number (number ∙ sym p.2) (other_number x.number xs i p.0 d.0 p.1))
at_one_place (x ∷ xs) n (suc i) (suc j) d p q = ap suc (at_one_place xs n i j d.1 p q)

-- entities with the places of all of them in order of number
pub index_made : (opening : List Place) (added : BTreeMap ℕ ℕ) (es : List Entity) → AreOrdered opening → IsPermutation (places_from 0 es) opening → IsDistinct nat_eq (numbers_of es) → IsIndex opening added es
index_made opening added es ordered all distinct = record {
  ordered = ordered;
  sound = λ n i has.
      let is = is_place es 0 (place_at n i) (Contains-permutation opening (places_from 0 es) (place_at n i) (IsPermutation-sym (places_from 0 es) opening all) has) in
      let same : i ≡ is.behind = omega (arith, is.index) in
      (is.entity, ap (slice_get es) same ∙ is.there, sym is.number);
  complete = λ n i at.
      let has = has_place es 0 i at.0 at.1 in
      let place : place_at at.0.number (0 + i) ≡ place_at n i = ap (λ (m : ℕ). place_at m (0 + i)) at.2 ∙ ap (place_at n) (omega arith) in
      inl (Contains-permutation (places_from 0 es) opening (place_at n i) all (subst (Contains (places_from 0 es)) place has));
  distinct = distinct;
}

-- what a search by the places of an index tells
abbrev pub Found : List Entity → ℕ → Option ℕ → Type 0
Found es n o = IfSome o (IsAt es n) × IfNone o ((i : ℕ) → IsAt es n i → ⊥)

pub told : (opening : List Place) (added : BTreeMap ℕ ℕ) (es : List Entity) (n : ℕ) (o : Option ℕ) → IsIndex opening added es → IfSome o (λ i. Contains opening (place_at n i) ⊎ IsAt es n i)
    → IfNone o ((i : ℕ) → Leads opening added n i → IsAt es n i → ⊥) → Found es n o
told opening added es n None index found none = (tt, λ i at. none i (index.complete n i at) at)
told opening added es n (Some i) index found none = (elim found [ inl has ↦ index.sound n i has | inr at ↦ at ], tt)

-- where no entity of the number stands, none is found
pub none_found : (es : List Entity) (n : ℕ) → ((i : ℕ) → IsAt es n i → ⊥) → entity_at es n ≡ None
none_found es n never = found_nowhere es n (λ j e there is. never j (e, there, is))

-- ---- the search

apart : (places : List Place) (k : ℕ) (p : Place) (n : ℕ) → get_or places k p ≡ p → p.number ≡ n → (get_or places k p).number ≡ n
apart places k p n is e = ap (λ (q : Place). q.number) is ∙ e

pub hit : (places : List Place) (n i : ℕ) → i < length places → ((d : Place) → nat_cmp (get_or places i d).number n ≡ Equal) → Contains places (place_at n (get_or places i (place_at 0 0)).index)
hit places n i lt equal =
    let p : Place = get_or places i (place_at 0 0) in
    let same : p.number ≡ n = ranked p.number n Equal (sym (equal (place_at 0 0))) in
    let there : get_or places i (place_at n p.index) ≡ p = sym (get_or_default places i (place_at 0 0) (place_at n p.index) lt) in
    (i, lt, there ∙ ap (λ (m : ℕ). place_at m p.index) same)

comparisons_rise : (places : List Place) (n : ℕ) → AreOrdered places → IsNonDecreasingBy (λ (p : Place). ordering_index (nat_cmp p.number n)) places
comparisons_rise places n ordered i j d le lt = by (get_or places i d).number (get_or places j d).number (ordered i j d le lt)
  where
    by : (a b : ℕ) → a ≤ b → ordering_index (nat_cmp a n) ≤ ordering_index (nat_cmp b n)
    by a b up = grind (arith, nat_tests)

pub missed : (places : List Place) (n i : ℕ) → AreOrdered places → IsBinarySearchResult (λ (p : Place). nat_cmp p.number n) places (Err i) → (p : Place) → Contains places p → p.number ≡ n → ⊥
missed places n i ordered parted p has e =
    let sides = parted (comparisons_rise places n ordered) in
    let number : (get_or places has.0 p).number ≡ n = apart places has.0 p n has.2 e in
    let low : has.0 < i → ⊥ = λ lt. let less = ranked (get_or places has.0 p).number n Less (sym (sides.0 has.0 p (omega arith) lt)) in omega (arith, less, number) in
    let high : i ≤ has.0 → ⊥ = λ le. let more = ranked (get_or places has.0 p).number n Greater (sym (sides.1 has.0 p le has.1)) in omega (arith, more, number) in
    ⊎_elim (λ same. high (omega (arith, same))) (λ r. ⊎_elim low (λ l. high (omega (arith, l))) r) (cases_order has.0 i)
