use Rattle.std.proofs.Common.{◌≡◌, ℕ, ◌<◌, ◌≤◌, ◌⊎◌, inl, inr, List, [], ◌∷◌, ◌++◌, length, reverse, None, sym, ap, ◌∙◌, arith, rules, length-append, Contains}
use Rattle.std.specs.Prelude.{slice_set}
use Rattle.std.specs.BTreeMap.{BTreeMap}
use Rattle.std.proofs.lemmas.List.{reverse-append}
use Rattle.std.proofs.lemmas.Option.{slice_get_within}
use Rattle.entity_types.specs.declared.entity.Entity.{Entity}
use Rattle.project_store.specs.declared.places.Place.{Place}
use Rattle.project_store.specs.Entities.{entity_at}
use Rattle.project_store.specs.Places.{IsIndex, IsAt, Leads, place_at}
use Rattle.project_store.specs.Put.{put_in, put_items}
use Rattle.project_store.proofs.PlaceLemmas.{none_found}
use Rattle.project_store.proofs.PuttingLemmas.{at_put, stood_there, not_before, put_there, put_new, distinct_before}
use Rattle.project_store.proofs.putting.put_each.Goals as goal
use Rattle.project_store.proofs.putting.put_each.Goals.{in_default-index_among-via-in-Some-index_among+else-i-len, in_default-index_among-via-in_default-index_among}

-- the next item is the last of those that are left
next_item : (es left rest : List Entity) (x : Entity) → left ≡ rest ++ x ∷ [] → put_items es (reverse left) ≡ put_items (put_in es x) (reverse rest)
next_item es left rest x h = ap (λ (l : List Entity). put_items es (reverse l)) h ∙ ap (put_items es) (reverse-append rest (x ∷ []))

-- where an item whose place is one of the entities stands
stood : (opening : List Place) (added : BTreeMap ℕ ℕ) (es left : List Entity) (n i : ℕ) → IsIndex opening added (put_items es (reverse left)) → Contains opening (place_at n i) ⊎ IsAt es n i → i < length es
    → IsAt es n i
stood opening added es left n i index found lt = elim found [ inl has ↦ stood_there es (reverse left) n i (index.sound n i has) lt | inr at ↦ at ]

-- it takes that place
replaces : (opening : List Place) (added : BTreeMap ℕ ℕ) (es left rest : List Entity) (x : Entity) (i : ℕ) → IsIndex opening added (put_items es (reverse left)) → left ≡ rest ++ x ∷ []
    → Contains opening (place_at x.number i) ⊎ IsAt es x.number i → i < length es → put_items (slice_set es i x) (reverse rest) ≡ put_items es (reverse left)
replaces opening added es left rest x i index h found lt =
    let at : IsAt es x.number i = stood opening added es left x.number i index found lt in
    let there : put_in es x ≡ slice_set es i x = put_there es x i (distinct_before es (reverse left) index.distinct) at in
    ap (λ (l : List Entity). put_items l (reverse rest)) (sym there) ∙ sym (next_item es left rest x h)

-- an item whose place is behind the entities is none of them
is_behind : (opening : List Place) (added : BTreeMap ℕ ℕ) (es left : List Entity) (n i : ℕ) → IsIndex opening added (put_items es (reverse left)) → Contains opening (place_at n i) ⊎ IsAt es n i → length es ≤ i
    → entity_at es n ≡ None
is_behind opening added es left n i index found le = elim found [
  | inl has ↦ not_before es (reverse left) n i index.distinct (index.sound n i has) le
  | inr at ↦ absurd (omega (arith, le, slice_get_within es i at.0 at.1))
]

-- nor is one that no place leads to
is_nowhere : (opening : List Place) (added : BTreeMap ℕ ℕ) (es left : List Entity) (n : ℕ) → IsIndex opening added (put_items es (reverse left)) → ((i : ℕ) → Leads opening added n i → IsAt es n i → ⊥)
    → entity_at es n ≡ None
is_nowhere opening added es left n index none = none_found es n (λ i at. none i (index.complete n i (at_put es (reverse left) n i at)) at)

-- an item that no entity is the forerunner of comes last
comes_last : (es left rest : List Entity) (x : Entity) → left ≡ rest ++ x ∷ [] → entity_at es x.number ≡ None → put_items (es ++ x ∷ []) (reverse rest) ≡ put_items es (reverse left)
comes_last es left rest x h none = ap (λ (l : List Entity). put_items l (reverse rest)) (sym (put_new es x none)) ∙ sym (next_item es left rest x h)

pub loop-item-preserved-then-i-len : goal.loop-item-preserved-then-i-len
loop-item-preserved-then-i-len c =
    let es = c.loop-item.entities.items in
    let left = c.loop-item.left.items in
    let rest = c.pop.new.self.items in
    let x = c.in-Some.item in
    let index : IsIndex c.args.opening.now c.args.added.now (put_items es (reverse left)) = rw c.loop-item.invariant.same c.requires.index in
    let lt : c.in-Some-index_among.i < length es = search rules in
    let found : Contains c.args.opening.now (place_at x.number c.in-Some-index_among.i) ⊎ IsAt es x.number c.in-Some-index_among.i = rw (← c.as_slice.ensures.value) c.in-Some-index_among.ensures.found in
    record {
      same = replaces c.args.opening.now c.args.added.now es left rest x c.in-Some-index_among.i index c.in-Some.ensures.items found lt ∙ c.loop-item.invariant.same;
      reserved = omega (arith, c.loop-item.invariant.reserved, ap length c.in-Some.ensures.items, length-append rest (x ∷ []));
    }

pub loop-item-preserved : goal.loop-item-preserved
loop-item-preserved c =
    let es = c.loop-item.entities.items in
    let left = c.loop-item.left.items in
    let rest = c.pop.new.self.items in
    let x = c.in-Some.item in
    let index : IsIndex c.args.opening.now c.args.added.now (put_items es (reverse left)) = rw c.loop-item.invariant.same c.requires.index in
    let none : entity_at es x.number ≡ None =
    elim c.in_default-index_among.branch [
      | in_default-index_among-via-in-Some-index_among+else-i-len w ↦ (
          let i = w.in-Some-index_among.i in
          let found : Contains c.args.opening.now (place_at x.number i) ⊎ IsAt es x.number i = rw (← c.as_slice.ensures.value) w.in-Some-index_among.ensures.found in
          let le : length es ≤ i = search rules in
          is_behind c.args.opening.now c.args.added.now es left x.number i index found le)
      | in_default-index_among-via-in_default-index_among w ↦ (
          let never : (i : ℕ) → Leads c.args.opening.now c.args.added.now x.number i → IsAt es x.number i → ⊥ = rw (← c.as_slice.ensures.value) w.in_default-index_among.ensures.none in
          is_nowhere c.args.opening.now c.args.added.now es left x.number index never)
    ] in
    record {
      same = ap (λ (l : List Entity). put_items l (reverse rest)) c.push_reserved.ensures.items ∙ comes_last es left rest x c.in-Some.ensures.items none ∙ c.loop-item.invariant.same;
      reserved = omega (arith, c.loop-item.invariant.reserved, ap length c.in-Some.ensures.items, length-append rest (x ∷ []), c.push_reserved.ensures.len, c.push_reserved.ensures.capacity);
    }
