-- What Versions keep when an edit is put.
use Rattle.std.specs.Prelude.{◌≡◌, ◌⊎◌, ◌<◌, ◌≤◌, ◌+◌, ◌==◌, ℕ, zero, suc, Bool, true, false, nat_eq, nat_lt, List, [], ◌∷◌, length, slice_get, slice_index_or, Option, Some, None, Contains}
use Rattle.std.specs.List.{AllByRecursion, IsDistinct}
use Rattle.std.specs.Option.{option_map_or}
use Rattle.std.proofs.Common.{refl, sym, ap, subst, ◌∙◌, inl, inr, arith}
use Rattle.std.proofs.lemmas.Bool.Decides.{nat_tests}
use Rattle.std.proofs.lemmas.Option.{slice_get_within}
use Rattle.entity_types.specs.declared.entity.Entity.{Entity}
use Rattle.entity_types.specs.Entity.{uses_of}
use Rattle.project_store.specs.Entities.{numbers_of, entity_at}
use Rattle.project_store.specs.Inserts.{is_among, uses_at}
use Rattle.project_store.specs.Put.{put_all, put_in, put_items}
use Rattle.project_versions.specs.Reach.{is_reached}
use Rattle.project_versions.specs.Versioned.{AreReached}
use Rattle.project_versions.specs.Users.{Rows, RowIsRight, RowsAreRight, AreLinked, IsUserIndex, PutsRows}
use Rattle.project_versions.proofs.GrownLemmas.{among_holds, holds_among}
use Rattle.project_versions.proofs.UserLemmas.{no_link}
use Rattle.project_versions.proofs.BackwardLemmas.{stands}

-- ---- places

other_number : (n : ℕ) (store : List Entity) (j : ℕ) (e : Entity) → AllByRecursion (λ (m : ℕ). nat_eq n m ≡ false) (numbers_of store) → slice_get store j ≡ Some e → n ≡ e.number → ⊥
other_number n [] j e all h same = absurd (cc)
other_number n (x ∷ store) zero e all h same =
    let one : x ≡ e = cc in
    let number : x.number ≡ e.number = ap (λ (y : Entity). y.number) one in
    let f : nat_eq n x.number ≡ false = all.0 in
    let g : n ≡ x.number = same ∙ sym number in
    grind (arith, nat_tests)
other_number n (x ∷ store) (suc j) e all h same = other_number n store j e all.1 h same

-- of distinct numbers each stands at one place
pub distinct_places : (store : List Entity) → IsDistinct nat_eq (numbers_of store) → (i j : ℕ) (a b : Entity) → slice_get store i ≡ Some a → slice_get store j ≡ Some b → a.number ≡ b.number → i ≡ j
unfolding IsDistinct
distinct_places [] d i j a b p q e = absurd (cc)
distinct_places (x ∷ store) d zero zero a b p q e = refl
distinct_places (x ∷ store) d zero (suc j) a b p q e = let one : x ≡ a = cc in absurd (other_number x.number store j b d.0 q (ap (λ (y : Entity). y.number) one ∙ e))
distinct_places (x ∷ store) d (suc i) zero a b p q e = let one : x ≡ b = cc in absurd (other_number x.number store i a d.0 p (ap (λ (y : Entity). y.number) one ∙ sym e))
distinct_places (x ∷ store) d (suc i) (suc j) a b p q e = ap suc (distinct_places store d.1 i j a b p q e)

-- an entity, and one of its number after items are put
put_stays : (store : List Entity) (item : Entity) (p : ℕ) (e : Entity) → slice_get store p ≡ Some e → (f : Entity) × (slice_get (put_in store item) p ≡ Some f) × (f.number ≡ e.number)
put_stays [] item p e h = absurd (cc)
put_stays (x ∷ store) item p e h = go (x.number == item.number) refl p h (put_stays store item)
  where
    go : (b : Bool) → (x.number == item.number) ≡ b → (p : ℕ) → slice_get (x ∷ store) p ≡ Some e
        → ((q : ℕ) (y : Entity) → slice_get store q ≡ Some y → (f : Entity) × (slice_get (put_in store item) q ≡ Some f) × (f.number ≡ y.number))
        → (f : Entity) × (slice_get (put_in (x ∷ store) item) p ≡ Some f) × (f.number ≡ e.number)
    go true t zero k rec =
        let one : x ≡ e = cc in
        let number : item.number ≡ x.number = grind (arith, nat_tests) in
        (item, rw t refl, number ∙ ap (λ (y : Entity). y.number) one)
    go true t (suc q) k rec = (e, rw t k, refl)
    go false t zero k rec = (e, rw t k, refl)
    go false t (suc q) k rec = let z = rec q e k in (z.0, rw t z.1, z.2)

pub all_stay : (store items : List Entity) (p : ℕ) (e : Entity) → slice_get store p ≡ Some e → (f : Entity) × (slice_get (put_items store items) p ≡ Some f) × (f.number ≡ e.number)
all_stay store [] p e h = (e, h, refl)
all_stay store (item ∷ items) p e h =
    let one = put_stays store item p e h in
    let more = all_stay (put_in store item) items p one.0 one.1 in
    (more.0, more.1, more.2 ∙ one.2)

put_grows : (store : List Entity) (item : Entity) → length store ≤ length (put_in store item)
put_grows [] item = omega arith
put_grows (x ∷ store) item = go (x.number == item.number) refl (put_grows store item)
  where
    go : (b : Bool) → (x.number == item.number) ≡ b → length store ≤ length (put_in store item) → suc (length store) ≤ length (put_in (x ∷ store) item)
    go true t le = rw t (omega arith)
    go false t le = rw t (omega (arith, le))

pub all_grow : (store items : List Entity) → length store ≤ length (put_items store items)
all_grow store [] = omega arith
all_grow store (item ∷ items) = omega (arith, put_grows store item, all_grow (put_in store item) items)

put_few : (store : List Entity) (item : Entity) → length (put_in store item) ≤ length store + 1
put_few [] item = omega arith
put_few (x ∷ store) item = go (x.number == item.number) refl (put_few store item)
  where
    go : (b : Bool) → (x.number == item.number) ≡ b → length (put_in store item) ≤ length store + 1 → length (put_in (x ∷ store) item) ≤ suc (length store) + 1
    go true t le = rw t (omega arith)
    go false t le = rw t (omega (arith, le))

pub all_few : (store items : List Entity) → length (put_items store items) ≤ length store + length items
all_few store [] = omega arith
all_few store (item ∷ items) = omega (arith, put_few store item, all_few (put_in store item) items)

-- ---- the index over a store that grew

pub linked_on : (rows : Rows) (m n : ℕ) → m ≤ n → AreLinked m rows → AreLinked n rows
linked_on rows m n le linked = record {
  back = linked.back;
  users = λ k edge at. omega (arith, linked.users k edge at, le);
  ends = linked.ends;
  begun = linked.begun;
  free = λ i l. linked.free i (omega (arith, l, le));
}

below_or_not : (p n : ℕ) → (p < n) ⊎ (n ≤ p)
below_or_not p n = go (nat_lt p n) refl
  where
    go : (b : Bool) → nat_lt p n ≡ b → (p < n) ⊎ (n ≤ p)
    go true e = inl (grind (arith, nat_tests))
    go false e = inr (grind (arith, nat_tests))

some_there : (store : List Entity) (p : ℕ) → p < length store → (e : Entity) × (slice_get store p ≡ Some e)
some_there [] p lt = absurd (omega (arith, lt))
some_there (x ∷ store) zero lt = (x, refl)
some_there (x ∷ store) (suc p) lt = some_there store p (omega (arith, lt))

-- what stands at an old place stood there before, under its number
was : (store items : List Entity) (p : ℕ) (user : Entity) → p < length store → slice_get (put_items store items) p ≡ Some user → (old : Entity) × (slice_get store p ≡ Some old) × (old.number ≡ user.number)
was store items p user lt at =
    let old = some_there store p lt in
    let now = all_stay store items p old.0 old.1 in
    let both : Some now.0 ≡ Some user = sym now.1 ∙ at in
    let one : now.0 ≡ user = cc in
    (old.0, old.1, sym now.2 ∙ ap (λ (e : Entity). e.number) one)

module _ (store items : List Entity) (rows : Rows) (distinct : IsDistinct nat_eq (numbers_of (put_items store items)))
    (closed : (n r : ℕ) → Contains (uses_at (entity_at store) n) r → entity_at store r ≡ None → ⊥) (index : IsUserIndex store rows) where
  -- what stands at a new place has a new number
  new_number : (p : ℕ) (user : Entity) → length store ≤ p → slice_get (put_items store items) p ≡ Some user → entity_at store user.number ≡ None
  new_number p user le at = go (entity_at store user.number) refl
    where
      go : (o : Option Entity) → entity_at store user.number ≡ o → entity_at store user.number ≡ None
      go None e = e
      go (Some old) e =
          let there = stands store user.number old e in
          let now = all_stay store items there.0 old there.1 in
          let same : p ≡ there.0 = distinct_places (put_items store items) distinct p there.0 user now.0 at now.1 (sym there.2 ∙ sym now.2) in
          absurd (omega (arith, same, le, slice_get_within store there.0 old there.1))

  old_row : (p : ℕ) (user : Entity) → p < length store → slice_get (put_items store items) p ≡ Some user → RowIsRight (put_items store items) rows p (uses_at (entity_at store) user.number)
  old_row p user lt at = record {
    sound = λ i k used there edge. elim (below_or_not i (length store)) [
      | inl l ↦ (let u = was store items i used l there in subst (Contains (uses_at (entity_at store) user.number)) u.2 (row.sound i k u.0 u.1 edge))
      | inr ge ↦ absurd (no_link rows.edges (slice_index_or rows.heads i 0) k (index.linked.free i ge) edge.linked)
    ];
    complete = λ i used there has. elim (below_or_not i (length store)) [
      | inl l ↦ (let u = was store items i used l there in row.complete i u.0 u.1 (subst (Contains (uses_at (entity_at store) user.number)) (sym u.2) has))
      | inr ge ↦ absurd (closed user.number used.number has (new_number i used ge there))
    ];
  }
    where
      row : RowIsRight store rows p (uses_at (entity_at store) user.number)
      row = let o = was store items p user lt at in subst (λ (n : ℕ). RowIsRight store rows p (uses_at (entity_at store) n)) o.2 (index.right p o.0 o.1)

  new_row : (p : ℕ) (user : Entity) → length store ≤ p → slice_get (put_items store items) p ≡ Some user → RowIsRight (put_items store items) rows p (uses_at (entity_at store) user.number)
  new_row p user le at = record {
    sound = λ i k used there edge. absurd (omega (arith, edge.user, index.linked.users k edge.edge edge.at, le));
    complete = λ i used there has. absurd (let none = subst (λ (o : Option Entity). Contains (option_map_or uses_of o []) used.number) (new_number p user le at) has in omega (arith, none.1));
  }

  -- the rows as they were are right for the store with the items put, if what they use is what it was
  pub grown : RowsAreRight (put_items store items) rows (entity_at store)
  grown p user at = elim (below_or_not p (length store)) [ inl lt ↦ old_row p user lt at | inr le ↦ new_row p user le at ]

-- the rows of the items set
pub index_put : (store items : List Entity) (old new : Rows) → ((n : ℕ) → entity_at (put_items store items) n ≡ put_all (entity_at store) items n) → RowsAreRight (put_items store items) old (entity_at store)
    → PutsRows (put_items store items) old new items → IsUserIndex (put_items store items) new
index_put store items old new found right puts = record {
  linked = puts.linked;
  right = λ p user at.
      subst (RowIsRight (put_items store items) new p) (ap (λ (o : Option Entity). option_map_or uses_of o []) (sym (found user.number))) (puts.right (entity_at store) right p user at);
}

-- ---- versions

-- by how much the version of a step rises
pub rise_is : (store : List Entity) (steps : List ℕ) (items : List Entity) (reached : List ℕ) (n : ℕ) → AreReached store steps items reached → Contains steps n → is_among reached n ≡ is_reached store items n
rise_is store steps items reached n are step = go (is_among reached n) (is_reached store items n) refl refl
  where
    go : (a b : Bool) → is_among reached n ≡ a → is_reached store items n ≡ b → is_among reached n ≡ is_reached store items n
    go true b e f = e ∙ sym ((are.members n).0 (among_holds reached n e)).1
    go false true e f = absurd (let g : true ≡ false = sym (holds_among reached n ((are.members n).1 (step, f))) ∙ e in let h : ⊥ = cc in h)
    go false false e f = e ∙ sym f
