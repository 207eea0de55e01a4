-- What leads to the items of an edit, found backwards.
use Rattle.std.specs.Prelude.{◌≡◌, ◌⊎◌, ◌↔◌, ◌<◌, ◌≤◌, ◌+◌, ◌==◌, ℕ, zero, suc, Bool, true, false, List, [], ◌∷◌, ◌++◌, length, slice_get, slice_index, slice_index_or, Option, Some, None, Result, Ok, Err, Contains, OnOk, IfOk, IfSome, IfNone, filter, is_some}
use Rattle.std.specs.Option.{option_map_or}
use Rattle.std.proofs.Common.{refl, sym, ap, subst, ◌∙◌, inl, inr, arith, get_or, take}
use Rattle.std.specs.List.Sorted.{IsStrictlyIncreasing}
use Rattle.std.proofs.lemmas.List.{take_more, map-append}
use Rattle.std.proofs.lemmas.List.Kept.{IsStrictlyIncreasing-filter}
use Rattle.nc_base.specs.declared.memory.NoMemory.{NoMemory}
use Rattle.std.proofs.lemmas.Bool.Decides.{nat_tests}
use Rattle.std.proofs.lemmas.List.Elements.{Contains-append_left, Contains-append_right, Contains-append_cases, Contains-push}
use Rattle.std.proofs.lemmas.Option.{get_or_from_slice_get, slice_get-get_or, slice_get_within}
use Rattle.entity_types.specs.declared.entity.Entity.{Entity}
use Rattle.entity_types.specs.Entity.{uses_of}
use Rattle.project_store.specs.Entities.{numbers_of, entity_at}
use Rattle.project_store.specs.Inserts.{is_among, insert_number, uses_at}
use Rattle.project_store.specs.Reach.{Reaches, root, used}
use Rattle.project_versions.specs.Reach.{after, is_put, Reach}
use Rattle.project_store.specs.Places.{IsAt}
use Rattle.project_versions.specs.StepSet.{IsOrderOf}
use Rattle.project_versions.specs.Versioned.{AreReached}
use Rattle.project_versions.specs.declared.users.Edge.{Edge}
use Rattle.project_versions.specs.Users.{Rows, Linked, here, further, IsEdge, IsUserIndex, IsUserAt, AddsEdge, AddsLinked, AddsUsers, Grown}
use Rattle.project_versions.proofs.GrownLemmas.{among_holds, holds_among, only_there, Grown-none, Grown-one, Grown-both}
use Rattle.project_versions.proofs.LeadingLemmas.{prepend, decided}
use Rattle.project_versions.proofs.UnreachedLemmas.{not_put}
use Rattle.project_versions.proofs.UserLemmas.{no_link, link_cases}

-- ---- the users of an edge

pub on_ok : {A B : Type 0} {X E : Type 0} (r : Result X E) → (A → B) → OnOk r A → OnOk r B
on_ok (Ok x) f h = f h
on_ok (Err e) f h = tt

-- the user of a present edge put in
pub edge_put : (store : List Entity) (rows : Rows) (k : ℕ) (old new : List ℕ) (edge : Edge) (user : Entity) → slice_get rows.edges k ≡ Some edge → slice_get store edge.user ≡ Some user
    → slice_index_or rows.since edge.user 0 ≤ k → new ≡ insert_number old user.number → AddsEdge store rows k old new
edge_put store rows k old new edge user at there present put = record {
  users = user.number ∷ [];
  put = Grown-one old new user.number put;
  are = λ n h. record { edge = edge; user = user; at = at; present = present; there = there; number = only_there user.number n h };
  all = λ n is. subst (Contains (user.number ∷ [])) (number n is) (Contains-push [] user.number);
}
  where
    number : (n : ℕ) → IsUserAt store rows k n → user.number ≡ n
    number n is =
        let one : Some is.edge ≡ Some edge = sym is.at ∙ at in
        let edges : is.edge ≡ edge = cc in
        let two : Some is.user ≡ Some user = sym is.there ∙ ap (λ (e : Edge). slice_get store e.user) edges ∙ there in
        let users : is.user ≡ user = cc in
        sym (ap (λ (e : Entity). e.number) users) ∙ is.number

-- an edge that is in its row no more
pub edge_passed : (store : List Entity) (rows : Rows) (k : ℕ) (set : List ℕ) (edge : Edge) → slice_get rows.edges k ≡ Some edge → k < slice_index_or rows.since edge.user 0
    → AddsEdge store rows k set set
edge_passed store rows k set edge at gone = record {
  users = [];
  put = Grown-none set;
  are = λ n h. absurd (omega (arith, h.1));
  all = λ n is.
      let one : Some is.edge ≡ Some edge = sym is.at ∙ at in
      let edges : is.edge ≡ edge = cc in
      let since : slice_index_or rows.since is.edge.user 0 ≡ slice_index_or rows.since edge.user 0 = ap (λ (e : Edge). slice_index_or rows.since e.user 0) edges in
      absurd (omega (arith, since, gone, is.present));
}

-- ---- the users that are linked

pub linked_none : (store : List Entity) (rows : Rows) (head : ℕ) (set : List ℕ) → AddsLinked store rows head head set set
linked_none store rows head set = record {
  users = [];
  put = Grown-none set;
  back = λ k h. h;
  are = λ n h. absurd (omega (arith, h.1));
  all = λ n k linked is. inr linked;
}

pub linked_more : (store : List Entity) (rows : Rows) (head link k : ℕ) (old mid new : List ℕ) (edge : Edge) → link ≡ suc k → slice_get rows.edges k ≡ Some edge
    → AddsLinked store rows head link old mid → AddsEdge store rows k mid new → AddsLinked store rows head edge.next old new
linked_more store rows head link k old mid new edge is_link at adds step = record {
  users = adds.users ++ step.users;
  put = Grown-both old mid new adds.users step.users adds.put step.put;
  back = λ j h. adds.back j (subst (λ (l : ℕ). Linked rows.edges l j) (sym is_link) (further k j edge at h));
  are = λ n h. elim (Contains-append_cases adds.users step.users n h) [
    | inl old ↦ adds.are n old
    | inr new ↦ (k, adds.back k (subst (λ (l : ℕ). Linked rows.edges l k) (sym is_link) (here k)), step.are n new)
  ];
  all = λ n j linked is. elim (adds.all n j linked is) [
    | inl there ↦ inl (Contains-append_left adds.users step.users n there)
    | inr rest ↦ elim (link_cases rows.edges k link j is_link rest) [
      | inl e ↦ inl (Contains-append_right adds.users step.users n (step.all n (subst (λ (i : ℕ). IsUserAt store rows i n) e is)))
      | inr more ↦ (let one : Some more.0 ≡ Some edge = sym more.1 ∙ at in
          let same : more.0 ≡ edge = cc in
          inr (subst (λ (e : Edge). Linked rows.edges e.next j) same more.2))
    ]
  ];
}

-- ---- the users of a number

pub stands : (store : List Entity) (n : ℕ) (entity : Entity) → entity_at store n ≡ Some entity → (p : ℕ) × (slice_get store p ≡ Some entity) × (entity.number ≡ n)
stands [] n entity h = absurd cc
stands (x ∷ store) n entity h = go (n == x.number) refl (stands store n entity)
  where
    go : (b : Bool) → (n == x.number) ≡ b → (entity_at store n ≡ Some entity → (p : ℕ) × (slice_get store p ≡ Some entity) × (entity.number ≡ n))
        → (p : ℕ) × (slice_get (x ∷ store) p ≡ Some entity) × (entity.number ≡ n)
    go true e rec =
        let is : Some x ≡ Some entity = rw e at h in
        let one : x ≡ entity = cc in
        let same : n ≡ x.number = grind (arith, nat_tests) in
        (0, is, sym (ap (λ (y : Entity). y.number) one) ∙ sym same)
    go false e rec = let z = rec (rw e at h) in (suc z.0, z.1, z.2)

used_there : (entities : ℕ → Option Entity) (n r : ℕ) → Contains (uses_at entities n) r → (entity : Entity) × (entities n ≡ Some entity)
used_there entities n r h = go (entities n) refl h
  where
    go : (o : Option Entity) → entities n ≡ o → Contains (option_map_or uses_of o []) r → (entity : Entity) × (entities n ≡ Some entity)
    go None e c = absurd (omega (arith, c.1))
    go (Some entity) e c = (entity, e)

pub users_all : (store : List Entity) (rows : Rows) (number place : ℕ) (old new : List ℕ) → IsUserIndex store rows → ((i : ℕ) → (Some place ≡ Some i) ↔ IsAt store number i)
    → AddsLinked store rows (slice_index_or rows.heads place 0) 0 old new → AddsUsers (entity_at store) number old new
users_all store rows number place old new index found adds = record { users = adds.users; put = adds.put; are = are; all = all }
  where
    at : (used : Entity) × (slice_get store place ≡ Some used) × (used.number ≡ number)
    at = (found place).0 refl

    are : (n : ℕ) → Contains adds.users n → Contains (uses_at (entity_at store) n) number
    are n h =
        let link = adds.are n h in
        let is = link.2 in
        let edge : IsEdge rows is.edge.user place link.0 = record { edge = is.edge; at = is.at; linked = link.1; user = refl; present = is.present } in
        let row = index.right is.edge.user is.user is.there in
        subst (λ (m : ℕ). Contains (uses_at (entity_at store) m) number) is.number
        (subst (Contains (uses_at (entity_at store) is.user.number)) at.2 (row.sound place link.0 at.0 at.1 edge))

    all : (n : ℕ) → Contains (uses_at (entity_at store) n) number → Contains adds.users n
    all n h =
        let entity = used_there (entity_at store) n number h in
        let p = stands store n entity.0 entity.1 in
        let row = index.right p.0 entity.0 p.1 in
        let uses = subst (λ (m : ℕ). Contains (uses_at (entity_at store) m) at.0.number) (sym p.2) (subst (Contains (uses_at (entity_at store) n)) (sym at.2) h) in
        let edge = row.complete place at.0 at.1 uses in
        let is : IsUserAt store rows edge.0 n = record {
          edge = edge.1.edge;
          user = entity.0;
          at = edge.1.at;
          present = subst (λ (q : ℕ). slice_index_or rows.since q 0 ≤ edge.0) (sym edge.1.user) edge.1.present;
          there = subst (λ (q : ℕ). slice_get store q ≡ Some entity.0) (sym edge.1.user) p.1;
          number = p.2;
        } in
        elim (adds.all n edge.0 edge.1.linked is) [ inl there ↦ there | inr rest ↦ absurd (no_link rows.edges 0 edge.0 refl rest) ]

pub users_none : (entities : ℕ → Option Entity) (number : ℕ) (set : List ℕ) → ((n r : ℕ) → Contains (uses_at entities n) r → entities r ≡ None → ⊥) → entities number ≡ None
    → AddsUsers entities number set set
users_none entities number set closed none = record { users = []; put = Grown-none set; are = λ n h. absurd (omega (arith, h.1)); all = λ n h. absurd (closed n number h none) }

-- ---- the walk back

-- the members reach the edit, the numbers that it puts are there, and with the first i members their users
pub record Backward (store items : List Entity) (ks : List ℕ) (i : ℕ) : Type 0 where
  pub starts : (n : ℕ) → is_put items n ≡ true → Contains ks n
  pub sound : (n : ℕ) → Contains ks n → Reach store items n
  pub done : (k n : ℕ) → k < i → Contains (uses_at (entity_at store) n) (slice_index ks k) → Contains ks n
  pub bound : i ≤ length ks

pub Backward-start : (store items : List Entity) (ks : List ℕ) → Grown [] ks (numbers_of items) → Backward store items ks 0
Backward-start store items ks put = record {
  starts = λ n h. (put.members n).1 (inr (among_holds (numbers_of items) n h));
  sound = λ n h. elim ((put.members n).0 h) [ inl none ↦ absurd (omega (arith, none.1)) | inr is ↦ (n, root, holds_among (numbers_of items) n is) ];
  done = λ k n lt. absurd (omega (arith, lt));
  bound = omega arith;
}

-- what isn't put and uses what reaches the edit reaches it
uses_reach : (store items : List Entity) (n m : ℕ) → Reach store items m → Contains (uses_at (entity_at store) n) m → Reach store items n
uses_reach store items n m reach c = go (is_put items n) refl
  where
    by : (o : Option Entity) → after store items n ≡ o → Contains (option_map_or uses_of o []) m → Reach store items n
    by None e h = absurd (omega (arith, h.1))
    by (Some entity) e h = (reach.0, prepend (after store items) n m reach.0 entity e h reach.1, reach.2)

    go : (b : Bool) → is_put items n ≡ b → Reach store items n
    go true e = (n, root, e)
    go false e = by (after store items n) refl (subst (λ (o : Option Entity). Contains (option_map_or uses_of o []) m) (sym (not_put (entity_at store) items n e)) c)

pub Backward-turn : (store items : List Entity) (ks new : List ℕ) (i m : ℕ) → Backward store items ks i → i < length ks → slice_index ks i ≡ m → AddsUsers (entity_at store) m ks new
    → Backward store items new (i + 1)
Backward-turn store items ks new i m back within at adds = record {
  starts = λ n h. (adds.put.members n).1 (inl (back.starts n h));
  sound = λ n h. elim ((adds.put.members n).0 h) [
    | inl old ↦ back.sound n old
    | inr user ↦ uses_reach store items n m (back.sound m there) (adds.are n user)
  ];
  done = λ k n lt h. go k n lt h;
  bound = omega (arith, adds.put.grows, within);
}
  where
    there : Contains ks m
    there = (i, within, get_or_from_slice_get ks i m m (slice_get-get_or ks i 0 within ∙ ap Some at))

    go : (k n : ℕ) → k < i + 1 → Contains (uses_at (entity_at store) n) (slice_index new k) → Contains new n
    go k n lt h = by (k == i) refl
      where
        by : (b : Bool) → (k == i) ≡ b → Contains new n
        by true e =
            let same : k ≡ i = grind (arith, nat_tests) in
            let number : slice_index new k ≡ m = ap (slice_index new) same ∙ adds.put.kept i within ∙ at in
            (adds.put.members n).1 (inr (adds.all n (subst (Contains (uses_at (entity_at store) n)) number h)))
        by false e =
            let less : k < i = grind (arith, nat_tests) in
            let number : slice_index new k ≡ slice_index ks k = adds.put.kept k (omega (arith, less, within)) in
            (adds.put.members n).1 (inl (back.done k n less (subst (Contains (uses_at (entity_at store) n)) number h)))

-- where all members were looked at, all that reaches the edit is there
Backward-all : (store items : List Entity) (ks : List ℕ) (i : ℕ) → Backward store items ks i → length ks ≤ i → (n r : ℕ) → Reaches (after store items) n r → Contains ks r → Contains ks n
Backward-all store items ks i back le n _ root c = c
Backward-all store items ks i back le n _ (used m r entity p e u) c = Backward-all store items ks i back le n m p (go (is_put items m) refl)
  where
    go : (b : Bool) → is_put items m ≡ b → Contains ks m
    go true f = back.starts m f
    go false f =
        let was : entity_at store m ≡ Some entity = sym (not_put (entity_at store) items m f) ∙ e in
        let uses : Contains (uses_at (entity_at store) m) r = subst (λ (o : Option Entity). Contains (option_map_or uses_of o []) r) (sym was) u in
        let number : slice_index ks c.0 ≡ r = get_or_from_slice_get ks c.0 r 0 (slice_get-get_or ks c.0 r c.1 ∙ ap Some c.2) in
        back.done c.0 m (omega (arith, c.1, le)) (subst (Contains (uses_at (entity_at store) m)) (sym number) uses)

pub Backward-end : (store items : List Entity) (ks : List ℕ) (i : ℕ) → Backward store items ks i → length ks ≤ i → (n : ℕ) → Contains ks n ↔ Reach store items n
Backward-end store items ks i back le n = (back.sound n, λ reach. Backward-all store items ks i back le n reach.0 reach.1 (back.starts reach.0 reach.2))

-- ---- those that are steps

cons_cases : (m : ℕ) (ns : List ℕ) (n : ℕ) → Contains (m ∷ ns) n → (m ≡ n) ⊎ Contains ns n
cons_cases m ns n (zero, l, e) = inl e
cons_cases m ns n (suc k, l, e) = inr (k, (let f : k < length ns = omega (arith, l) in f), e)

first_in : (m : ℕ) (ns : List ℕ) (n : ℕ) → m ≡ n → Contains (m ∷ ns) n
first_in m ns n e = (0, omega arith, e)

filtered_in : (p : ℕ → Bool) (ns : List ℕ) (n : ℕ) → Contains ns n → p n ≡ true → Contains (filter p ns) n
filtered_in p [] n h t = h
filtered_in p (m ∷ ns) n h t = go (p m) refl (cons_cases m ns n h) (λ c. filtered_in p ns n c t)
  where
    go : (b : Bool) → p m ≡ b → (m ≡ n) ⊎ Contains ns n → (Contains ns n → Contains (filter p ns) n) → Contains (filter p (m ∷ ns)) n
    go true e (inl q) rec = rw e (first_in m (filter p ns) n q)
    go true e (inr c) rec = rw e (Contains-append_right (m ∷ []) (filter p ns) n (rec c))
    go false e (inl q) rec = absurd (let f : true ≡ false = sym t ∙ ap p (sym q) ∙ e in let g : ⊥ = cc in g)
    go false e (inr c) rec = rw e (rec c)

filtered_from : (p : ℕ → Bool) (ns : List ℕ) (n : ℕ) → Contains (filter p ns) n → Contains ns n × (p n ≡ true)
filtered_from p [] n h = absurd (omega (arith, h.1))
filtered_from p (m ∷ ns) n h = go (p m) refl (filtered_from p ns n)
  where
    go : (b : Bool) → p m ≡ b → (Contains (filter p ns) n → Contains ns n × (p n ≡ true)) → Contains (m ∷ ns) n × (p n ≡ true)
    go true e rec =
        elim (cons_cases m (filter p ns) n (rw e at h)) [
          | inl q ↦ (first_in m ns n q, ap p (sym q) ∙ e)
          | inr c ↦ (let z = rec c in (Contains-append_right (m ∷ []) ns n z.0, z.1))
        ]
    go false e rec = let z = rec (rw e at h) in (Contains-append_right (m ∷ []) ns n z.0, z.1)

-- those of the numbers that reach the edit which are steps
pub reached_steps : (store : List Entity) (steps : List ℕ) (items : List Entity) (keys : List ℕ) (r : Result (List ℕ) NoMemory) → ((n : ℕ) → Contains keys n ↔ Reach store items n)
    → IfOk r (λ (list : List ℕ). list ≡ filter (is_among steps) keys) → IfOk r (λ (list : List ℕ). IsStrictlyIncreasing keys) → IfOk r (AreReached store steps items)
reached_steps store steps items keys (Err e) reach is rising = tt
reached_steps store steps items keys (Ok list) reach is rising = record {
  rising = subst IsStrictlyIncreasing (sym is) (IsStrictlyIncreasing-filter (is_among steps) keys rising);
  members = λ n. (
    λ h. (let z = filtered_from (is_among steps) keys n (subst (λ (l : List ℕ). Contains l n) is h) in
        (among_holds steps n z.1, (decided store items n).1 ((reach n).0 z.0))),
    λ h. subst (λ (l : List ℕ). Contains l n) (sym is) (filtered_in (is_among steps) keys n ((reach n).1 ((decided store items n).0 h.1)) (holds_among steps n h.0)),
  );
}

-- one of the steps is where a place was found
pub is_step : (steps order : List ℕ) (n : ℕ) (o : Option ℕ) → IsOrderOf steps order → IfSome o (λ i. slice_get order i ≡ Some n) → IfNone o (Contains steps n → ⊥) → is_some o ≡ is_among steps n
is_step steps order n (Some i) is found none =
    sym (holds_among steps n ((is.members n).0 (i, slice_get_within order i n found, get_or_from_slice_get order i n n found)))
is_step steps order n None is found none = go (is_among steps n) refl
  where
    go : (b : Bool) → is_among steps n ≡ b → false ≡ is_among steps n
    go true e = absurd (none (among_holds steps n e))
    go false e = sym e

-- the numbers of one item more
pub numbers_more : (items : List Entity) (i : ℕ) (item : Entity) → i < length items → item ≡ get_or items i item → numbers_of (take (i + 1) items) ≡ numbers_of (take i items) ++ item.number ∷ []
numbers_more items i item within is =
    ap numbers_of (take_more items i item within ∙ ap (λ (e : Entity). take i items ++ e ∷ []) (sym is)) ∙ map-append (λ (e : Entity). e.number) (take i items) (item ∷ [])
