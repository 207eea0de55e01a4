-- The index of direct users, edge by edge.
use Rattle.std.specs.Prelude.{◌≡◌, ◌⊎◌, ◌↔◌, ◌<◌, ◌≤◌, ◌+◌, ℕ, zero, suc, Bool, true, false, ◌==◌, List, [], ◌∷◌, ◌++◌, length, slice_get, nat_eq, Option, Some, None, Contains, flat_map}
use Rattle.std.specs.Option.{option_map_or, option_or}
use Rattle.std.specs.List.{AllByRecursion, IsDistinct}
use Rattle.std.proofs.Common.{refl, sym, ap, subst, ◌∙◌, inl, inr, arith, eqb, get_or, set, take, drop, append_assoc}
use Rattle.std.proofs.lemmas.Bool.Decides.{nat_tests}
use Rattle.std.proofs.lemmas.List.{append-nil, length-set, get_or-set_same, get_or-set_other, length_push, take_more, drop_more}
use Rattle.std.proofs.lemmas.List.Elements.{Contains-append_left, Contains-push, Contains-push_cases}
use Rattle.std.proofs.lemmas.Option.{slice_get_within}
use Rattle.entity_types.specs.declared.entity.Entity.{Entity}
use Rattle.entity_types.specs.declared.field.Field.{Field}
use Rattle.entity_types.specs.Entity.{uses_of, references_of}
use Rattle.project_store.specs.Entities.{numbers_of, entity_at}
use Rattle.project_store.specs.Inserts.{uses_at}
use Rattle.project_store.specs.Put.{put, put_all}
use Rattle.project_store.specs.Places.{IsAt}
use Rattle.project_versions.specs.declared.users.Edge.{Edge}
use Rattle.project_versions.specs.Users.{Rows, Linked, here, further, IsEdge, RowIsRight, RowsAreRight, AreLinked, HasRows, Links, SetsRow, PutsRows, with_edge, uses_count, IsUserIndex}

-- ---- one more at a list's end

pub got_left : {A : Type 0} (xs ys : List A) (k : ℕ) (x : A) → slice_get xs k ≡ Some x → slice_get (xs ++ ys) k ≡ Some x
got_left [] ys k x h = absurd cc
got_left (y ∷ xs) ys zero x h = h
got_left (y ∷ xs) ys (suc k) x h = got_left xs ys k x h

got_last : {A : Type 0} (xs : List A) (x : A) → slice_get (xs ++ x ∷ []) (length xs) ≡ Some x
got_last [] x = refl
got_last (y ∷ xs) x = got_last xs x

got_cases : {A : Type 0} (xs : List A) (x y : A) (k : ℕ) → slice_get (xs ++ x ∷ []) k ≡ Some y → (slice_get xs k ≡ Some y) ⊎ ((k ≡ length xs) × (x ≡ y))
got_cases [] x y zero h = inr (refl, (cc))
got_cases [] x y (suc k) h = absurd cc
got_cases (z ∷ xs) x y zero h = inl h
got_cases (z ∷ xs) x y (suc k) h = elim (got_cases xs x y k h) [ inl old ↦ inl old | inr new ↦ inr (ap suc new.0, new.1) ]

pub same_or_not : (i j : ℕ) → (i ≡ j) ⊎ (i ≡ j → ⊥)
same_or_not i j = go (eqb i j) refl
  where
    go : (b : Bool) → eqb i j ≡ b → (i ≡ j) ⊎ (i ≡ j → ⊥)
    go true e = inl (grind (arith, nat_tests))
    go false e = inr (λ q. (let f : eqb i j ≡ true = grind (arith, nat_tests) in cc))

-- ---- links

pub no_link : (edges : List Edge) (h k : ℕ) → h ≡ 0 → Linked edges h k → ⊥
no_link edges _ k z (here _) = omega (arith, z)
no_link edges _ k z (further i _ edge at more) = omega (arith, z)

-- links lead back
pub link_below : (edges : List Edge) → ((k : ℕ) (edge : Edge) → slice_get edges k ≡ Some edge → edge.next ≤ k) → (h k : ℕ) → Linked edges h k → k < h
link_below edges back _ _ (here k) = omega arith
link_below edges back _ j (further k _ edge at more) = omega (arith, back k edge at, link_below edges back edge.next j more)

link_more : (edges : List Edge) (x : Edge) (h k : ℕ) → Linked edges h k → Linked (edges ++ x ∷ []) h k
link_more edges x _ _ (here k) = here k
link_more edges x _ j (further k _ edge at more) = further k j edge (got_left edges (x ∷ []) k edge at) (link_more edges x edge.next j more)

link_fewer : (edges : List Edge) (x : Edge) → ((k : ℕ) (edge : Edge) → slice_get edges k ≡ Some edge → edge.next ≤ k) → (h k : ℕ) → h ≤ length edges → Linked (edges ++ x ∷ []) h k → Linked edges h k
link_fewer edges x back _ _ le (here k) = here k
link_fewer edges x back _ j le (further k _ edge at more) = go (got_cases edges x edge k at) (λ (old : slice_get edges k ≡ Some edge). link_fewer edges x back edge.next j (omega (arith, back k edge old, le)) more)
  where
    go : (slice_get edges k ≡ Some edge) ⊎ ((k ≡ length edges) × (x ≡ edge)) → (slice_get edges k ≡ Some edge → Linked edges edge.next j) → Linked edges (suc k) j
    go (inl old) rec = further k j edge old (rec old)
    go (inr new) rec = absurd (omega (arith, new.0, le))

pub link_cases : (edges : List Edge) (m h k : ℕ) → h ≡ suc m → Linked edges h k → (k ≡ m) ⊎ ((edge : Edge) × (slice_get edges m ≡ Some edge) × Linked edges edge.next k)
link_cases edges m _ _ e (here k) = inl (omega (arith, e))
link_cases edges m _ j e (further k _ edge at more) =
    let same : k ≡ m = omega (arith, e) in
    inr (edge, subst (λ (i : ℕ). slice_get edges i ≡ Some edge) same at, more)

-- ---- an edge more

module _ (count : ℕ) (rows : Rows) (place user : ℕ) (linked : AreLinked count rows) (there : place < count) (within : place < length rows.heads) (of : user < count) where
  abbrev edge_new : Edge
  edge_new = record { user = user; next = get_or rows.heads place 0 }

  abbrev heads_new : List ℕ
  heads_new = set rows.heads place (length rows.edges + 1)

  head_at : (i : ℕ) → i ≡ place → get_or heads_new i 0 ≡ suc (length rows.edges)
  head_at i e = ap (λ (j : ℕ). get_or heads_new j 0) e ∙ get_or-set_same rows.heads place (length rows.edges + 1) 0 within ∙ omega arith

  head_else : (i : ℕ) → (i ≡ place → ⊥) → get_or heads_new i 0 ≡ get_or rows.heads i 0
  head_else i h = get_or-set_other rows.heads place i (length rows.edges + 1) 0 h

  next_is : (edge : Edge) → edge_new ≡ edge → edge.next ≤ length rows.edges
  next_is edge e = let f : get_or rows.heads place 0 ≡ edge.next = ap (λ (x : Edge). x.next) e in omega (arith, f, linked.ends place)

  user_is : (edge : Edge) → edge_new ≡ edge → user ≡ edge.user
  user_is edge e = ap (λ (x : Edge). x.user) e

  edges_more : length (rows.edges ++ edge_new ∷ []) ≡ length rows.edges + 1
  edges_more = length_push rows.edges edge_new

  new_linked : AreLinked count (with_edge rows place user)
  new_linked = record {
    back = λ k edge at. elim (got_cases rows.edges edge_new edge k at) [
      | inl old ↦ linked.back k edge old
      | inr new ↦ omega (arith, new.0, next_is edge new.1)
    ];
    users = λ k edge at. elim (got_cases rows.edges edge_new edge k at) [
      | inl old ↦ linked.users k edge old
      | inr new ↦ omega (arith, user_is edge new.1, of)
    ];
    ends = λ i. elim (same_or_not i place) [
      | inl e ↦ omega (arith, head_at i e, edges_more)
      | inr h ↦ omega (arith, head_else i h, linked.ends i, edges_more)
    ];
    begun = λ i. omega (arith, linked.begun i, edges_more);
    free = λ i le. head_else i (λ e. omega (arith, e, le, there)) ∙ linked.free i le;
  }

  link_kept : (i k : ℕ) → Linked rows.edges (get_or rows.heads i 0) k → Linked (rows.edges ++ edge_new ∷ []) (get_or heads_new i 0) k
  link_kept i k h = go (same_or_not i place)
    where
      go : (i ≡ place) ⊎ (i ≡ place → ⊥) → Linked (rows.edges ++ edge_new ∷ []) (get_or heads_new i 0) k
      go (inl e) =
          subst (λ (l : ℕ). Linked (rows.edges ++ edge_new ∷ []) l k) (sym (head_at i e))
          (further (length rows.edges) k edge_new (got_last rows.edges edge_new)
          (link_more rows.edges edge_new (get_or rows.heads place 0) k (subst (λ (j : ℕ). Linked rows.edges (get_or rows.heads j 0) k) e h)))
      go (inr n) =
          subst (λ (l : ℕ). Linked (rows.edges ++ edge_new ∷ []) l k) (sym (head_else i n)) (link_more rows.edges edge_new (get_or rows.heads i 0) k h)

  edge_kept : (p i k : ℕ) → IsEdge rows p i k → IsEdge (with_edge rows place user) p i k
  edge_kept p i k is = record {
    edge = is.edge;
    at = got_left rows.edges (edge_new ∷ []) k is.edge is.at;
    linked = link_kept i k is.linked;
    user = is.user;
    present = is.present;
  }

  edge_there : IsEdge (with_edge rows place user) user place (length rows.edges)
  edge_there = record {
    edge = edge_new;
    at = got_last rows.edges edge_new;
    linked = subst (λ (l : ℕ). Linked (rows.edges ++ edge_new ∷ []) l (length rows.edges)) (sym (head_at place refl)) (here (length rows.edges));
    user = refl;
    present = linked.begun user;
  }

  link_old : (i k : ℕ) → k < length rows.edges → Linked (rows.edges ++ edge_new ∷ []) (get_or heads_new i 0) k → Linked rows.edges (get_or rows.heads i 0) k
  link_old i k lt h = go (same_or_not i place)
    where
      through : i ≡ place → (k ≡ length rows.edges) ⊎ ((edge : Edge) × (slice_get (rows.edges ++ edge_new ∷ []) (length rows.edges) ≡ Some edge) × Linked (rows.edges ++ edge_new ∷ []) edge.next k)
          → Linked rows.edges (get_or rows.heads i 0) k
      through e (inl same) = absurd (omega (arith, same, lt))
      through e (inr (edge, at, more)) =
          let is : Some edge_new ≡ Some edge = sym (got_last rows.edges edge_new) ∙ at in
          let one : edge_new ≡ edge = cc in
          let next : edge.next ≡ get_or rows.heads place 0 = sym (ap (λ (x : Edge). x.next) one) in
          subst (λ (j : ℕ). Linked rows.edges (get_or rows.heads j 0) k) (sym e)
          (link_fewer rows.edges edge_new linked.back (get_or rows.heads place 0) k (linked.ends place) (subst (λ (l : ℕ). Linked (rows.edges ++ edge_new ∷ []) l k) next more))

      go : (i ≡ place) ⊎ (i ≡ place → ⊥) → Linked rows.edges (get_or rows.heads i 0) k
      go (inl e) = through e (link_cases (rows.edges ++ edge_new ∷ []) (length rows.edges) (get_or heads_new i 0) k (head_at i e) h)
      go (inr n) =
          link_fewer rows.edges edge_new linked.back (get_or rows.heads i 0) k (linked.ends i) (subst (λ (l : ℕ). Linked (rows.edges ++ edge_new ∷ []) l k) (head_else i n) h)

  link_new : (i : ℕ) → Linked (rows.edges ++ edge_new ∷ []) (get_or heads_new i 0) (length rows.edges) → i ≡ place
  link_new i h = go (same_or_not i place)
    where
      go : (i ≡ place) ⊎ (i ≡ place → ⊥) → i ≡ place
      go (inl e) = e
      go (inr n) =
          let old = link_fewer rows.edges edge_new linked.back (get_or rows.heads i 0) (length rows.edges) (linked.ends i)
          (subst (λ (l : ℕ). Linked (rows.edges ++ edge_new ∷ []) l (length rows.edges)) (head_else i n) h) in
          absurd (omega (arith, link_below rows.edges linked.back (get_or rows.heads i 0) (length rows.edges) old, linked.ends i))

  edge_from : (p i k : ℕ) → IsEdge (with_edge rows place user) p i k → IsEdge rows p i k ⊎ ((i ≡ place) × (p ≡ user))
  edge_from p i k is = go (got_cases rows.edges edge_new is.edge k is.at)
    where
      go : (slice_get rows.edges k ≡ Some is.edge) ⊎ ((k ≡ length rows.edges) × (edge_new ≡ is.edge)) → IsEdge rows p i k ⊎ ((i ≡ place) × (p ≡ user))
      go (inl old) = inl (record { edge = is.edge; at = old; linked = link_old i k (slice_get_within rows.edges k is.edge old) is.linked; user = is.user; present = is.present })
      go (inr new) =
          inr (link_new i (subst (λ (j : ℕ). Linked (rows.edges ++ edge_new ∷ []) (get_or heads_new i 0) j) new.0 is.linked), sym is.user ∙ sym (user_is is.edge new.1))

-- an edge of a row links one number more
pub one_link : (store : List Entity) (rows : Rows) (place user r : ℕ) → AreLinked (length store) rows → place < length store → place < length rows.heads → user < length store
    → ((used : Entity) → slice_get store place ≡ Some used → used.number ≡ r) → ((i : ℕ) (used : Entity) → slice_get store i ≡ Some used → used.number ≡ r → i ≡ place)
    → Links store rows (with_edge rows place user) user (r ∷ [])
one_link store rows place user r linked there within of is only = record {
  linked = new_linked (length store) rows place user linked there within of;
  heads = length-set rows.heads place (length rows.edges + 1);
  since = refl;
  own = λ before right. record {
    sound = λ i k used at edge. elim (edge_from (length store) rows place user linked there within of user i k edge) [
      | inl old ↦ Contains-append_left before (r ∷ []) used.number (right.sound i k used at old)
      | inr new ↦ subst (Contains (before ++ r ∷ [])) (sym (is used (subst (λ (j : ℕ). slice_get store j ≡ Some used) new.0 at))) (Contains-push before r)
    ];
    complete = λ i used at has. elim (Contains-push_cases before r used.number has) [
      | inl old ↦ (let e = right.complete i used at old in (e.0, edge_kept (length store) rows place user linked there within of user i e.0 e.1))
      | inr new ↦ (length rows.edges, subst (λ (j : ℕ). IsEdge (with_edge rows place user) user j (length rows.edges)) (sym (only i used at (sym new))) (edge_there (length store) rows place user linked there within of))
    ];
  };
  others = λ q us other right. record {
    sound = λ i k used at edge. elim (edge_from (length store) rows place user linked there within of q i k edge) [
      | inl old ↦ right.sound i k used at old
      | inr new ↦ absurd (other new.1)
    ];
    complete = λ i used at has. let e = right.complete i used at has in (e.0, edge_kept (length store) rows place user linked there within of q i e.0 e.1);
  };
}

-- a number that no entity has needs no edge
pub no_link_more : (store : List Entity) (rows : Rows) (user r : ℕ) → AreLinked (length store) rows → ((i : ℕ) (used : Entity) → slice_get store i ≡ Some used → used.number ≡ r → ⊥)
    → Links store rows rows user (r ∷ [])
no_link_more store rows user r linked none = record {
  linked = linked;
  heads = refl;
  since = refl;
  own = λ before right. record {
    sound = λ i k used at edge. Contains-append_left before (r ∷ []) used.number (right.sound i k used at edge);
    complete = λ i used at has. elim (Contains-push_cases before r used.number has) [
      | inl old ↦ right.complete i used at old
      | inr new ↦ absurd (none i used at (sym new))
    ];
  };
  others = λ q us other right. right;
}

-- no edge more
pub Links-none : (store : List Entity) (rows : Rows) (user : ℕ) → AreLinked (length store) rows → Links store rows rows user []
Links-none store rows user linked = record {
  linked = linked;
  heads = refl;
  since = refl;
  own = λ before right. subst (RowIsRight store rows user) (sym (append-nil before)) right;
  others = λ q us other right. right;
}

-- edges for some numbers, and then for others
pub Links-both : (store : List Entity) (a b d : Rows) (user : ℕ) (us vs : List ℕ) → Links store a b user us → Links store b d user vs → Links store a d user (us ++ vs)
Links-both store a b d user us vs first then = record {
  linked = then.linked;
  heads = then.heads ∙ first.heads;
  since = then.since ∙ first.since;
  own = λ before right. subst (RowIsRight store d user) (append_assoc before us vs) (then.own (before ++ us) (first.own before right));
  others = λ q used other right. then.others q used other (first.others q used other right);
}

pub Links-rows : (store : List Entity) (a b : Rows) (user : ℕ) (us : List ℕ) (count : ℕ) → Links store a b user us → HasRows count a → HasRows count b
Links-rows store a b user us count links has = record { heads = omega (arith, has.heads, links.heads); since = omega (arith, has.since, links.since) }

-- ---- where a number stands

-- the entity of this number stands at this place alone
pub record IsPlace (store : List Entity) (n place : ℕ) : Type 0 where
  pub there : place < length store
  pub is : (used : Entity) → slice_get store place ≡ Some used → used.number ≡ n
  pub only : (i : ℕ) (used : Entity) → slice_get store i ≡ Some used → used.number ≡ n → i ≡ place

pub placed : (store : List Entity) (n place : ℕ) → ((i : ℕ) → (Some place ≡ Some i) ↔ IsAt store n i) → IsPlace store n place
placed store n place found =
    let at = (found place).0 refl in
    record {
      there = slice_get_within store place at.0 at.1;
      is = λ used same. (let both : Some at.0 ≡ Some used = sym at.1 ∙ same in let one : at.0 ≡ used = cc in ap (λ (e : Entity). e.number) (sym one) ∙ at.2);
      only = λ i used there e. (let both : Some place ≡ Some i = (found i).1 (used, there, e) in cc);
    }

pub unplaced : (store : List Entity) (n : ℕ) (o : Option ℕ) → o ≡ None → ((i : ℕ) → (o ≡ Some i) ↔ IsAt store n i) → (i : ℕ) (used : Entity) → slice_get store i ≡ Some used → used.number ≡ n → ⊥
unplaced store n o none found i used at e = let both : None ≡ Some i = sym none ∙ (found i).1 (used, at, e) in cc

-- ---- a row set anew

pub row_begins : (store : List Entity) (rows : Rows) (p count : ℕ) → AreLinked (length store) rows → p < length rows.since → count ≡ length rows.edges
    → SetsRow store rows (record { heads = rows.heads; since = set rows.since p count; edges = rows.edges }) p []
row_begins store rows p count linked within all = record {
  linked = record {
    back = linked.back;
    users = linked.users;
    ends = linked.ends;
    begun = λ i. elim (same_or_not i p) [
      | inl e ↦ omega (arith, ap (λ (j : ℕ). get_or (set rows.since p count) j 0) e, own)
      | inr n ↦ omega (arith, else i n, linked.begun i)
    ];
    free = linked.free;
  };
  heads = refl;
  since = length-set rows.since p count;
  own = record {
    sound = λ i k used at edge. absurd (omega (arith, own, edge.present, slice_get_within rows.edges k edge.edge edge.at));
    complete = λ i used at has. absurd (omega (arith, has.1));
  };
  others = λ q us other right. record {
    sound = λ i k used at edge. right.sound i k used at (record { edge = edge.edge; at = edge.at; linked = edge.linked; user = edge.user; present = omega (arith, else q other, edge.present) });
    complete = λ i used at has. (let e = right.complete i used at has in
        (e.0, record { edge = e.1.edge; at = e.1.at; linked = e.1.linked; user = e.1.user; present = omega (arith, else q other, e.1.present) }));
  };
}
  where
    own : get_or (set rows.since p count) p 0 ≡ length rows.edges
    own = get_or-set_same rows.since p count 0 within ∙ all

    else : (i : ℕ) → (i ≡ p → ⊥) → get_or (set rows.since p count) i 0 ≡ get_or rows.since i 0
    else i n = get_or-set_other rows.since p i count 0 n

-- a row begun, and what it uses linked
pub row_set : (store : List Entity) (a b d : Rows) (p : ℕ) (us : List ℕ) → SetsRow store a b p [] → Links store b d p us → SetsRow store a d p us
row_set store a b d p us begun links = record {
  linked = links.linked;
  heads = links.heads ∙ begun.heads;
  since = links.since ∙ begun.since;
  own = links.own [] begun.own;
  others = λ q used other right. links.others q used other (begun.others q used other right);
}

-- ---- items put

by_number : (n m : ℕ) → ((n == m) ≡ true) ⊎ ((n == m) ≡ false)
by_number n m = go (n == m) refl
  where
    go : (b : Bool) → (n == m) ≡ b → ((n == m) ≡ true) ⊎ ((n == m) ≡ false)
    go true e = inl e
    go false e = inr e

same : (n m : ℕ) → (n == m) ≡ true → n ≡ m
same n m h = grind (arith, nat_tests)

apart : (n m : ℕ) → (n == m) ≡ false → n ≡ m → ⊥
apart n m h e = grind (arith, nat_tests)

uses_new : (entities : ℕ → Option Entity) (item : Entity) (n : ℕ) → (n == item.number) ≡ true → uses_at (put entities item) n ≡ uses_of item
uses_new entities item n h = rw h refl

uses_old : (entities : ℕ → Option Entity) (item : Entity) (n : ℕ) → (n == item.number) ≡ false → uses_at (put entities item) n ≡ uses_at entities n
uses_old entities item n h = rw h refl

pub one_put : (store : List Entity) (old new : Rows) (p : ℕ) (item : Entity) → IsPlace store item.number p → SetsRow store old new p (uses_of item) → PutsRows store old new (item ∷ [])
one_put store old new p item place sets = record {
  linked = sets.linked;
  heads = sets.heads;
  since = sets.since;
  right = λ entities right q user at. elim (by_number user.number item.number) [
    | inl e ↦ (let here : q ≡ p = place.only q user at (same user.number item.number e) in
        subst (RowIsRight store new q) (sym (uses_new entities item user.number e)) (subst (λ (i : ℕ). RowIsRight store new i (uses_of item)) (sym here) sets.own))
    | inr n ↦ subst (RowIsRight store new q) (sym (uses_old entities item user.number n))
        (sets.others q (uses_at entities user.number) (λ e. apart user.number item.number n (place.is user (subst (λ (i : ℕ). slice_get store i ≡ Some user) e at))) (right q user at))
  ];
}

pub none_put : (store : List Entity) (rows : Rows) (item : Entity) → AreLinked (length store) rows → ((i : ℕ) (used : Entity) → slice_get store i ≡ Some used → used.number ≡ item.number → ⊥)
    → PutsRows store rows rows (item ∷ [])
none_put store rows item linked none = record {
  linked = linked;
  heads = refl;
  since = refl;
  right = λ entities right q user at. elim (by_number user.number item.number) [
    | inl e ↦ absurd (none q user at (same user.number item.number e))
    | inr n ↦ subst (RowIsRight store rows q) (sym (uses_old entities item user.number n)) (right q user at)
  ];
}

pub PutsRows-none : (store : List Entity) (rows : Rows) → AreLinked (length store) rows → PutsRows store rows rows []
PutsRows-none store rows linked = record { linked = linked; heads = refl; since = refl; right = λ entities right. right }

put_both : (entities : ℕ → Option Entity) (xs ys : List Entity) → put_all entities (xs ++ ys) ≡ put_all (put_all entities xs) ys
put_both entities [] ys = refl
put_both entities (x ∷ xs) ys = put_both (put entities x) xs ys

pub PutsRows-both : (store : List Entity) (a b d : Rows) (xs ys : List Entity) → PutsRows store a b xs → PutsRows store b d ys → PutsRows store a d (xs ++ ys)
PutsRows-both store a b d xs ys first then = record {
  linked = then.linked;
  heads = then.heads ∙ first.heads;
  since = then.since ∙ first.since;
  right = λ entities right. subst (RowsAreRight store d) (sym (put_both entities xs ys)) (then.right (put_all entities xs) (first.right entities right));
}

pub PutsRows-rows : (store : List Entity) (a b : Rows) (items : List Entity) (count : ℕ) → PutsRows store a b items → HasRows count a → HasRows count b
PutsRows-rows store a b items count puts has = record { heads = omega (arith, has.heads, puts.heads); since = omega (arith, has.since, puts.since) }

-- ---- references counted

flat_map-append : (xs ys : List Field) → flat_map references_of (xs ++ ys) ≡ flat_map references_of xs ++ flat_map references_of ys
flat_map-append [] ys = refl
flat_map-append (x ∷ xs) ys = ap (λ (l : List ℕ). references_of x ++ l) (flat_map-append xs ys) ∙ sym (append_assoc (references_of x) (flat_map references_of xs) (flat_map references_of ys))

-- the references of one field more
pub flat_map-take : (fields : List Field) (i : ℕ) (field : Field) → i < length fields → field ≡ get_or fields i field
    → flat_map references_of (take (i + 1) fields) ≡ flat_map references_of (take i fields) ++ references_of field
flat_map-take fields i field within is =
    ap (flat_map references_of) (take_more fields i field within ∙ ap (λ (f : Field). take i fields ++ f ∷ []) (sym is))
    ∙ flat_map-append (take i fields) (field ∷ []) ∙ ap (λ (l : List ℕ). flat_map references_of (take i fields) ++ l) (append-nil (references_of field))

pub flat_map-drop : (fields : List Field) (i : ℕ) (field : Field) → i < length fields → field ≡ get_or fields i field
    → flat_map references_of (drop i fields) ≡ references_of field ++ flat_map references_of (drop (i + 1) fields)
flat_map-drop fields i field within is =
    ap (flat_map references_of) (drop_more fields i field within ∙ ap (λ (f : Field). f ∷ drop (i + 1) fields) (sym is))

pub uses_count-drop : (items : List Entity) (i : ℕ) (item : Entity) → i < length items → item ≡ get_or items i item
    → uses_count (drop i items) ≡ length (uses_of item) + uses_count (drop (i + 1) items)
uses_count-drop items i item within is = ap uses_count (drop_more items i item within ∙ ap (λ (e : Entity). e ∷ drop (i + 1) items) (sym is))

-- ---- the index of a store from nothing

-- where there are no edges, nothing uses anything
start : (store : List Entity) (rows : Rows) → rows.edges ≡ [] → RowsAreRight store rows (λ _. None)
start store rows none p user at = record {
  sound = λ i k used there edge. absurd (let e : slice_get (let l : List Edge = [] in l) k ≡ Some edge.edge = subst (λ (l : List Edge). slice_get l k ≡ Some edge.edge) none edge.at in cc);
  complete = λ i used there has. absurd (omega (arith, has.1));
}

not_among : (n : ℕ) (store : List Entity) → AllByRecursion (λ (m : ℕ). nat_eq n m ≡ false) (numbers_of store) → entity_at store n ≡ None
not_among n [] all = refl
not_among n (x ∷ store) all = let f : (n == x.number) ≡ false = all.0 in rw f (not_among n store all.1)

first_there : (o : Option Entity) → option_or o None ≡ o
first_there None = refl
first_there (Some x) = refl

-- all entities of a store put, over any
pub all_put : (entities : ℕ → Option Entity) (store : List Entity) (n : ℕ) → IsDistinct nat_eq (numbers_of store) → put_all entities store n ≡ option_or (entity_at store n) (entities n)
unfolding IsDistinct
all_put entities [] n d = refl
all_put entities (x ∷ store) n d = all_put (put entities x) store n d.1 ∙ go (n == x.number) refl
  where
    go : (b : Bool) → (n == x.number) ≡ b → option_or (entity_at store n) (put entities x n) ≡ option_or (entity_at (x ∷ store) n) (entities n)
    go true e =
        let none : entity_at store n ≡ None = subst (λ (m : ℕ). entity_at store m ≡ None) (sym (same n x.number e)) (not_among x.number store d.0) in
        rw (none, e) refl
    go false e = rw e refl

pub index_made : (store : List Entity) (old new : Rows) → IsDistinct nat_eq (numbers_of store) → old.edges ≡ [] → PutsRows store old new store → IsUserIndex store new
index_made store old new distinct none puts = record {
  linked = puts.linked;
  right = λ p user at.
      let found : put_all (λ _. None) store user.number ≡ entity_at store user.number = all_put (λ _. None) store user.number distinct ∙ first_there (entity_at store user.number) in
      subst (RowIsRight store new p) (ap (λ (o : Option Entity). option_map_or uses_of o []) found) (puts.right (λ _. None) (start store old none) p user at);
}
