-- Edges that count no more, taken out of their lists.
use Rattle.std.specs.Prelude.{◌≡◌, ◌⊎◌, ◌<◌, ◌≤◌, ℕ, zero, suc, List, [], ◌∷◌, length, slice_get, Some, Contains}
use Rattle.std.proofs.Common.{refl, sym, ap, subst, ◌∙◌, inl, inr, arith, get_or, set}
use Rattle.std.proofs.lemmas.List.{length-set, get_or-set_same, get_or-set_other}
use Rattle.std.proofs.lemmas.List.Elements.{Contains-append_left, Contains-push_cases}
use Rattle.std.proofs.lemmas.Option.{slice_get_within}
use Rattle.entity_types.specs.declared.entity.Entity.{Entity}
use Rattle.project_versions.specs.declared.users.Edge.{Edge}
use Rattle.project_versions.specs.Users.{Rows, Linked, here, further, IsEdge, AreLinked, IsGone, Links, Spares, SetsRow}
use Rattle.project_versions.proofs.UserLemmas.{same_or_not, link_cases}

-- ---- what a list has once one of its elements is set

got_set : {A : Type 0} (xs : List A) (j : ℕ) (x y : A) → slice_get xs j ≡ Some y → slice_get (set xs j x) j ≡ Some x
got_set [] j x y h = absurd (cc)
got_set (z ∷ xs) zero x y h = refl
got_set (z ∷ xs) (suc j) x y h = got_set xs j x y h

got_else : {A : Type 0} (xs : List A) (j m : ℕ) (x : A) → (m ≡ j → ⊥) → slice_get (set xs j x) m ≡ slice_get xs m
got_else [] j m x h = refl
got_else (z ∷ xs) zero zero x h = absurd (h refl)
got_else (z ∷ xs) zero (suc m) x h = refl
got_else (z ∷ xs) (suc j) zero x h = refl
got_else (z ∷ xs) (suc j) (suc m) x h = got_else xs j m x (λ e. h (ap suc e))

-- ---- all as it was

pub spares_none : (store : List Entity) (rows : Rows) → AreLinked (length store) rows → Spares store rows rows
spares_none store rows linked = record { linked = linked; heads = refl; since = refl; edges = refl; rows = λ q us right. right }

pub spares_both : (store : List Entity) (a b d : Rows) → Spares store a b → Spares store b d → Spares store a d
spares_both store a b d first then = record {
  linked = then.linked;
  heads = then.heads ∙ first.heads;
  since = then.since ∙ first.since;
  edges = then.edges ∙ first.edges;
  rows = λ q us right. then.rows q us (first.rows q us right);
}

-- a user that is linked already needs no further edge
pub linked_before : (store : List Entity) (rows : Rows) (place user r k : ℕ) → AreLinked (length store) rows → IsEdge rows user place k
    → ((i : ℕ) (used : Entity) → slice_get store i ≡ Some used → used.number ≡ r → i ≡ place) → Links store rows rows user (r ∷ [])
linked_before store rows place user r k linked edge only = record {
  linked = linked;
  heads = refl;
  since = refl;
  own = λ before right. record {
    sound = λ i j used at is. Contains-append_left before (r ∷ []) used.number (right.sound i j used at is);
    complete = λ i used at has. elim (Contains-push_cases before r used.number has) [
      | inl old ↦ right.complete i used at old
      | inr new ↦ (k, subst (λ (j : ℕ). IsEdge rows user j k) (sym (only i used at (sym new))) edge)
    ];
  };
  others = λ q us other right. right;
}

-- ---- an edge that the head of an entity links to

module _ (store : List Entity) (rows : Rows) (k place : ℕ) (linked : AreLinked (length store) rows) (gone : IsGone rows k)
    (within : place < length rows.heads) (first : get_or rows.heads place 0 ≡ suc k) where
  abbrev next : ℕ
  next = gone.0.next

  abbrev heads_new : List ℕ
  heads_new = set rows.heads place next

  head_at : (i : ℕ) → i ≡ place → get_or heads_new i 0 ≡ next
  head_at i e = ap (λ (j : ℕ). get_or heads_new j 0) e ∙ get_or-set_same rows.heads place next 0 within

  head_else : (i : ℕ) → (i ≡ place → ⊥) → get_or heads_new i 0 ≡ get_or rows.heads i 0
  head_else i h = get_or-set_other rows.heads place i next 0 h

  first_at : (i : ℕ) → i ≡ place → get_or rows.heads i 0 ≡ suc k
  first_at i e = ap (λ (j : ℕ). get_or rows.heads j 0) e ∙ first

  new_first : AreLinked (length store) (record { heads = heads_new; since = rows.since; edges = rows.edges })
  new_first = record {
    back = linked.back;
    users = linked.users;
    ends = λ i. elim (same_or_not i place) [
      | inl e ↦ omega (arith, head_at i e, linked.back k gone.0 gone.1, slice_get_within rows.edges k gone.0 gone.1)
      | inr h ↦ omega (arith, head_else i h, linked.ends i)
    ];
    begun = linked.begun;
    free = λ i le. elim (same_or_not i place) [
      | inl e ↦ absurd (omega (arith, first_at i e, linked.free i le))
      | inr h ↦ head_else i h ∙ linked.free i le
    ];
  }

  first_from : (i j : ℕ) → Linked rows.edges (get_or heads_new i 0) j → Linked rows.edges (get_or rows.heads i 0) j
  first_from i j h = elim (same_or_not i place) [
    | inl e ↦ subst (λ (l : ℕ). Linked rows.edges l j) (sym (first_at i e)) (further k j gone.0 gone.1 (subst (λ (l : ℕ). Linked rows.edges l j) (head_at i e) h))
    | inr n ↦ subst (λ (l : ℕ). Linked rows.edges l j) (head_else i n) h
  ]

  first_kept : (i j : ℕ) → (j ≡ k → ⊥) → Linked rows.edges (get_or rows.heads i 0) j → Linked rows.edges (get_or heads_new i 0) j
  first_kept i j other h = elim (same_or_not i place) [
    | inl e ↦ elim (link_cases rows.edges k (get_or rows.heads i 0) j (first_at i e) h) [
      | inl is ↦ absurd (other is)
      | inr more ↦ (let both : Some more.0 ≡ Some gone.0 = sym more.1 ∙ gone.1 in
          let one : more.0 ≡ gone.0 = cc in
          let step : more.0.next ≡ next = ap (λ (x : Edge). x.next) one in
          subst (λ (l : ℕ). Linked rows.edges l j) (step ∙ sym (head_at i e)) more.2)
    ]
    | inr n ↦ subst (λ (l : ℕ). Linked rows.edges l j) (sym (head_else i n)) h
  ]

  pub first_unlinked : Spares store rows (record { heads = heads_new; since = rows.since; edges = rows.edges })
  first_unlinked = record {
    linked = new_first;
    heads = length-set rows.heads place next;
    since = refl;
    edges = refl;
    rows = λ q us right. record {
      sound = λ i j used at is. right.sound i j used at (record { edge = is.edge; at = is.at; linked = first_from i j is.linked; user = is.user; present = is.present });
      complete = λ i used at has.
          let e = right.complete i used at has in
          let is = e.1 in
          (e.0, record { edge = is.edge; at = is.at; linked = first_kept i e.0 (counts rows k gone q i e.0 is) is.linked; user = is.user; present = is.present });
    };
  }
    where
      counts : (rows : Rows) (k : ℕ) → IsGone rows k → (q i j : ℕ) → IsEdge rows q i j → j ≡ k → ⊥
      counts rows k gone q i j is e =
          let both : Some is.edge ≡ Some gone.0 = sym is.at ∙ ap (slice_get rows.edges) e ∙ gone.1 in
          let one : is.edge ≡ gone.0 = cc in
          let user : gone.0.user ≡ q = sym (ap (λ (x : Edge). x.user) one) ∙ is.user in
          let begun : get_or rows.since gone.0.user 0 ≡ get_or rows.since q 0 = ap (λ (p : ℕ). get_or rows.since p 0) user in
          omega (arith, begun, gone.2, is.present, e)

-- an edge that counts is another than one that doesn't
counting : (rows : Rows) (k : ℕ) → IsGone rows k → (q i j : ℕ) → IsEdge rows q i j → j ≡ k → ⊥
counting rows k gone q i j is e =
    let both : Some is.edge ≡ Some gone.0 = sym is.at ∙ ap (slice_get rows.edges) e ∙ gone.1 in
    let one : is.edge ≡ gone.0 = cc in
    let user : gone.0.user ≡ q = sym (ap (λ (x : Edge). x.user) one) ∙ is.user in
    let begun : get_or rows.since gone.0.user 0 ≡ get_or rows.since q 0 = ap (λ (p : ℕ). get_or rows.since p 0) user in
    omega (arith, begun, gone.2, is.present, e)

-- ---- an edge that another edge links to

module _ (store : List Entity) (rows : Rows) (k newer : ℕ) (edge : Edge) (linked : AreLinked (length store) rows) (gone : IsGone rows k)
    (at_newer : slice_get rows.edges newer ≡ Some edge) (links : edge.next ≡ suc k) where
  abbrev edge_new : Edge
  edge_new = record { user = edge.user; next = gone.0.next }

  abbrev edges_new : List Edge
  edges_new = set rows.edges newer edge_new

  before : k < newer
  before = omega (arith, linked.back newer edge at_newer, links)

  down : gone.0.next ≤ k
  down = linked.back k gone.0 gone.1

  -- an edge of the new list is one of the old, or the one that was set
  edge_cases : (m : ℕ) (x : Edge) → slice_get edges_new m ≡ Some x → ((m ≡ newer) × (edge_new ≡ x)) ⊎ ((m ≡ newer → ⊥) × (slice_get rows.edges m ≡ Some x))
  edge_cases m x h = elim (same_or_not m newer) [
    | inl e ↦ (let both : Some edge_new ≡ Some x = sym (got_set rows.edges newer edge_new edge at_newer) ∙ ap (slice_get edges_new) (sym e) ∙ h in inl (e, (let f : edge_new ≡ x = cc in f)))
    | inr n ↦ inr (n, sym (got_else rows.edges newer m edge_new n) ∙ h)
  ]

  new_behind : AreLinked (length store) (record { heads = rows.heads; since = rows.since; edges = edges_new })
  new_behind = record {
    back = λ m x h. elim (edge_cases m x h) [
      | inl new ↦ (let f : gone.0.next ≡ x.next = ap (λ (y : Edge). y.next) new.1 in omega (arith, f, down, before, new.0))
      | inr old ↦ linked.back m x old.1
    ];
    users = λ m x h. elim (edge_cases m x h) [
      | inl new ↦ (let f : edge.user ≡ x.user = ap (λ (y : Edge). y.user) new.1 in omega (arith, f, linked.users newer edge at_newer))
      | inr old ↦ linked.users m x old.1
    ];
    ends = λ i. omega (arith, linked.ends i, length-set rows.edges newer edge_new);
    begun = λ i. omega (arith, linked.begun i, length-set rows.edges newer edge_new);
    free = linked.free;
  }

  behind_from : (h j : ℕ) → Linked edges_new h j → Linked rows.edges h j
  behind_from _ _ (here m) = here m
  behind_from _ j (further m _ x at more) = by (edge_cases m x at) (behind_from x.next j more)
    where
      by : ((m ≡ newer) × (edge_new ≡ x)) ⊎ ((m ≡ newer → ⊥) × (slice_get rows.edges m ≡ Some x)) → Linked rows.edges x.next j → Linked rows.edges (suc m) j
      by (inl new) rest =
          let f : x.next ≡ gone.0.next = sym (ap (λ (y : Edge). y.next) new.1) in
          let through : Linked rows.edges edge.next j = subst (λ (l : ℕ). Linked rows.edges l j) (sym links) (further k j gone.0 gone.1 (subst (λ (l : ℕ). Linked rows.edges l j) f rest)) in
          subst (λ (l : ℕ). Linked rows.edges (suc l) j) (sym new.0) (further newer j edge at_newer through)
      by (inr old) rest = further m j x old.1 rest

  behind_kept : (fuel h j : ℕ) → h ≤ fuel → (j ≡ k → ⊥) → Linked rows.edges h j → Linked edges_new h j
  behind_kept fuel _ _ le other (here m) = here m
  behind_kept zero _ j le other (further m _ x at more) = absurd (omega (arith, le))
  behind_kept (suc fuel) _ j le other (further m _ x at more) = by (same_or_not m newer) (λ (l : ℕ) (low : l ≤ m) (rest : Linked rows.edges l j). behind_kept fuel l j (omega (arith, low, le)) other rest)
    where
      through : m ≡ newer → ((l : ℕ) → l ≤ m → Linked rows.edges l j → Linked edges_new l j) → (j ≡ k) ⊎ ((y : Edge) × (slice_get rows.edges k ≡ Some y) × Linked rows.edges y.next j) → Linked edges_new (suc m) j
      through e rec (inl is) = absurd (other is)
      through e rec (inr (y, is, rest)) =
          let both : Some y ≡ Some gone.0 = sym is ∙ gone.1 in
          let one : y ≡ gone.0 = cc in
          let step : y.next ≡ gone.0.next = ap (λ (z : Edge). z.next) one in
          subst (λ (l : ℕ). Linked edges_new (suc l) j) (sym e)
          (further newer j edge_new (got_set rows.edges newer edge_new edge at_newer) (rec gone.0.next (omega (arith, down, before, e)) (subst (λ (l : ℕ). Linked rows.edges l j) step rest)))

      by : (m ≡ newer) ⊎ (m ≡ newer → ⊥) → ((l : ℕ) → l ≤ m → Linked rows.edges l j → Linked edges_new l j) → Linked edges_new (suc m) j
      by (inl e) rec =
          let both : Some x ≡ Some edge = sym at ∙ ap (slice_get rows.edges) e ∙ at_newer in
          let one : x ≡ edge = cc in
          let step : x.next ≡ suc k = ap (λ (z : Edge). z.next) one ∙ links in
          through e rec (link_cases rows.edges k x.next j step more)
      by (inr n) rec = further m j x (got_else rows.edges newer m edge_new n ∙ at) (rec x.next (linked.back m x at) more)

  -- the edge at an index, and that of the new list
  edge_set : (m : ℕ) (x : Edge) → slice_get rows.edges m ≡ Some x → (y : Edge) × (slice_get edges_new m ≡ Some y) × (y.user ≡ x.user)
  edge_set m x h = elim (same_or_not m newer) [
    | inl e ↦ (let both : Some x ≡ Some edge = sym h ∙ ap (slice_get rows.edges) e ∙ at_newer in
        let one : x ≡ edge = cc in
        (edge_new, ap (slice_get edges_new) e ∙ got_set rows.edges newer edge_new edge at_newer, sym (ap (λ (z : Edge). z.user) one)))
    | inr n ↦ (x, got_else rows.edges newer m edge_new n ∙ h, refl)
  ]

  edge_was : (m : ℕ) (x : Edge) → slice_get edges_new m ≡ Some x → (y : Edge) × (slice_get rows.edges m ≡ Some y) × (y.user ≡ x.user)
  edge_was m x h = elim (edge_cases m x h) [
    | inl new ↦ (edge, ap (slice_get rows.edges) new.0 ∙ at_newer, ap (λ (z : Edge). z.user) new.1)
    | inr old ↦ (x, old.1, refl)
  ]

  pub behind_unlinked : Spares store rows (record { heads = rows.heads; since = rows.since; edges = edges_new })
  behind_unlinked = record {
    linked = new_behind;
    heads = refl;
    since = refl;
    edges = length-set rows.edges newer edge_new;
    rows = λ q us right. record {
      sound = λ i j used at is.
          let was = edge_was j is.edge is.at in
          right.sound i j used at (record { edge = was.0; at = was.1; linked = behind_from (get_or rows.heads i 0) j is.linked; user = was.2 ∙ is.user; present = is.present });
      complete = λ i used at has.
          let e = right.complete i used at has in
          let is = e.1 in
          let now = edge_set e.0 is.edge is.at in
          (e.0, record { edge = now.0; at = now.1; linked = behind_kept (get_or rows.heads i 0) (get_or rows.heads i 0) e.0 (omega arith) (counting rows k gone q i e.0 is) is.linked; user = now.2 ∙ is.user; present = is.present });
    };
  }

-- ---- a row begun anew

pub row_spared : (store : List Entity) (a b d : Rows) (p : ℕ) → SetsRow store a b p [] → Spares store b d → SetsRow store a d p []
row_spared store a b d p begun spares = record {
  linked = spares.linked;
  heads = spares.heads ∙ begun.heads;
  since = ap (λ (l : List ℕ). length l) spares.since ∙ begun.since;
  own = spares.rows p [] begun.own;
  others = λ q used other right. spares.rows q used (begun.others q used other right);
}

-- the newest edge of an entity is of a user and counts
pub newest : (rows : Rows) (user place link k : ℕ) (edge : Edge) → link ≡ suc k → get_or rows.heads place 0 ≡ link → slice_get rows.edges k ≡ Some edge → edge.user ≡ user
    → get_or rows.since user 0 < link → IsEdge rows user place k
newest rows user place link k edge is head at of lt = record {
  edge = edge;
  at = at;
  linked = subst (λ (l : ℕ). Linked rows.edges l k) (sym (head ∙ is)) (here k);
  user = of;
  present = omega (arith, lt, is);
}

-- what is read at an index is the element there
pub same_read : {A : Type 0} (xs : List A) (i : ℕ) (x y : A) → slice_get xs i ≡ Some x → slice_get xs i ≡ Some y → x ≡ y
same_read xs i x y p q = let both : Some x ≡ Some y = sym p ∙ q in (let f : x ≡ y = cc in f)
