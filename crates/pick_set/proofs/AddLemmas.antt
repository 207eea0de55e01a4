-- A pick that is made, and picks that are forgotten.
use Rattle.std.specs.Prelude.{◌≡◌, ◌⊎◌, ◌<◌, ◌≤◌, ◌+◌, ◌==◌, ◌||◌, ℕ, Bool, true, false, List, [], ◌∷◌, ◌++◌, length, set, slice_index}
use Rattle.std.proofs.Common.{refl, sym, ◌∙◌, ap, subst, inl, inr, arith}
use Rattle.std.proofs.lemmas.List.{get_or-set_same, get_or-set_other, get_or-map, map-set, set-get_or, length-set}
use Rattle.std.proofs.lemmas.Bool.{cases_lt, cases_eq}
use Rattle.pick_set.specs.Picks.{is_picked, made_at, IsLeastLeft}
use Rattle.pick_set.specs.Rows.{no_row, row_at, picks_of, made_by, rooms_of, IsSparse, AreSparse, AreApart}
use Rattle.pick_set.specs.declared.row.Row.{Row}
use Rattle.pick_set.proofs.ListLemmas.{not_picked_at, picked_more, window_more, window_before, window_behind, set_alike}
use Rattle.pick_set.proofs.SparseLemmas.{as_many, pick_at, room_left}

-- ---- one node's row

-- with one pick more
abbrev pub more : Row → Row
more row = record { base = row.base; room = row.room; count = row.count + 1; next = row.next }

abbrev pub more_order : Row → ℕ → List ℕ → List ℕ
more_order row k order = set order (row.base + row.count) k

abbrev pub more_spot : Row → ℕ → List ℕ → List ℕ
more_spot row k spot = set spot (row.base + k) row.count

-- without picks
abbrev pub emptied : Row → Row
emptied row = record { base = row.base; room = row.room; count = 0; next = 0 }

module _ (row : Row) (order spot : List ℕ) (k : ℕ) (s : IsSparse row order spot) (l : k < row.room) (n : is_picked (picks_of row order) k ≡ false) where
  pub less : row.count < row.room
  less = room_left row order spot k s l n

  pub more_picks : picks_of (more row) (more_order row k order) ≡ picks_of row order ++ k ∷ []
  more_picks = window_more row.base row.count k order (let r = s.order_room in let f = less in omega arith)

  other_kept : (i : ℕ) → i < row.count → slice_index (more_order row k order) (row.base + i) ≡ slice_index order (row.base + i)
  other_kept i h = get_or-set_other order (row.base + row.count) (row.base + i) k 0 (λ e. omega (arith, e, h))

  own_order : slice_index (more_order row k order) (row.base + row.count) ≡ k
  own_order = get_or-set_same order (row.base + row.count) k 0 (let r = s.order_room in let f = less in omega arith)

  own_spot : slice_index (more_spot row k spot) (row.base + k) ≡ row.count
  own_spot = get_or-set_same spot (row.base + k) row.count 0 (let r = s.spot_room in omega (arith, l, r))

  not_it : (i : ℕ) → i < row.count → slice_index order (row.base + i) ≡ k → ⊥
  not_it i h e = not_picked_at (picks_of row order) k i n (let m = as_many row order spot s in omega arith) (pick_at row order spot i s h ∙ e)

  pub more_sparse : IsSparse (more row) (more_order row k order) (more_spot row k spot)
  more_sparse = record {
    order_room = (let r = s.order_room in let g = length-set order (row.base + row.count) k in omega arith);
    spot_room = (let r = s.spot_room in let g = length-set spot (row.base + k) row.count in omega arith);
    few = (let f = less in omega arith);
    below = λ i h. elim (cases_lt i row.count) [
      | inl j ↦ subst (λ (m : ℕ). m < row.room) (sym (other_kept i j)) (s.below i j)
      | inr j ↦
          let is : i ≡ row.count = omega (arith, h, j) in
          subst (λ (m : ℕ). m < row.room) (sym (ap (λ (m : ℕ). slice_index (more_order row k order) (row.base + m)) is ∙ own_order)) l
    ];
    found = λ i h. elim (cases_lt i row.count) [
      | inl j ↦
          ap (λ (m : ℕ). slice_index (more_spot row k spot) (row.base + m)) (other_kept i j)
          ∙ (get_or-set_other spot (row.base + k) (row.base + slice_index order (row.base + i)) row.count 0 (λ e. not_it i j (omega (arith, e))) ∙ s.found i j)
      | inr j ↦
          let is : i ≡ row.count = omega (arith, h, j) in
          ap (λ (m : ℕ). slice_index (more_spot row k spot) (row.base + m)) (ap (λ (m : ℕ). slice_index (more_order row k order) (row.base + m)) is ∙ own_order) ∙ (own_spot ∙ sym is)
    ];
  }

  pub more_before : (from : ℕ) → ((j : ℕ) → j < from → is_picked (picks_of row order) j ≡ true) → (j : ℕ) → j < from → is_picked (picks_of (more row) (more_order row k order)) j ≡ true
  more_before from h j g =
      ap (λ (ks : List ℕ). is_picked ks j) more_picks
      ∙ (picked_more (picks_of row order) k j ∙ ap (λ (b : Bool). b || (k == j)) (h j g))

-- the slots of another node lie apart, so it keeps what it has
module _ (row other : Row) (order spot : List ℕ) (k : ℕ) (s : IsSparse row order spot) (l : k < row.room) (f : row.count < row.room) (o : IsSparse other order spot) (apart : (other.base + other.room ≤ row.base) ⊎ (row.base + row.room ≤ other.base)) where
  elsewhere : (i j : ℕ) → i < other.room → j < row.room → other.base + i ≡ row.base + j → ⊥
  elsewhere i j h g e = elim apart [ inl a ↦ omega (arith, a, e, h) | inr a ↦ omega (arith, a, e, g) ]

  pub other_picks : picks_of other (more_order row k order) ≡ picks_of other order
  other_picks =
      let few = o.few in
      elim apart [
        | inl a ↦ window_behind other.base other.count (row.base + row.count) k order (omega arith)
        | inr a ↦ window_before other.base other.count (row.base + row.count) k order (omega arith)
      ]

  same_order : (i : ℕ) → i < other.count → slice_index (more_order row k order) (other.base + i) ≡ slice_index order (other.base + i)
  same_order i h = get_or-set_other order (row.base + row.count) (other.base + i) k 0 (λ e. elsewhere i row.count (let few = o.few in omega arith) f e)

  pub other_sparse : IsSparse other (more_order row k order) (more_spot row k spot)
  other_sparse = record {
    order_room = (let r = o.order_room in let g = length-set order (row.base + row.count) k in omega arith);
    spot_room = (let r = o.spot_room in let g = length-set spot (row.base + k) row.count in omega arith);
    few = o.few;
    below = λ i h. subst (λ (m : ℕ). m < other.room) (sym (same_order i h)) (o.below i h);
    found = λ i h.
        ap (λ (m : ℕ). slice_index (more_spot row k spot) (other.base + m)) (same_order i h)
        ∙ (get_or-set_other spot (row.base + k) (other.base + slice_index order (other.base + i)) row.count 0 (λ e. elsewhere (slice_index order (other.base + i)) k (o.below i h) l e) ∙ o.found i h);
  }

-- ---- the rows of all nodes

row_set : (rows : List Row) (p : ℕ) (r : Row) → p < length rows → row_at (set rows p r) p ≡ r
row_set rows p r h = get_or-set_same rows p r no_row h

row_other : (rows : List Row) (p q : ℕ) (r : Row) → (q ≡ p → ⊥) → row_at (set rows p r) q ≡ row_at rows q
row_other rows p q r n = get_or-set_other rows p q r no_row n

each_set : (P : Row → Type 0) (rows : List Row) (p : ℕ) (r : Row) → p < length rows → P r → ((q : ℕ) → q < length rows → (q ≡ p → ⊥) → P (row_at rows q)) → (q : ℕ) → q < length (set rows p r) → P (row_at (set rows p r) q)
each_set P rows p r h own others q g =
    elim (cases_eq q p) [
      | inl e ↦ subst P (sym (ap (row_at (set rows p r)) e ∙ row_set rows p r h)) own
      | inr n ↦ subst P (sym (row_other rows p q r n)) (others q (let m = length-set rows p r in omega arith) n)
    ]

apart_set : (rows : List Row) (p : ℕ) (r : Row) → p < length rows → r.base ≡ (row_at rows p).base → r.room ≡ (row_at rows p).room → AreApart rows → AreApart (set rows p r)
apart_set rows p r h base room s i j l g =
    let i_base = same_base i in
    let i_room = same_room i in
    let j_base = same_base j in
    let before = s i j l (let m = length-set rows p r in omega arith) in
    omega (arith, i_base, i_room, j_base, before)
  where
    same_base : (q : ℕ) → (row_at (set rows p r) q).base ≡ (row_at rows q).base
    same_base q = elim (cases_eq q p) [
      | inl e ↦ ap (λ (m : ℕ). (row_at (set rows p r) m).base) e ∙ (ap (λ (w : Row). w.base) (row_set rows p r h) ∙ (base ∙ ap (λ (m : ℕ). (row_at rows m).base) (sym e)))
      | inr n ↦ ap (λ (w : Row). w.base) (row_other rows p q r n)
    ]

    same_room : (q : ℕ) → (row_at (set rows p r) q).room ≡ (row_at rows q).room
    same_room q = elim (cases_eq q p) [
      | inl e ↦ ap (λ (m : ℕ). (row_at (set rows p r) m).room) e ∙ (ap (λ (w : Row). w.room) (row_set rows p r h) ∙ (room ∙ ap (λ (m : ℕ). (row_at rows m).room) (sym e)))
      | inr n ↦ ap (λ (w : Row). w.room) (row_other rows p q r n)
    ]

pub same_rooms : (rows : List Row) (p : ℕ) (r : Row) → p < length rows → r.room ≡ (row_at rows p).room → rooms_of (set rows p r) ≡ rooms_of rows
same_rooms rows p r h e =
    map-set (λ (w : Row). w.room) rows p r
    ∙ (ap (λ (n : ℕ). set (rooms_of rows) p n) (e ∙ sym (get_or-map (λ (w : Row). w.room) rows p no_row 0 h)) ∙ set-get_or (rooms_of rows) p 0)

pub made_is : (rows : List Row) (order : List ℕ) (p : ℕ) → p < length rows → made_at (made_by rows order) p ≡ picks_of (row_at rows p) order
made_is rows order p h = get_or-map (λ row. picks_of row order) rows p no_row [] h

pub room_is : (rows : List Row) (p : ℕ) → p < length rows → slice_index (rooms_of rows) p ≡ (row_at rows p).room
room_is rows p h = get_or-map (λ (w : Row). w.room) rows p no_row 0 h

apart_by : (rows : List Row) (p q : ℕ) → AreApart rows → p < length rows → q < length rows → (q ≡ p → ⊥) → ((row_at rows q).base + (row_at rows q).room ≤ (row_at rows p).base) ⊎ ((row_at rows p).base + (row_at rows p).room ≤ (row_at rows q).base)
apart_by rows p q s h g n = elim (cases_lt q p) [ inl l ↦ inl (s q p l h) | inr l ↦ inr (s p q (differ q p l n) g) ]
  where
    differ : (a b : ℕ) → b ≤ a → (a ≡ b → ⊥) → b < a
    differ a b l n = elim (cases_lt b a) [ inl m ↦ m | inr m ↦ absurd (n (omega (arith, l, m))) ]

-- with one pick more of the node at p
module _ (rows : List Row) (order spot : List ℕ) (p k : ℕ) (s : AreSparse rows order spot) (h : p < length rows) (l : k < (row_at rows p).room) (n : is_picked (picks_of (row_at rows p) order) k ≡ false) where
  fits : (row_at rows p).count < (row_at rows p).room
  fits = less (row_at rows p) order spot k (s.sparse p h) l n

  apart_from : (q : ℕ) → q < length rows → (q ≡ p → ⊥) → ((row_at rows q).base + (row_at rows q).room ≤ (row_at rows p).base) ⊎ ((row_at rows p).base + (row_at rows p).room ≤ (row_at rows q).base)
  apart_from q g d = apart_by rows p q s.apart h g d

  kept_picks : (q : ℕ) → q < length rows → (q ≡ p → ⊥) → picks_of (row_at rows q) (more_order (row_at rows p) k order) ≡ picks_of (row_at rows q) order
  kept_picks q g d = other_picks (row_at rows p) (row_at rows q) order spot k (s.sparse p h) l fits (s.sparse q g) (apart_from q g d)

  pub added : (r : Row) → r ≡ record (more (row_at rows p)) { next = r.next } → IsLeastLeft (row_at rows p).room (picks_of (more (row_at rows p)) (more_order (row_at rows p) k order)) r.next
      → AreSparse (set rows p r) (more_order (row_at rows p) k order) (more_spot (row_at rows p) k spot)
  added r is least =
      let row = row_at rows p in
      let order' = more_order row k order in
      let spot' = more_spot row k spot in
      let m = more_sparse row order spot k (s.sparse p h) l n in
      record {
        sparse = each_set (λ w. IsSparse w order' spot') rows p r h
            (subst (λ (w : Row). IsSparse w order' spot') (sym is) (record { order_room = m.order_room; spot_room = m.spot_room; few = m.few; below = m.below; found = m.found }))
            (λ q g d. other_sparse row (row_at rows q) order spot k (s.sparse p h) l fits (s.sparse q g) (apart_from q g d));
        least = each_set (λ w. IsLeastLeft w.room (picks_of w order') w.next) rows p r h
            (subst (λ (w : Row). IsLeastLeft w.room (picks_of w order') r.next) (sym is) least)
            (λ q g d. subst (λ (ks : List ℕ). IsLeastLeft (row_at rows q).room ks (row_at rows q).next) (sym (kept_picks q g d)) (s.least q g));
        apart = apart_set rows p r h (ap (λ (w : Row). w.base) is) (ap (λ (w : Row). w.room) is) s.apart;
      }

  pub added_made : (r : Row) → r ≡ record (more (row_at rows p)) { next = r.next } → made_by (set rows p r) (more_order (row_at rows p) k order) ≡ set (made_by rows order) p (made_at (made_by rows order) p ++ k ∷ [])
  added_made r is =
      let row = row_at rows p in
      let order' = more_order row k order in
      map-set (λ w. picks_of w order') rows p r
      ∙ (set_alike (λ w. picks_of w order') (λ w. picks_of w order) no_row rows p (picks_of r order') kept_picks
      ∙ ap (λ (ks : List ℕ). set (made_by rows order) p ks)
      (ap (λ (w : Row). picks_of w order') is ∙ (more_picks row order spot k (s.sparse p h) l n ∙ ap (λ (ks : List ℕ). ks ++ k ∷ []) (sym (made_is rows order p h)))))

-- without those of the node at p
pub cleared : (rows : List Row) (order spot : List ℕ) (p : ℕ) → AreSparse rows order spot → p < length rows → AreSparse (set rows p (emptied (row_at rows p))) order spot
cleared rows order spot p s h =
    let row = row_at rows p in
    let was = s.sparse p h in
    record {
      sparse = each_set (λ w. IsSparse w order spot) rows p (emptied row) h
          (record { order_room = was.order_room; spot_room = was.spot_room; few = omega arith; below = λ i l. absurd (omega (arith, l)); found = λ i l. absurd (omega (arith, l)) })
          (λ q g d. s.sparse q g);
      least = each_set (λ w. IsLeastLeft w.room (picks_of w order) w.next) rows p (emptied row) h
          (record { within = omega arith; before = λ j l. absurd (omega (arith, l)); left = λ l. refl })
          (λ q g d. s.least q g);
      apart = apart_set rows p (emptied row) h refl refl s.apart;
    }

pub cleared_made : (rows : List Row) (order : List ℕ) (p : ℕ) → made_by (set rows p (emptied (row_at rows p))) order ≡ set (made_by rows order) p []
cleared_made rows order p = map-set (λ w. picks_of w order) rows p (emptied (row_at rows p))
