-- A row that is read, and written with one pick more or with none.
use Rattle.std.specs.Prelude.{◌≡◌, ◌<◌, ◌≤◌, ◌+◌, ℕ, true, false, List, [], ◌∷◌, ◌++◌, length, get_or, set, slice_index}
use Rattle.std.proofs.Common.{refl, sym, ◌∙◌, ap, subst}
use Rattle.std.proofs.lemmas.List.{get_or_read, length-map}
use Rattle.pick_set.specs.Picks.{PicksMade, is_picked, made_at, IsLeastLeft}
use Rattle.pick_set.specs.Rows.{no_row, row_at, picks_of, made_by, rooms_of, IsSparse, AreSparse}
use Rattle.pick_set.specs.declared.row.Row.{Row}
use Rattle.pick_set.proofs.AddLemmas.{more, more_order, more_spot, emptied, less, more_sparse, more_before, added, added_made, same_rooms, made_is, room_is, cleared, cleared_made}

-- the row with one pick more, where the least that is left is this
abbrev pub stepped : Row → ℕ → Row
stepped row next = record { base = row.base; room = row.room; count = row.count + 1; next = next }

-- what holds while a pick of the node at p is written, whose row is this
pub record Adds (rows : List Row) (order spot : List ℕ) (v : PicksMade) (p k : ℕ) (row : Row) : Type 0 where
  pub few : row.count < row.room
  pub within : k < row.room
  pub order_room : row.base + row.room ≤ length order
  pub spot_room : row.base + row.room ≤ length spot
  pub sparse : IsSparse (more row) (more_order row k order) (more_spot row k spot)
  pub next_within : row.next ≤ row.room
  pub before : (j : ℕ) → j < row.next → is_picked (picks_of (more row) (more_order row k order)) j ≡ true
  pub made : (n : ℕ) → made_by (set rows p (stepped row n)) (more_order row k order) ≡ set v.made p (made_at v.made p ++ k ∷ [])
  pub rooms : (n : ℕ) → rooms_of (set rows p (stepped row n)) ≡ v.rooms
  pub all : (n : ℕ) → IsLeastLeft row.room (picks_of (more row) (more_order row k order)) n → AreSparse (set rows p (stepped row n)) (more_order row k order) (more_spot row k spot)

abbrev pub shown : List Row → List ℕ → PicksMade
shown rows order = record { made = made_by rows order; rooms = rooms_of rows }

pub within_rows : (rows : List Row) (order : List ℕ) (v : PicksMade) (p : ℕ) → shown rows order ≡ v → p < length v.made → p < length rows
within_rows rows order v p e h =
    let there : p < length (made_by rows order) = subst (λ (w : PicksMade). p < length w.made) (sym e) h in
    subst (λ (n : ℕ). p < n) (length-map rows (λ row. picks_of row order)) there

pub adds : (rows : List Row) (order spot : List ℕ) (v : PicksMade) (p k : ℕ) (row : Row) → AreSparse rows order spot → shown rows order ≡ v → p < length v.made → k < slice_index v.rooms p → is_picked (made_at v.made p) k ≡ false → row ≡ get_or rows p row → Adds rows order spot v p k row
adds rows order spot v p k row s e there within left read =
    let h = within_rows rows order v p e there in
    let is = get_or_read rows p row h read no_row in
    let l : k < (row_at rows p).room = subst (λ (m : ℕ). k < m) (ap (λ (w : PicksMade). slice_index w.rooms p) (sym e) ∙ room_is rows p h) within in
    let n : is_picked (picks_of (row_at rows p) order) k ≡ false = ap (λ (ks : List ℕ). is_picked ks k) (sym (made_is rows order p h)) ∙ (ap (λ (w : PicksMade). is_picked (made_at w.made p) k) e ∙ left) in
    subst (λ (r : Row). Adds rows order spot v p k r) (sym is) (own h l n)
  where
    own : p < length rows → k < (row_at rows p).room → is_picked (picks_of (row_at rows p) order) k ≡ false → Adds rows order spot v p k (row_at rows p)
    own h l n =
        let r = row_at rows p in
        let was = s.sparse p h in
        record {
          few = less r order spot k was l n;
          within = l;
          order_room = was.order_room;
          spot_room = was.spot_room;
          sparse = more_sparse r order spot k was l n;
          next_within = (s.least p h).within;
          before = more_before r order spot k was l n r.next (s.least p h).before;
          made = λ m. added_made rows order spot p k s h l n (stepped r m) refl ∙ ap (λ (w : PicksMade). set w.made p (made_at w.made p ++ k ∷ [])) e;
          rooms = λ m. same_rooms rows p (stepped r m) h refl ∙ ap (λ (w : PicksMade). w.rooms) e;
          all = λ m least. added rows order spot p k s h l n (stepped r m) refl least;
        }

-- the same where its picks are forgotten
pub record Clears (rows : List Row) (order spot : List ℕ) (v : PicksMade) (p : ℕ) (row : Row) : Type 0 where
  pub made : made_by (set rows p (emptied row)) order ≡ set v.made p []
  pub rooms : rooms_of (set rows p (emptied row)) ≡ v.rooms
  pub all : AreSparse (set rows p (emptied row)) order spot

pub clears : (rows : List Row) (order spot : List ℕ) (v : PicksMade) (p : ℕ) (row : Row) → AreSparse rows order spot → shown rows order ≡ v → p < length v.made → row ≡ get_or rows p row → Clears rows order spot v p row
clears rows order spot v p row s e there read =
    let h = within_rows rows order v p e there in
    let is = get_or_read rows p row h read no_row in
    subst (λ (r : Row). Clears rows order spot v p r) (sym is)
    (record {
      made = cleared_made rows order p ∙ ap (λ (w : PicksMade). set w.made p []) e;
      rooms = same_rooms rows p (emptied (row_at rows p)) h refl ∙ ap (λ (w : PicksMade). w.rooms) e;
      all = cleared rows order spot p s h;
    })
