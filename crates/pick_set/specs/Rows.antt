-- The picks of all nodes in slots of two arrays.
use Rattle.std.specs.Prelude.{◌≡◌, ◌<◌, ◌≤◌, ◌+◌, ℕ, List, map, length, take, drop, get_or, slice_index}
use Rattle.pick_set.specs.Picks.{IsLeastLeft}
use Rattle.pick_set.specs.declared.row.Row.{Row}

-- what is kept of no node
abbrev pub no_row : Row
no_row = record { base = 0; room = 0; count = 0; next = 0 }

-- the row of the node at a place
abbrev pub row_at : List Row → ℕ → Row
row_at rows p = get_or rows p no_row

-- so many items from one on
abbrev pub window : ℕ → ℕ → List ℕ → List ℕ
window from many items = take many (drop from items)

-- the picks of a node, in the order in which they were made
abbrev pub picks_of : Row → List ℕ → List ℕ
picks_of row order = window row.base row.count order

-- those of each node
abbrev pub made_by : List Row → List ℕ → List (List ℕ)
made_by rows order = map (λ row. picks_of row order) rows

-- how many elements each node has
abbrev pub rooms_of : List Row → List ℕ
rooms_of rows = map (λ (row : Row). row.room) rows

-- a node has slots for all its elements, each of its picks is of one of these, stands once, and its spot says where
pub record IsSparse (row : Row) (order spot : List ℕ) : Type 0 where
  pub order_room : row.base + row.room ≤ length order
  pub spot_room : row.base + row.room ≤ length spot
  pub few : row.count ≤ row.room
  pub below : (i : ℕ) → i < row.count → slice_index order (row.base + i) < row.room
  pub found : (i : ℕ) → i < row.count → slice_index spot (row.base + slice_index order (row.base + i)) ≡ i

-- the slots of the nodes lie behind each other
abbrev pub AreApart : List Row → Type 0
AreApart rows = (p q : ℕ) → p < q → q < length rows → (row_at rows p).base + (row_at rows p).room ≤ (row_at rows q).base

-- so it is of each node, and its next is the least that is left
pub record AreSparse (rows : List Row) (order spot : List ℕ) : Type 0 where
  pub sparse : (p : ℕ) → p < length rows → IsSparse (row_at rows p) order spot
  pub least : (p : ℕ) → p < length rows → IsLeastLeft (row_at rows p).room (picks_of (row_at rows p) order) (row_at rows p).next
  pub apart : AreApart rows

-- a row without picks for each node, whose slots lie behind each other, so many in all
pub record AreLaidOut (rooms : List ℕ) (rows : List Row) (slots : ℕ) : Type 0 where
  pub rooms_are : rooms_of rows ≡ rooms
  pub within : (p : ℕ) → p < length rows → (row_at rows p).base + (row_at rows p).room ≤ slots
  pub blank : (p : ℕ) → p < length rows → ((row_at rows p).count ≡ 0) × ((row_at rows p).next ≡ 0)
  pub apart : AreApart rows
