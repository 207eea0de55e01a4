-- The index of direct users: for each entity of a store the entities that refer to it.
use Rattle.std.specs.Prelude.{◌≡◌, ◌↔◌, ◌⊎◌, ◌+◌, ◌<◌, ◌≤◌, ℕ, suc, List, [], ◌∷◌, ◌++◌, length, slice_get, slice_index, slice_index_or, slice_set, Option, Some, Contains}
use Rattle.entity_types.specs.declared.entity.Entity.{Entity}
use Rattle.entity_types.specs.Entity.{uses_of}
use Rattle.project_store.specs.Entities.{entity_at}
use Rattle.project_store.specs.Inserts.{uses_at}
use Rattle.project_store.specs.Put.{put_all}
use Rattle.project_versions.specs.declared.users.Edge.{Edge}
use Rattle.project_versions.specs.declared.users.Users.{Users}

-- what the index holds: for each entity, by its index in the store, the link to its newest edge, and how many edges there were when its
-- own row began; and the edges
pub record Rows : Type 0 where
  pub heads : List ℕ
  pub since : List ℕ
  pub edges : List Edge

abbrev pub rows_of : Users → Rows
rows_of users = record { heads = users.heads.items; since = users.since.items; edges = users.edges.items }

-- one comes from a link to the edge at index k. A link is 0, or one more than the index of an edge, which links on
pub data Linked (edges : List Edge) : ℕ → ℕ → Type 0 where
  here : (k : ℕ) → Linked edges (suc k) k
  further : (k j : ℕ) (edge : Edge) → slice_get edges k ≡ Some edge → Linked edges edge.next j → Linked edges (suc k) j

-- the edge at index k is in the row of the entity at index p, and linked from the head of that at index i. An edge that was there when
-- the row began is in it no more
pub record IsEdge (rows : Rows) (p i k : ℕ) : Type 0 where
  pub edge : Edge
  pub at : slice_get rows.edges k ≡ Some edge
  pub linked : Linked rows.edges (slice_index_or rows.heads i 0) k
  pub user : edge.user ≡ p
  pub present : slice_index_or rows.since p 0 ≤ k

-- the row of the entity at index p, which uses these numbers: its edges are linked from entities that it uses, and from each of them
pub record RowIsRight (store : List Entity) (rows : Rows) (p : ℕ) (us : List ℕ) : Type 0 where
  pub sound : (i k : ℕ) (used : Entity) → slice_get store i ≡ Some used → IsEdge rows p i k → Contains us used.number
  pub complete : (i : ℕ) (used : Entity) → slice_get store i ≡ Some used → Contains us used.number → (k : ℕ) × IsEdge rows p i k

-- each edge links back and is of one of so many entities, no head or row leads past the edges, and the heads of further entities are free
pub record AreLinked (count : ℕ) (rows : Rows) : Type 0 where
  pub back : (k : ℕ) (edge : Edge) → slice_get rows.edges k ≡ Some edge → edge.next ≤ k
  pub users : (k : ℕ) (edge : Edge) → slice_get rows.edges k ≡ Some edge → edge.user < count
  pub ends : (i : ℕ) → slice_index_or rows.heads i 0 ≤ length rows.edges
  pub begun : (i : ℕ) → slice_index_or rows.since i 0 ≤ length rows.edges
  pub free : (i : ℕ) → count ≤ i → slice_index_or rows.heads i 0 ≡ 0

-- the row of each entity of the store is right, where this is what it uses
abbrev pub RowsAreRight : List Entity → Rows → (ℕ → Option Entity) → Type 0
RowsAreRight store rows entities = (p : ℕ) (user : Entity) → slice_get store p ≡ Some user → RowIsRight store rows p (uses_at entities user.number)

-- the index is that of the store
pub record IsUserIndex (store : List Entity) (rows : Rows) : Type 0 where
  pub linked : AreLinked (length store) rows
  pub right : RowsAreRight store rows (entity_at store)

-- there are rows for so many entities
pub record HasRows (count : ℕ) (rows : Rows) : Type 0 where
  pub heads : count ≤ length rows.heads
  pub since : count ≤ length rows.since

-- the same rows, but that of the entity at index p has edges for these numbers more
pub record Links (store : List Entity) (old new : Rows) (p : ℕ) (us : List ℕ) : Type 0 where
  pub linked : AreLinked (length store) new
  pub heads : length new.heads ≡ length old.heads
  pub since : length new.since ≡ length old.since
  pub own : (before : List ℕ) → RowIsRight store old p before → RowIsRight store new p (before ++ us)
  pub others : (q : ℕ) (used : List ℕ) → (q ≡ p → ⊥) → RowIsRight store old q used → RowIsRight store new q used

-- the edge at index k is in its row no more
abbrev pub IsGone : Rows → ℕ → Type 0
IsGone rows k = (edge : Edge) × (slice_get rows.edges k ≡ Some edge) × (k < slice_index_or rows.since edge.user 0)

-- the same rows: each that was right is so still
pub record Spares (store : List Entity) (old new : Rows) : Type 0 where
  pub linked : AreLinked (length store) new
  pub heads : length new.heads ≡ length old.heads
  pub since : new.since ≡ old.since
  pub edges : length new.edges ≡ length old.edges
  pub rows : (q : ℕ) (us : List ℕ) → RowIsRight store old q us → RowIsRight store new q us

-- the same rows, but that of the entity at index p has edges for these numbers alone
pub record SetsRow (store : List Entity) (old new : Rows) (p : ℕ) (us : List ℕ) : Type 0 where
  pub linked : AreLinked (length store) new
  pub heads : length new.heads ≡ length old.heads
  pub since : length new.since ≡ length old.since
  pub own : RowIsRight store new p us
  pub others : (q : ℕ) (used : List ℕ) → (q ≡ p → ⊥) → RowIsRight store old q used → RowIsRight store new q used

-- the rows with these items put
pub record PutsRows (store : List Entity) (old new : Rows) (items : List Entity) : Type 0 where
  pub linked : AreLinked (length store) new
  pub heads : length new.heads ≡ length old.heads
  pub since : length new.since ≡ length old.since
  pub right : (entities : ℕ → Option Entity) → RowsAreRight store old entities → RowsAreRight store new (put_all entities items)

-- the rows with one edge more: the entity at index user uses that at index place
abbrev pub with_edge : Rows → ℕ → ℕ → Rows
with_edge rows place user = record {
  heads = slice_set rows.heads place (length rows.edges + 1);
  since = rows.since;
  edges = rows.edges ++ record { user = user; next = slice_index_or rows.heads place 0 } ∷ [];
}

-- how many references the entities have at used positions
abbrev pub uses_count : List Entity → ℕ
uses_count [] = 0
uses_count (entity ∷ entities) = length (uses_of entity) + uses_count entities

-- a set that keeps the order in which its members came, with these numbers put in
pub record Grown (old new put : List ℕ) : Type 0 where
  pub members : (n : ℕ) → Contains new n ↔ (Contains old n ⊎ Contains put n)
  pub kept : (k : ℕ) → k < length old → slice_index new k ≡ slice_index old k
  pub grows : length old ≤ length new

-- numbers put into a set: those of the entities that use a number
pub record AddsUsers (entities : ℕ → Option Entity) (number : ℕ) (old new : List ℕ) : Type 0 where
  pub users : List ℕ
  pub put : Grown old new users
  pub are : (n : ℕ) → Contains users n → Contains (uses_at entities n) number
  pub all : (n : ℕ) → Contains (uses_at entities n) number → Contains users n

-- the number is that of the user of a present edge, at index k
pub record IsUserAt (store : List Entity) (rows : Rows) (k n : ℕ) : Type 0 where
  pub edge : Edge
  pub user : Entity
  pub at : slice_get rows.edges k ≡ Some edge
  pub present : slice_index_or rows.since edge.user 0 ≤ k
  pub there : slice_get store edge.user ≡ Some user
  pub number : user.number ≡ n

-- numbers put into a set: that of the user of the edge at index k, where the edge is still in its row
pub record AddsEdge (store : List Entity) (rows : Rows) (k : ℕ) (old new : List ℕ) : Type 0 where
  pub users : List ℕ
  pub put : Grown old new users
  pub are : (n : ℕ) → Contains users n → IsUserAt store rows k n
  pub all : (n : ℕ) → IsUserAt store rows k n → Contains users n

-- numbers put into a set: those of the users of edges that are linked from head, and of all of them but those that are linked from link
pub record AddsLinked (store : List Entity) (rows : Rows) (head link : ℕ) (old new : List ℕ) : Type 0 where
  pub users : List ℕ
  pub put : Grown old new users
  pub back : (k : ℕ) → Linked rows.edges link k → Linked rows.edges head k
  pub are : (n : ℕ) → Contains users n → (k : ℕ) × Linked rows.edges head k × IsUserAt store rows k n
  pub all : (n k : ℕ) → Linked rows.edges head k → IsUserAt store rows k n → Contains users n ⊎ Linked rows.edges link k
