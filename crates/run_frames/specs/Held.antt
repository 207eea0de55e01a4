-- When frames and a set of places stand for the entries of a run, and what an entry of a node does to them. All are numbered by places.
use Rattle.std.specs.Prelude.{◌≡◌, ◌++◌, ◌∷◌, ℕ, Bool, true, false, List, [], length, slice_get, Some}
use Rattle.exec_tree.specs.Exec.{Exec, nodes, has}
use Rattle.exec_tree.specs.declared.kind.Kind.{Kind}
use Rattle.exec_tree.specs.declared.kind.Kind.TheVariants as kind
use Rattle.exec_tree.specs.declared.node.BareNode.{BareNode}
use Rattle.place_set.specs.Words.{holds}
use Rattle.trace_law.specs.Of.{number_of}
use Rattle.trace_law.specs.Next.{next}
use Rattle.trace_law.specs.Part.{Part}
use Rattle.trace_law.specs.Frames.{Stands}
use Rattle.trace_law.specs.Offer.{IsOffered}
use Rattle.frame_law.specs.Onward.{Done, onward, brings}
use Rattle.frame_law.specs.Way.{IsGone}
use Rattle.tree_table.specs.Placed.{placed}
use Rattle.run_log.specs.declared.entry.Entry.{Entry}
use Rattle.run_frames.specs.Frames.{cells_of, AreKeptBut}
use Rattle.run_frames.specs.Renaming.{entry_at}
use Rattle.run_frames.specs.OfferAt.{offer_there}
use Rattle.run_frames.specs.Entered.{AreUnpickedIn, ComeInFor}
use Rattle.trace_law.specs.Cells.{Cell}

-- the frames stand for t, a run of the tree so far, and the set has the places where it can go on
pub record IsHeld (arena : List BareNode) (frames : List Cell) (set : List ℕ) (t : List Entry) : Type 0 where
  pub part : Part (placed arena) t
  pub stands : Stands (cells_of frames) (placed arena) t
  pub unpicked : AreUnpickedIn arena frames
  pub room : length frames ≡ length arena
  pub goes_on : (q : ℕ) → holds set q ≡ has (next (placed arena) t) q

-- so they do, and the entry, as one of the node at place p, is what that node does next
pub record IsStep (arena : List BareNode) (frames : List Cell) (set : List ℕ) (t : List Entry) (p : ℕ) (x : Entry) : Type 0 where
  pub held : IsHeld arena frames set t
  pub part : Part (placed arena) (t ++ entry_at p x ∷ [])
  pub number : number_of (entry_at p x) ≡ Some p
  pub inside : has (nodes (placed arena)) p ≡ true
  pub is_next : has (next (placed arena) t) p ≡ true
  pub offered : IsOffered (offer_there (slice_get arena p) (cells_of frames p)) p (entry_at p x)

-- the kinds of leaves
abbrev pub IsLeafKind : Kind → Type 0
IsLeafKind kind.Assign = Unit {0}
IsLeafKind kind.Set = Unit {0}
IsLeafKind kind.Wait = Unit {0}
IsLeafKind kind.Note = Unit {0}
IsLeafKind _ = ⊥

-- the node at p has gone out, and the way on from it was gone
pub record HasClosed (arena : List BareNode) (old new : List Cell) (before after : List ℕ) (p : ℕ) : Type 0 where
  pub gone : IsGone (cells_of old) (onward (placed arena) Done p) (cells_of new)
  pub unpicked : AreUnpickedIn arena new
  pub long : length new ≡ length old
  pub came : ComeInFor before after p (brings (cells_of old) (onward (placed arena) Done p))

-- the node at p has gone out, and its element e was opened
pub record HasOpened (arena : List BareNode) (old new : List Cell) (before after : List ℕ) (p : ℕ) (e : Exec) : Type 0 where
  pub some : next e [] ≡ [] → ⊥
  pub stands : Stands (cells_of new) e []
  pub kept : AreKeptBut old new (nodes e)
  pub unpicked : AreUnpickedIn arena new
  pub long : length new ≡ length old
  pub came : ComeInFor before after p (next e [])

-- the element has nothing to do, and nothing has changed
pub record IsVoid (old new : List Cell) (before after : List ℕ) (e : Exec) : Type 0 where
  pub none : next e [] ≡ []
  pub stands : Stands (cells_of old) e []
  pub same : new ≡ old
  pub same_set : after ≡ before

-- one or the other
abbrev pub HasTried : List BareNode → List Cell → List Cell → List ℕ → List ℕ → ℕ → Exec → Bool → Type 0
HasTried arena old new before after p e true = HasOpened arena old new before after p e
HasTried arena old new before after p e false = IsVoid old new before after e
