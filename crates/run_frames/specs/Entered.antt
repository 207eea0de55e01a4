-- What opening by the table of a tree writes, and which places come in.
use Rattle.std.specs.Prelude.{◌≡◌, ◌||◌, ◌&&◌, ◌==◌, not, ℕ, List, [], length, slice_get, Some}
use Rattle.exec_tree.specs.Exec.{Exec, Execs, nodes, nodes_all, has}
use Rattle.exec_tree.specs.declared.kind.Kind.{Kind}
use Rattle.exec_tree.specs.declared.kind.Kind.TheVariants as kind
use Rattle.exec_tree.specs.declared.node.BareNode.{BareNode}
use Rattle.place_set.specs.Words.{holds}
use Rattle.trace_law.specs.Next.{next, next_each}
use Rattle.trace_law.specs.Frames.{Stands, StandsEach, going}
use Rattle.run_frames.specs.Frames.{cells_of, AreKeptBut}
use Rattle.trace_law.specs.Cells.{Cell, Picked}

-- each non-sequential without elements has no picks
abbrev pub AreUnpickedIn : List BareNode → List Cell → Type 0
AreUnpickedIn arena frames = (p : ℕ) (node : BareNode) → slice_get arena p ≡ Some node → node.kind ≡ kind.NonSeq → node.elements ≡ [] → cells_of frames p ≡ Picked []

-- the node at a place is of this kind, and has these elements
pub record IsNode (arena : List BareNode) (p : ℕ) (k : Kind) (elements : List ℕ) : Type 0 where
  pub node : BareNode
  pub at : slice_get arena p ≡ Some node
  pub kind_is : node.kind ≡ k
  pub elements_are : node.elements ≡ elements

-- these come into the set
abbrev pub ComeIn : List ℕ → List ℕ → List ℕ → Type 0
ComeIn before after ns = (q : ℕ) → holds after q ≡ (holds before q || has ns q)

-- the place is taken out of the set, and these come in
abbrev pub ComeInFor : List ℕ → List ℕ → ℕ → List ℕ → Type 0
ComeInFor before after p ns = (q : ℕ) → holds after q ≡ ((holds before q && not (q == p)) || has ns q)

-- the frames of f stand for no entry, no other has changed, and the places where f can go on have come in
pub record IsEntered (arena : List BareNode) (old new : List Cell) (before after : List ℕ) (f : Exec) : Type 0 where
  pub stands : Stands (cells_of new) f []
  pub kept : AreKeptBut old new (nodes f)
  pub unpicked : AreUnpickedIn arena new
  pub long : length new ≡ length old
  pub came : ComeIn before after (next f [])

-- the same of all these elements, of which so many go on
pub record AreEntered (arena : List BareNode) (old new : List Cell) (before after : List ℕ) (es : Execs) (number : ℕ) : Type 0 where
  pub stands : StandsEach (cells_of new) es []
  pub counted : number ≡ going es []
  pub kept : AreKeptBut old new (nodes_all es)
  pub unpicked : AreUnpickedIn arena new
  pub long : length new ≡ length old
  pub came : ComeIn before after (next_each es [])
