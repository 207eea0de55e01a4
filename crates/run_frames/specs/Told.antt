-- The cells that frames stand for, with the picks that are kept beside them.
use Rattle.std.specs.Prelude.{ℕ, Bool, true, false, List, [], ◌∷◌, slice_get, unwrap_or, map, length, Option, Some, None}
use Rattle.exec_tree.specs.declared.kind.Kind.{Kind}
use Rattle.exec_tree.specs.declared.kind.Kind.TheVariants as kind
use Rattle.exec_tree.specs.declared.node.BareNode.{BareNode}
use Rattle.trace_law.specs.Cells.{Cell, Cutting, Going, Picked, AnsweredBy}
use Rattle.trace_law.specs.Cells as cells
use Rattle.run_frames.specs.declared.frame.Frame.{Frame}
use Rattle.run_frames.specs.declared.frame.Frame.TheVariants.{Starts, Cuts, Fresh, Over, Picks, Asks, Answered, Left}

-- of each node, by place, its cell, and how many of its elements can be picked
pub record NodeCells : Type 0 where
  pub cells : List Cell
  pub rooms : List ℕ

-- the cell that a frame stands for, where these are its picks
abbrev pub told : Frame → List ℕ → Cell
told Starts ks = Cutting None
told (Cuts k) ks = Cutting (Some k)
told Fresh ks = Going
told Over ks = cells.Over
told Picks ks = Picked ks
told Asks ks = AnsweredBy None
told (Answered b) ks = AnsweredBy (Some b)
told (Left k) ks = cells.Left k

-- those that the frames of all nodes stand for
abbrev pub told_all : List Frame → List (List ℕ) → List Cell
told_all [] made = []
told_all (f ∷ frames) [] = told f [] ∷ told_all frames []
told_all (f ∷ frames) (ks ∷ made) = told f ks ∷ told_all frames made

-- the frame at a place
abbrev pub frame_at : List Frame → ℕ → Frame
frame_at frames place = unwrap_or (slice_get frames place) Over

-- the blocks of a workingstep that is open
abbrev pub stage_in : Frame → Option ℕ
stage_in (Cuts k) = Some k
stage_in _ = None

-- how many elements of a parallel go on
abbrev pub left_in : Frame → ℕ
left_in (Left k) = k
left_in _ = 0

-- the node's elements are picked
abbrev pub is_picks : Frame → Bool
is_picks Picks = true
is_picks _ = false

-- how many elements of a node of this kind can be picked
abbrev pub room_in : Kind → ℕ → ℕ
room_in kind.NonSeq count = count
room_in kind.Sel count = count
room_in _ count = 0

-- the same of a node
abbrev pub room_of : BareNode → ℕ
room_of node = room_in node.kind (length node.elements)

-- the same of each node
abbrev pub rooms_of : List BareNode → List ℕ
rooms_of nodes = map room_of nodes
