-- What is written on the way up from a node that is over.
use Rattle.std.specs.Prelude.{◌≡◌, ◌==◌, ◌+◌, ◌-◌, if◌then◌else◌, ℕ, false, List, [], ◌∷◌, ◌++◌, length, Option, Some, None}
use Rattle.exec_tree.specs.Exec.{Exec, Work, Leaf, Plan, Par, NonSeq, Sel, If, While, Execs, None_left, Then, nodes, nodes_all, has, AreDistinct}
use Rattle.trace_law.specs.Of.{number_of}
use Rattle.trace_law.specs.Part.{Part}
use Rattle.trace_law.specs.Cells.{Cell, Picked, Left, picked, next_by, WhereTrue}
use Rattle.trace_law.specs.Frames.{left, Stands, StandsInOrder, Goes}
use Rattle.run_log.specs.declared.entry.Entry.{Entry}
use Rattle.run_log.specs.declared.entry.Entry.TheVariants.{Dispatch, Block}
use Rattle.frame_law.specs.Onward.{Onward, Done, Opens, Joins, PicksOn, TestsAgain}

-- the cells of all other nodes are as they were
abbrev pub AreKeptBut : (ℕ → Cell) → (ℕ → Cell) → List ℕ → Type 0
AreKeptBut c c' ns = (q : ℕ) → has ns q ≡ false → c' q ≡ c q

-- the nodes whose cells may be written on the way from k on
abbrev pub touched : (ℕ → Cell) → Onward → List ℕ
touched c Done = []
touched c (Opens es) = nodes_all es
touched c (Joins n k) = n ∷ (if left (c n) == 1 then touched c k else [])
touched c (PicksOn n total k) = if length (picked (c n)) == total then touched c k else []
touched c (TestsAgain n) = []

-- the nodes that the way from k on may ask or write
abbrev pub along : Onward → List ℕ
along Done = []
along (Opens es) = nodes_all es
along (Joins n k) = n ∷ along k
along (PicksOn n total k) = n ∷ along k
along (TestsAgain n) = []

-- what is written there: a parallel has one element less, and where that was its last the way goes on; what is opened stands for no entry
abbrev pub Ran : (ℕ → Cell) → (ℕ → Cell) → Onward → Type 0
Ran c c' Done = Unit {0}
Ran c c' (Opens es) = StandsInOrder c' es []
Ran c c' (Joins n k) = (c' n ≡ Left (left (c n) - 1)) × WhereTrue (left (c n) == 1) (Ran c c' k) (Unit {0})
Ran c c' (PicksOn n total k) = WhereTrue (length (picked (c n)) == total) (Ran c c' k) (Unit {0})
Ran c c' (TestsAgain n) = Unit {0}

-- the way from k on was gone, and no cell but those that are written there has changed
pub record IsGone (c : ℕ → Cell) (k : Onward) (c' : ℕ → Cell) : Type 0 where
  pub ran : Ran c c' k
  pub kept : AreKeptBut c c' (touched c k)

-- by the entry x the executable f has gone from c to c', where it is over the way from k on was gone too, and no other cell is written
pub record Writes (c : ℕ → Cell) (f : Exec) (k : Onward) (x : Entry) (c' : ℕ → Cell) : Type 0 where
  pub goes : Goes c f x c'
  pub ran : next_by c' f ≡ [] → Ran c c' k
  pub kept : (q : ℕ) → has (nodes f) q ≡ false → (next_by c' f ≡ [] → has (touched c k) q ≡ false) → c' q ≡ c q

-- the frames c stand for t, a run of e so far, and the entry x, which is of node m, goes on from there
pub record Follows (c : ℕ → Cell) (e : Exec) (t : List Entry) (x : Entry) (m : ℕ) : Type 0 where
  pub distinct : AreDistinct (nodes e)
  pub part : Part e (t ++ x ∷ [])
  pub stands : Stands c e t
  pub number : number_of x ≡ Some m

-- each non-sequential without elements has no picks
abbrev mutual
  pub AreUnpicked : (ℕ → Cell) → Exec → Type 0
  AreUnpicked c (Work n) = Unit {0}
  AreUnpicked c (Leaf n k) = Unit {0}
  AreUnpicked c (Plan n es) = AreUnpickedAll c es
  AreUnpicked c (Par n es) = AreUnpickedAll c es
  AreUnpicked c (NonSeq n None_left) = c n ≡ Picked []
  AreUnpicked c (NonSeq n (Then e es)) = AreUnpicked c e × AreUnpickedAll c es
  AreUnpicked c (Sel n es) = AreUnpickedAll c es
  AreUnpicked c (If n a b) = AreUnpicked c a × AreUnpicked c b
  AreUnpicked c (While n a) = AreUnpicked c a

  -- the same of each of these elements
  pub AreUnpickedAll : (ℕ → Cell) → Execs → Type 0
  AreUnpickedAll c None_left = Unit {0}
  AreUnpickedAll c (Then e es) = AreUnpicked c e × AreUnpickedAll c es

-- the blocks that a workingstep has after an entry of it, where it isn't over
abbrev pub blocks_after : Entry → Option ℕ
blocks_after (Dispatch n v) = Some 0
blocks_after (Block n k b) = Some (k + 1)
blocks_after _ = None
