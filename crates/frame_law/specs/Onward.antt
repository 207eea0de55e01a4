-- Where a run goes on when a node is over: a fact of the tree. As `after` of trace_law, but what is opened is said as elements, and it is said of plans and parallels too.
use Rattle.std.specs.Prelude.{◌==◌, if◌then◌else◌, ℕ, Bool, true, false, List, [], ◌∷◌, length}
use Rattle.exec_tree.specs.Exec.{Exec, Work, Leaf, Plan, Par, NonSeq, Sel, If, While, Execs, None_left, Then, nodes, has, number_or_none, count}
use Rattle.trace_law.specs.Next.{next_in_order}
use Rattle.trace_law.specs.Cells.{Cell, picked}
use Rattle.trace_law.specs.Frames.{is_shared, left}

-- the run is done; these elements are opened, in order; a parallel has one element less; a non-sequential picks on, or is over; a while tests again
pub data Onward : Type 0 where
  Done : Onward
  Opens : Execs → Onward
  Joins : ℕ → Onward → Onward
  PicksOn : ℕ → ℕ → Onward → Onward
  TestsAgain : ℕ → Onward

-- the elements that come after, where one of them has something to do
abbrev pub opened_or : List ℕ → Execs → Onward → Onward
opened_or [] es k = k
opened_or (n ∷ l) es k = Opens es

-- a parallel has one element less, where it is counted
abbrev pub joined_or : Bool → ℕ → Onward → Onward
joined_or true n k = Joins n k
joined_or false n k = k

-- where the run goes on when node m of e is over, and goes on at k where e is
abbrev mutual
  pub onward : Exec → Onward → ℕ → Onward
  onward (Work n) k m = k
  onward (Leaf n l) k m = k
  onward (Plan n es) k m = if has (number_or_none n) m then k else onward_in_order es k m
  onward (Par n es) k m = if n == m then k else onward_among es (joined_or (is_shared es) n k) m
  onward (NonSeq n es) k m = if n == m then k else onward_among es (PicksOn n (count es) k) m
  onward (Sel n es) k m = if n == m then k else onward_among es k m
  onward (If n a b) k m = if n == m then k else (if has (nodes a) m then onward a k m else onward b k m)
  onward (While n a) k m = if n == m then k else onward a (TestsAgain n) m

  -- after an element of a plan come those behind it
  pub onward_in_order : Execs → Onward → ℕ → Onward
  onward_in_order None_left k m = Done
  onward_in_order (Then e es) k m = if has (nodes e) m then onward e (opened_or (next_in_order es []) es k) m else onward_in_order es k m

  pub onward_among : Execs → Onward → ℕ → Onward
  onward_among None_left k m = Done
  onward_among (Then e es) k m = if has (nodes e) m then onward e k m else onward_among es k m

-- what comes in there
abbrev pub brings : (ℕ → Cell) → Onward → List ℕ
brings c Done = []
brings c (Opens es) = next_in_order es []
brings c (Joins n k) = if left (c n) == 1 then brings c k else []
brings c (PicksOn n total k) = if length (picked (c n)) == total then brings c k else n ∷ []
brings c (TestsAgain n) = n ∷ []
