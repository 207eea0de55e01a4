-- Where a run goes on when a node is over, with the executables that are opened there: a fact of the tree.
use Rattle.std.specs.Prelude.{ℕ, Bool, true, false, ◌==◌, if◌then◌else◌, List, [], ◌∷◌, ◌++◌}
use Rattle.exec_tree.specs.Exec.{Exec, Work, Leaf, Plan, Par, NonSeq, Sel, If, While, Execs, None_left, Then, nodes, has, count}
use Rattle.trace_law.specs.Next.{next}
use Rattle.trace_law.specs.Frames.{is_shared}
use Rattle.trace_law.specs.Leading.{has_none, leads}
use Rattle.trace_law.specs.After.{After}
use Rattle.trace_law.specs.After as after
use Rattle.tree_table.specs.Within.{is_number}

-- the run is done; this executable is opened; a parallel has one element less; a non-sequential picks on, or is over; a while tests again
pub data Onward : Type 0 where
  Done : Onward
  Opens : Exec → Onward
  Joins : ℕ → Onward → Onward
  PicksOn : ℕ → ℕ → Onward → Onward
  TestsAgain : ℕ → Onward

-- the same, with the nodes that come in in place of the executable that is opened
abbrev pub coming_in : Onward → After
coming_in Done = after.Done
coming_in (Opens e) = after.Opens (next e [])
coming_in (Joins n k) = after.Joins n (coming_in k)
coming_in (PicksOn n total k) = after.PicksOn n total (coming_in k)
coming_in (TestsAgain n) = after.TestsAgain n

-- the first of these elements that has something to do is opened, where one has
abbrev pub opens_first : Execs → Onward → Onward
opens_first None_left k = k
opens_first (Then e es) k = if has_none (next e []) then opens_first es k else Opens (leads e)

-- a parallel has one element less, where it is counted
abbrev pub joins_where : Bool → ℕ → Onward → Onward
joins_where true n k = Joins n k
joins_where false n k = k

-- where the run goes on when node m of e is over, and goes on at k where e is
abbrev mutual
  pub onward : Exec → Onward → ℕ → Onward
  onward (Work n) k m = k
  onward (Leaf n l) k m = k
  onward (Plan n es) k m = if is_number n m then k else onward_in_order es k m
  onward (Par n es) k m = if n == m then k else onward_among es (joins_where (is_shared es) n k) m
  onward (NonSeq n es) k m = if n == m then k else onward_among es (PicksOn n (count es) k) m
  onward (Sel n es) k m = if n == m then k else onward_among es k m
  onward (If n a b) k m = if n == m then k else (if has (nodes a) m then onward a k m else onward b k m)
  onward (While n a) k m = if n == m then k else onward a (TestsAgain n) m

  -- each element goes on at the first of those behind it that has something to do
  pub onward_in_order : Execs → Onward → ℕ → Onward
  onward_in_order None_left k m = Done
  onward_in_order (Then e es) k m = if has (nodes e) m then onward e (opens_first es k) m else onward_in_order es k m

  pub onward_among : Execs → Onward → ℕ → Onward
  onward_among None_left k m = Done
  onward_among (Then e es) k m = if has (nodes e) m then onward e k m else onward_among es k m

-- the nodes that have entries: all but workplans and parallels
abbrev mutual
  pub acting : Exec → List ℕ
  acting (Work n) = n ∷ []
  acting (Leaf n k) = n ∷ []
  acting (Plan n es) = acting_all es
  acting (Par n es) = acting_all es
  acting (NonSeq n es) = n ∷ acting_all es
  acting (Sel n es) = n ∷ acting_all es
  acting (If n a b) = n ∷ (acting a ++ acting b)
  acting (While n a) = n ∷ acting a

  pub acting_all : Execs → List ℕ
  acting_all None_left = []
  acting_all (Then e es) = acting e ++ acting_all es
