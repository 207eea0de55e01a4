-- Where a run goes on when a workingstep or a leaf is over: a fact of the tree, with what the frames tell left open.
use Rattle.std.specs.Prelude.{◌≡◌, ◌==◌, if◌then◌else◌, ℕ, Bool, true, false, List, [], ◌∷◌, ◌++◌, length, Some, None}
use Rattle.exec_tree.specs.Exec.{Exec, Work, Leaf, Plan, Par, NonSeq, Sel, If, While, Execs, None_left, Then, nodes, has, count}
use Rattle.trace_law.specs.Of.{number_of}
use Rattle.trace_law.specs.Next.{next_in_order}
use Rattle.trace_law.specs.Cells.{Cell, picked, stage_of}
use Rattle.trace_law.specs.State.{stage_step}
use Rattle.trace_law.specs.Frames.{is_shared, left}
use Rattle.run_log.specs.declared.entry.Entry.{Entry}
use Rattle.run_log.specs.declared.entry.Entry.TheVariants.{End, Assign, Set, Pass, Note}

-- the run is done; these nodes come in; a parallel has one element less; a non-sequential picks on, or is over; a while tests again
pub data After : Type 0 where
  Done : After
  Opens : List ℕ → After
  Joins : ℕ → After → After
  PicksOn : ℕ → ℕ → After → After
  TestsAgain : ℕ → After

-- what comes in
abbrev pub enters : (ℕ → Cell) → After → List ℕ
enters c Done = []
enters c (Opens l) = l
enters c (Joins n k) = if left (c n) == 1 then enters c k else []
enters c (PicksOn n count k) = if length (picked (c n)) == count then enters c k else n ∷ []
enters c (TestsAgain n) = n ∷ []

-- the elements that come after, where one of them has something to do
abbrev pub opens_or : List ℕ → After → After
opens_or [] k = k
opens_or (n ∷ l) k = Opens (n ∷ l)

-- a parallel has one element less, where it is counted
abbrev pub joins_or : Bool → ℕ → After → After
joins_or true n k = Joins n k
joins_or false n k = k

-- where the run goes on when node m of e is over, and goes on at k where e is
abbrev mutual
  pub after : Exec → After → ℕ → After
  after (Work n) k m = k
  after (Leaf n l) k m = k
  after (Plan n es) k m = after_in_order es k m
  after (Par n es) k m = after_among es (joins_or (is_shared es) n k) m
  after (NonSeq n es) k m = if n == m then k else after_among es (PicksOn n (count es) k) m
  after (Sel n es) k m = if n == m then k else after_among es k m
  after (If n a b) k m = if n == m then k else (if has (nodes a) m then after a k m else after b k m)
  after (While n a) k m = if n == m then k else after a (TestsAgain n) m

  pub after_in_order : Execs → After → ℕ → After
  after_in_order None_left k m = Done
  after_in_order (Then e es) k m = if has (nodes e) m then after e (opens_or (next_in_order es []) k) m else after_in_order es k m

  pub after_among : Execs → After → ℕ → After
  after_among None_left k m = Done
  after_among (Then e es) k m = if has (nodes e) m then after e k m else after_among es k m

-- the workingsteps and leaves
abbrev mutual
  pub lows : Exec → List ℕ
  lows (Work n) = n ∷ []
  lows (Leaf n k) = n ∷ []
  lows (Plan n es) = lows_all es
  lows (Par n es) = lows_all es
  lows (NonSeq n es) = lows_all es
  lows (Sel n es) = lows_all es
  lows (If n a b) = lows a ++ lows b
  lows (While n a) = lows a

  pub lows_all : Execs → List ℕ
  lows_all None_left = []
  lows_all (Then e es) = lows e ++ lows_all es

-- the entry is the last of its workingstep or leaf
abbrev pub is_last : Entry → Bool
is_last (End n) = true
is_last (Assign n x) = true
is_last (Set n) = true
is_last (Pass n) = true
is_last (Note n) = true
is_last x = false

-- x is the last entry of the workingstep or leaf m
pub record Ends (c : ℕ → Cell) (x : Entry) (m : ℕ) : Type 0 where
  pub number : number_of x ≡ Some m
  pub is_end : is_last x ≡ true
  pub over : stage_step m (stage_of (c m)) x ≡ None
