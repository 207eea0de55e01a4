-- Where opening leads: past plans, past parallels with one element that has something to do, and past elements that have nothing.
use Rattle.std.specs.Prelude.{◌≡◌, if◌then◌else◌, ℕ, Bool, true, false, List, [], ◌∷◌}
use Rattle.exec_tree.specs.Exec.{Exec, Work, Leaf, Plan, Par, NonSeq, Sel, If, While, Execs, None_left, Then}
use Rattle.trace_law.specs.Next.{next}
use Rattle.trace_law.specs.Cells.{Cell, Picked}
use Rattle.trace_law.specs.Frames.{is_shared}

-- the list is empty
abbrev pub has_none : List ℕ → Bool
has_none [] = true
has_none (n ∷ l) = false

-- the executable that is opened where e is
abbrev mutual
  pub leads : Exec → Exec
  leads (Work n) = Work n
  leads (Leaf n k) = Leaf n k
  leads (Plan n es) = leads_first es (Plan n es)
  leads (Par n es) = if is_shared es then Par n es else leads_first es (Par n es)
  leads (NonSeq n es) = NonSeq n es
  leads (Sel n es) = Sel n es
  leads (If n a b) = If n a b
  leads (While n a) = While n a

  -- where the first element leads that has something to do, or else itself
  pub leads_first : Execs → Exec → Exec
  leads_first None_left itself = itself
  leads_first (Then e es) itself = if has_none (next e []) then leads_first es itself else leads e

-- a non-sequential without elements has no picks
abbrev mutual
  pub NoPicks : (ℕ → Cell) → Exec → Type 0
  NoPicks c (Work n) = Unit {0}
  NoPicks c (Leaf n k) = Unit {0}
  NoPicks c (Plan n es) = NoPicksAll c es
  NoPicks c (Par n es) = NoPicksAll c es
  NoPicks c (NonSeq n None_left) = c n ≡ Picked []
  NoPicks c (NonSeq n (Then e es)) = Unit {0}
  NoPicks c (Sel n es) = Unit {0}
  NoPicks c (If n a b) = Unit {0}
  NoPicks c (While n a) = Unit {0}

  -- the same of each of these elements
  pub NoPicksAll : (ℕ → Cell) → Execs → Type 0
  NoPicksAll c None_left = Unit {0}
  NoPicksAll c (Then e es) = NoPicks c e × NoPicksAll c es
