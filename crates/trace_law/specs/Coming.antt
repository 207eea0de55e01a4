-- What comes into Next with one more entry.
use Rattle.std.specs.Prelude.{◌≡◌, ◌+◌, ◌==◌, ◌||◌, ◌&&◌, not, if◌then◌else◌, ℕ, List, [], ◌∷◌, length, Option, Some, None}
use Rattle.exec_tree.specs.Exec.{Exec, Work, Leaf, Plan, Par, NonSeq, Sel, If, While, Execs, None_left, Then, nodes, has, count}
use Rattle.trace_law.specs.Of.{is_of, only}
use Rattle.trace_law.specs.Own.{pick_of, test_of}
use Rattle.trace_law.specs.Next.{first_of_two, next, next_in_order, next_at}
use Rattle.trace_law.specs.Cells.{Cell, if_going, picked, work_after}
use Rattle.trace_law.specs.Frames.{is_shared, left}
use Rattle.run_log.specs.declared.entry.Entry.{Entry}

-- what is said of a value, or where there is none
abbrev pub if_some : {A : Type 0} → Option A → (A → List ℕ) → List ℕ → List ℕ
if_some None f l = l
if_some (Some a) f l = f a

-- what comes in by the entry x of e, where `out` comes in once e is over: x's own node stays, or opens an element, or is over; and then what encloses it goes on
abbrev mutual
  pub came : (ℕ → Cell) → Exec → Entry → List ℕ → List ℕ
  came c (Work n) x out = first_of_two (if_going (work_after n (c n) x) n) out
  came c (Leaf n k) x out = out
  came c (Plan n es) x out = came_in_order c es x out
  came c (Par n es) x out = came_among c es x (if is_shared es then (if left (c n) == 1 then out else []) else out)
  came c (NonSeq n es) x out =
      if_some (pick_of n x) (λ k. first_of_two (next_at es k []) (if length (picked (c n)) + 1 == count es then out else n ∷ []))
      (came_among c es x (if length (picked (c n)) == count es then out else n ∷ []))
  came c (Sel n es) x out = if_some (pick_of n x) (λ k. first_of_two (next_at es k []) out) (came_among c es x out)
  came c (If n a b) x out =
      if_some (test_of n x) (λ ans. first_of_two (if ans then next a [] else next b []) out) (if is_of (nodes a) x then came c a x out else came c b x out)
  came c (While n a) x out = if_some (test_of n x) (λ ans. if ans then first_of_two (next a []) (n ∷ []) else out) (came c a x (n ∷ []))

  -- after an element of a plan comes the first of those behind it that isn't over at once
  pub came_in_order : (ℕ → Cell) → Execs → Entry → List ℕ → List ℕ
  came_in_order c None_left x out = []
  came_in_order c (Then e es) x out = if is_of (nodes e) x then came c e x (first_of_two (next_in_order es []) out) else came_in_order c es x out

  pub came_among : (ℕ → Cell) → Execs → Entry → List ℕ → List ℕ
  came_among c None_left x out = []
  came_among c (Then e es) x out = if is_of (nodes e) x then came c e x out else came_among c es x out

-- from one list to another by taking m out and putting these in
abbrev pub Changes : List ℕ → List ℕ → ℕ → List ℕ → Type 0
Changes before after m came_in = (q : ℕ) → has after q ≡ ((has before q && not (q == m)) || has came_in q)

-- Next of the element of a parallel that x is of
abbrev pub next_of_one : Execs → Entry → List Entry → List ℕ
next_of_one None_left x t = []
next_of_one (Then e es) x t = if is_of (nodes e) x then next e (only (nodes e) t) else next_of_one es x t
