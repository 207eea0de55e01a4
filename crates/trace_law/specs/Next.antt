-- Where a run can go on.
use Rattle.std.specs.Prelude.{ℕ, zero, suc, Bool, true, false, ◌==◌, if◌then◌else◌, List, [], ◌∷◌, ◌++◌, length, Option, Some, None}
use Rattle.exec_tree.specs.Exec.{Exec, Work, Leaf, Plan, Par, NonSeq, Sel, If, While, Execs, None_left, Then, nodes, count}
use Rattle.run_log.specs.declared.entry.Entry.{Entry}
use Rattle.run_log.specs.declared.entry.Entry.TheVariants.{End}
use Rattle.trace_law.specs.Of.{only}
use Rattle.trace_law.specs.Own.{pick_of, test_of, picks, Turn, Tested, turns}
use Rattle.trace_law.specs.Elements.{part_at}

-- the first of two lists that isn't empty
abbrev pub first_of_two : List ℕ → List ℕ → List ℕ
first_of_two [] ys = ys
first_of_two (x ∷ xs) ys = x ∷ xs

-- workingstep n until its end
abbrev pub next_work : ℕ → List Entry → List ℕ
next_work n [] = n ∷ []
next_work n (End m ∷ []) = []
next_work n (x ∷ t) = next_work n t

-- leaf n until its entry
abbrev pub next_leaf : ℕ → List Entry → List ℕ
next_leaf n [] = n ∷ []
next_leaf n (x ∷ t) = []

-- what is said of the last
abbrev pub next_of_last : (ℕ → List ℕ) → List ℕ → List ℕ
next_of_last f [] = []
next_of_last f (k ∷ []) = f k
next_of_last f (k ∷ j ∷ ks) = next_of_last f (j ∷ ks)

-- what is said of what the first entry tells and of the rest
abbrev pub next_after : {A : Type 0} → (A → List Entry → List ℕ) → Option A → List Entry → List ℕ
next_after f None t = []
next_after f (Some a) t = f a t

-- n before its pick, and else what is said of the index and the rest
abbrev pub next_picked : ℕ → (ℕ → List Entry → List ℕ) → List Entry → List ℕ
next_picked n f [] = n ∷ []
next_picked n f (x ∷ t) = next_after f (pick_of n x) t

-- n before its test, and else what is said of the answer and the rest
abbrev pub next_tested : ℕ → (Bool → List Entry → List ℕ) → List Entry → List ℕ
next_tested n f [] = n ∷ []
next_tested n f (x ∷ t) = next_after f (test_of n x) t

-- what is said of a yes, and of a no
abbrev pub next_answered : (List Entry → List ℕ) → (List Entry → List ℕ) → Bool → List Entry → List ℕ
next_answered f g true t = f t
next_answered f g false t = g t

-- of a while: its body in the last turn, and n where that is over; nothing after a no
abbrev pub next_loop : ℕ → (List Entry → List ℕ) → List Turn → List ℕ
next_loop n f [] = n ∷ []
next_loop n f (Tested true t ∷ []) = first_of_two (f t) (n ∷ [])
next_loop n f (Tested false t ∷ []) = []
next_loop n f (r ∷ s ∷ rest) = next_loop n f (s ∷ rest)

-- the nodes where e can go on after t, which is a run of it so far: of a workplan those of its first element that isn't over, of a
-- parallel those of all elements
abbrev mutual
  pub next : Exec → List Entry → List ℕ
  next (Work n) t = next_work n t
  next (Leaf n k) t = next_leaf n t
  next (Plan n es) t = next_in_order es t
  next (Par n es) t = next_each es t
  next (NonSeq n es) t =
      first_of_two (next_of_last (λ k. next_at es k (part_at es k t)) (picks n t))
      (if length (picks n t) == count es then [] else n ∷ [])
  next (Sel n es) t = next_picked n (λ k u. next_at es k u) t
  next (If n a b) t = next_tested n (next_answered (λ u. next a u) (λ u. next b u)) t
  next (While n a) t = next_loop n (λ u. next a u) (turns n t)

  -- those of the first element that isn't over
  pub next_in_order : Execs → List Entry → List ℕ
  next_in_order None_left t = []
  next_in_order (Then e es) t = first_of_two (next e (only (nodes e) t)) (next_in_order es t)

  -- those of all elements, in order
  pub next_each : Execs → List Entry → List ℕ
  next_each None_left t = []
  next_each (Then e es) t = next e (only (nodes e) t) ++ next_each es t

  -- those of element k
  pub next_at : Execs → ℕ → List Entry → List ℕ
  next_at None_left k t = []
  next_at (Then e es) zero t = next e t
  next_at (Then e es) (suc k) t = next_at es k t
