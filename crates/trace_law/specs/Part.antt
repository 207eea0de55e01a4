-- A run of an executable so far.
use Rattle.std.specs.Prelude.{◌≡◌, ◌≢◌, ◌⊎◌, ℕ, zero, suc, true, false, List, [], ◌∷◌, ◌++◌}
use Rattle.exec_tree.specs.Exec.{Exec, Work, Leaf, Plan, Par, NonSeq, Sel, If, While, Execs, None_left, Then, nodes, nodes_all, count}
use Rattle.run_log.specs.declared.entry.Entry.{Entry}
use Rattle.trace_law.specs.Of.{only}
use Rattle.trace_law.specs.Own.{picks, Turn, Tested, lead, turns}
use Rattle.trace_law.specs.Elements.{joined, part_at, visits}
use Rattle.trace_law.specs.Whole.{IsWork, IsLeaf, AreDistinctBelow, AfterPick, AfterTest, Answered, Whole, WholeAt}

-- each index but the last is of a whole part, and the last of a part
abbrev pub LastMayBeCut : (ℕ → Type 0) → (ℕ → Type 0) → List ℕ → Type 0
LastMayBeCut whole part [] = Unit {0}
LastMayBeCut whole part (k ∷ []) = part k
LastMayBeCut whole part (k ∷ j ∷ ks) = whole k × LastMayBeCut whole part (j ∷ ks)

-- a loop so far: each turn but the last has a whole body, and the last a part of one, or it is the test that fails
abbrev pub IsLoopSoFar : (List Entry → Type 0) → (List Entry → Type 0) → List Turn → Type 0
IsLoopSoFar whole part [] = Unit {0}
IsLoopSoFar whole part (Tested true t ∷ []) = part t
IsLoopSoFar whole part (Tested false t ∷ []) = t ≡ []
IsLoopSoFar whole part (Tested true t ∷ r ∷ rest) = whole t × IsLoopSoFar whole part (r ∷ rest)
IsLoopSoFar whole part (Tested false t ∷ r ∷ rest) = ⊥

-- t is a run so far: of a workplan's elements each that has something behind it is whole, of a non-sequential's picked ones each but the
-- last, and of a while's bodies too
abbrev mutual
  pub Part : Exec → List Entry → Type 0
  Part (Work n) t = (rest : List Entry) × IsWork n (t ++ rest)
  Part (Leaf n k) t = (rest : List Entry) × IsLeaf k n (t ++ rest)
  Part (Plan n es) t = (t ≡ joined es t) × InOrder es t
  Part (Par n es) t = (only (nodes_all es) t ≡ t) × EachPart es t
  Part (NonSeq n es) t =
      (t ≡ visits n es t (picks n t)) × AreDistinctBelow (count es) (picks n t)
      × LastMayBeCut (λ k. WholeAt es k (part_at es k t)) (λ k. PartAt es k (part_at es k t)) (picks n t)
  Part (Sel n es) t = (t ≡ []) ⊎ AfterPick n (λ k u. PartAt es k u) t
  Part (If n a b) t = (t ≡ []) ⊎ AfterTest n (Answered (λ u. Part a u) (λ u. Part b u)) t
  Part (While n a) t = (lead n t ≡ []) × IsLoopSoFar (λ u. Whole a u) (λ u. Part a u) (turns n t)

  -- each element's part is a run of it so far
  pub EachPart : Execs → List Entry → Type 0
  EachPart None_left t = Unit {0}
  EachPart (Then e es) t = Part e (only (nodes e) t) × EachPart es t

  -- each is a run so far, and each that has a part behind it that isn't empty is whole
  pub InOrder : Execs → List Entry → Type 0
  InOrder None_left t = Unit {0}
  InOrder (Then e es) t = Part e (only (nodes e) t) × (joined es t ≢ [] → Whole e (only (nodes e) t)) × InOrder es t

  -- t is a run so far of element k
  pub PartAt : Execs → ℕ → List Entry → Type 0
  PartAt None_left k t = ⊥
  PartAt (Then e es) zero t = Part e t
  PartAt (Then e es) (suc k) t = PartAt es k t
