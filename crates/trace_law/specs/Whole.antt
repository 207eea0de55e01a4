-- A whole run of an executable.
use Rattle.std.specs.Prelude.{◌≡◌, ◌<◌, ◌+◌, ℕ, zero, suc, Bool, true, false, List, [], ◌∷◌, length, IsSomeAnd}
use Rattle.exec_tree.specs.Exec.{LeafKind, Assigning, Setting, Waiting, Noting, Exec, Work, Leaf, Plan, Par, NonSeq, Sel, If, While, Execs, None_left, Then, nodes, nodes_all, has, count}
use Rattle.run_log.specs.declared.entry.Entry.{Entry}
use Rattle.run_log.specs.declared.entry.Entry.TheVariants.{Dispatch, Block, End, Assign, Set, Pass, Note}
use Rattle.trace_law.specs.Of.{only}
use Rattle.trace_law.specs.Own.{pick_of, test_of, picks, Turn, Tested, lead, turns}
use Rattle.trace_law.specs.Elements.{joined, part_at, visits}

-- blocks of n from the k-th on without a gap, and its end
abbrev pub IsCut : ℕ → ℕ → List Entry → Type 0
IsCut n k (Block m j b ∷ t) = (m ≡ n) × (j ≡ k) × IsCut n (k + 1) t
IsCut n k (End m ∷ []) = m ≡ n
IsCut n k _ = ⊥

-- a dispatch of n, its blocks and its end
abbrev pub IsWork : ℕ → List Entry → Type 0
IsWork n (Dispatch m v ∷ t) = (m ≡ n) × IsCut n 0 t
IsWork n _ = ⊥

-- the entry is what a leaf of this kind does
abbrev pub IsOfLeaf : LeafKind → ℕ → Entry → Type 0
IsOfLeaf Assigning n (Assign m x) = m ≡ n
IsOfLeaf Setting n (Set m) = m ≡ n
IsOfLeaf Waiting n (Pass m) = m ≡ n
IsOfLeaf Noting n (Note m) = m ≡ n
IsOfLeaf _ n _ = ⊥

-- the one entry of a leaf
abbrev pub IsLeaf : LeafKind → ℕ → List Entry → Type 0
IsLeaf k n [] = ⊥
IsLeaf k n (x ∷ []) = IsOfLeaf k n x
IsLeaf k n (x ∷ y ∷ t) = ⊥

-- no two are equal, and each is below the count
abbrev pub AreDistinctBelow : ℕ → List ℕ → Type 0
AreDistinctBelow count [] = Unit {0}
AreDistinctBelow count (k ∷ ks) = (k < count) × (has ks k ≡ false) × AreDistinctBelow count ks

-- what holds of each index
abbrev pub EachPicked : (ℕ → Type 0) → List ℕ → Type 0
EachPicked said [] = Unit {0}
EachPicked said (k ∷ ks) = said k × EachPicked said ks

-- one pick of n, and behind it what is said of the index and the rest
abbrev pub AfterPick : ℕ → (ℕ → List Entry → Type 0) → List Entry → Type 0
AfterPick n said [] = ⊥
AfterPick n said (x ∷ t) = IsSomeAnd (pick_of n x) (λ k. said k t)

-- one test of n, and behind it what is said of the answer and the rest
abbrev pub AfterTest : ℕ → (Bool → List Entry → Type 0) → List Entry → Type 0
AfterTest n said [] = ⊥
AfterTest n said (x ∷ t) = IsSomeAnd (test_of n x) (λ b. said b t)

-- what is said of a yes, and of a no
abbrev pub Answered : (List Entry → Type 0) → (List Entry → Type 0) → Bool → List Entry → Type 0
Answered said_yes said_no true t = said_yes t
Answered said_yes said_no false t = said_no t

-- each turn but the last has a whole body, and the last is the test that fails
abbrev pub IsLoop : (List Entry → Type 0) → List Turn → Type 0
IsLoop whole [] = ⊥
IsLoop whole (Tested true t ∷ rest) = whole t × IsLoop whole rest
IsLoop whole (Tested false t ∷ []) = t ≡ []
IsLoop whole (Tested false t ∷ r ∷ rest) = ⊥

-- t is a whole run: a workplan's elements run in order, a parallel's side by side, a non-sequential's all and one at a time in the order
-- of its picks, of a selective the picked one, of an if the branch of its answer, and of a while its body after each yes
abbrev mutual
  pub Whole : Exec → List Entry → Type 0
  Whole (Work n) t = IsWork n t
  Whole (Leaf n k) t = IsLeaf k n t
  Whole (Plan n es) t = (t ≡ joined es t) × EachWhole es t
  Whole (Par n es) t = (only (nodes_all es) t ≡ t) × EachWhole es t
  Whole (NonSeq n es) t =
      (t ≡ visits n es t (picks n t)) × AreDistinctBelow (count es) (picks n t) × (length (picks n t) ≡ count es)
      × EachPicked (λ k. WholeAt es k (part_at es k t)) (picks n t)
  Whole (Sel n es) t = AfterPick n (λ k u. WholeAt es k u) t
  Whole (If n a b) t = AfterTest n (Answered (λ u. Whole a u) (λ u. Whole b u)) t
  Whole (While n a) t = (lead n t ≡ []) × IsLoop (λ u. Whole a u) (turns n t)

  -- each element's part is whole
  pub EachWhole : Execs → List Entry → Type 0
  EachWhole None_left t = Unit {0}
  EachWhole (Then e es) t = Whole e (only (nodes e) t) × EachWhole es t

  -- t is a whole run of element k
  pub WholeAt : Execs → ℕ → List Entry → Type 0
  WholeAt None_left k t = ⊥
  WholeAt (Then e es) zero t = Whole e t
  WholeAt (Then e es) (suc k) t = WholeAt es k t
