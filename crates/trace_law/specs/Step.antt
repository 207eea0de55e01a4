-- What may follow a Part.
use Rattle.std.specs.Prelude.{◌≡◌, ◌⊎◌, ◌<◌, ℕ, zero, suc, Bool, true, false, List, [], ◌∷◌, ◌++◌, IsSomeAnd, ⊤}
use Rattle.exec_tree.specs.Exec.{Exec, Work, Leaf, Plan, Par, NonSeq, Sel, If, While, Execs, None_left, Then, nodes, has, count}
use Rattle.trace_law.specs.Of.{only, is_of}
use Rattle.trace_law.specs.Whole.{IsWork, IsOfLeaf, EachPicked, Answered, Whole, WholeAt}
use Rattle.trace_law.specs.Own.{pick_of, test_of, picks, Turn, Tested, turns}
use Rattle.trace_law.specs.Elements.{joined, part_at}
use Rattle.run_log.specs.declared.entry.Entry.{Entry}

-- a pick of n, of an index that isn't picked yet
abbrev pub IsNewPick : ℕ → ℕ → List ℕ → Entry → Type 0
IsNewPick n count ks x = IsSomeAnd (pick_of n x) (λ k. (k < count) × (has ks k ≡ false))

-- a test of n
abbrev pub IsTest : ℕ → Entry → Type 0
IsTest n x = IsSomeAnd (test_of n x) (λ b. ⊤)

-- what is said of the last of a list that isn't empty
abbrev pub AtLast : (ℕ → Type 0) → List ℕ → Type 0
AtLast said [] = ⊥
AtLast said (k ∷ []) = said k
AtLast said (k ∷ j ∷ ks) = AtLast said (j ∷ ks)

-- before a pick the one, and behind it what is said of the index and the rest
abbrev pub StepPicked : ℕ → Type 0 → (ℕ → List Entry → Type 0) → List Entry → Type 0
StepPicked n first later [] = first
StepPicked n first later (y ∷ t) = IsSomeAnd (pick_of n y) (λ k. later k t)

-- before a test the one, and behind it what is said of the answer and the rest
abbrev pub StepTested : ℕ → Type 0 → (Bool → List Entry → Type 0) → List Entry → Type 0
StepTested n first later [] = first
StepTested n first later (y ∷ t) = IsSomeAnd (test_of n y) (λ b. later b t)

-- a test at the beginning and where the last body is whole, and else a step in that body
abbrev pub StepLoop : Type 0 → (List Entry → Type 0) → (List Entry → Type 0) → List Turn → Type 0
StepLoop test whole step [] = test
StepLoop test whole step (Tested true t ∷ []) = (test × whole t) ⊎ step t
StepLoop test whole step (Tested false t ∷ []) = ⊥
StepLoop test whole step (r ∷ s ∷ rest) = StepLoop test whole step (s ∷ rest)

-- x may follow t
abbrev mutual
  pub Step : Exec → List Entry → Entry → Type 0
  Step (Work n) t x = (rest : List Entry) × IsWork n (t ++ x ∷ rest)
  Step (Leaf n k) t x = (t ≡ []) × IsOfLeaf k n x
  Step (Plan n es) t x = StepInOrder es t x
  Step (Par n es) t x = StepOfOne es t x
  Step (NonSeq n es) t x =
      (IsNewPick n (count es) (picks n t) x × EachPicked (λ k. WholeAt es k (part_at es k t)) (picks n t))
      ⊎ AtLast (λ k. StepAt es k (part_at es k t) x) (picks n t)
  Step (Sel n es) t x = StepPicked n (IsNewPick n (count es) [] x) (λ k u. StepAt es k u x) t
  Step (If n a b) t x = StepTested n (IsTest n x) (Answered (λ u. Step a u x) (λ u. Step b u x)) t
  Step (While n a) t x = StepLoop (IsTest n x) (λ u. Whole a u) (λ u. Step a u x) (turns n t)

  -- x may follow in the first element that is not whole
  pub StepInOrder : Execs → List Entry → Entry → Type 0
  StepInOrder None_left t x = ⊥
  StepInOrder (Then e es) t x =
      ((is_of (nodes e) x ≡ true) × (joined es t ≡ []) × Step e (only (nodes e) t) x)
      ⊎ ((is_of (nodes e) x ≡ false) × Whole e (only (nodes e) t) × StepInOrder es t x)

  -- x may follow in the element that it is of
  pub StepOfOne : Execs → List Entry → Entry → Type 0
  StepOfOne None_left t x = ⊥
  StepOfOne (Then e es) t x =
      ((is_of (nodes e) x ≡ true) × Step e (only (nodes e) t) x) ⊎ ((is_of (nodes e) x ≡ false) × StepOfOne es t x)

  -- x may follow t in element k
  pub StepAt : Execs → ℕ → List Entry → Entry → Type 0
  StepAt None_left k t x = ⊥
  StepAt (Then e es) zero t x = Step e t x
  StepAt (Then e es) (suc k) t x = StepAt es k t x

-- what is said of the body of the last turn, where its test passed
abbrev pub OfLastBody : (List Entry → Type 0) → List Turn → Type 0
OfLastBody said [] = ⊥
OfLastBody said (Tested true t ∷ []) = said t
OfLastBody said (Tested false t ∷ []) = ⊥
OfLastBody said (r ∷ s ∷ rest) = OfLastBody said (s ∷ rest)

-- x continues what its own node has in t in its present turn
abbrev mutual
  pub Continues : Exec → List Entry → Entry → Type 0
  Continues (Work n) t x = (rest : List Entry) × IsWork n (t ++ x ∷ rest)
  Continues (Leaf n k) t x = IsOfLeaf k n x
  Continues (Plan n es) t x = SomeContinues es t x
  Continues (Par n es) t x = SomeContinues es t x
  Continues (NonSeq n es) t x = IsNewPick n (count es) (picks n t) x ⊎ AtLast (λ k. ContinuesAt es k (part_at es k t) x) (picks n t)
  Continues (Sel n es) t x = StepPicked n (IsNewPick n (count es) [] x) (λ k u. ContinuesAt es k u x) t
  Continues (If n a b) t x = StepTested n (IsTest n x) (Answered (λ u. Continues a u x) (λ u. Continues b u x)) t
  Continues (While n a) t x = IsTest n x ⊎ OfLastBody (λ u. Continues a u x) (turns n t)

  -- the element that x is of
  pub SomeContinues : Execs → List Entry → Entry → Type 0
  SomeContinues None_left t x = ⊥
  SomeContinues (Then e es) t x =
      ((is_of (nodes e) x ≡ true) × Continues e (only (nodes e) t) x) ⊎ ((is_of (nodes e) x ≡ false) × SomeContinues es t x)

  -- x continues what its node has in element k
  pub ContinuesAt : Execs → ℕ → List Entry → Entry → Type 0
  ContinuesAt None_left k t x = ⊥
  ContinuesAt (Then e es) zero t x = Continues e t x
  ContinuesAt (Then e es) (suc k) t x = ContinuesAt es k t x
