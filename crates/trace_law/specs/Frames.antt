-- Frames: the cells of those nodes alone to which a run has come in its present turn. Nothing is said of any other, so a new turn clears none.
use Rattle.std.specs.Prelude.{◌≡◌, ℕ, nat_le, ◌+◌, ◌-◌, if◌then◌else◌, zero, suc, Bool, true, false, List, [], ◌∷◌, ◌++◌, Option, Some, None}
use Rattle.exec_tree.specs.Exec.{Exec, Work, Leaf, Plan, Par, NonSeq, Sel, If, While, Execs, None_left, Then, nodes, nodes_all}
use Rattle.trace_law.specs.Of.{is_of, only}
use Rattle.trace_law.specs.Own.{picks, pick_of, test_of, turns}
use Rattle.trace_law.specs.Elements.{part_at}
use Rattle.trace_law.specs.Next.{next}
use Rattle.trace_law.specs.Cells.{Cell, Over, Picked, AnsweredBy, Left, work_cell, leaf_cell, first_answer, last_answer, last_body, picked, next_by, AreKept, work_after, WhereTrue, WhereSome}
use Rattle.run_log.specs.declared.entry.Entry.{Entry}

-- one for a list that isn't empty
abbrev pub one_where : List ℕ → ℕ
one_where [] = 0
one_where (n ∷ ns) = 1

-- how many elements go on
abbrev pub going : Execs → List Entry → ℕ
going None_left t = 0
going (Then e es) t = one_where (next e (only (nodes e) t)) + going es t

-- how many elements of a parallel go on
abbrev pub left : Cell → ℕ
left (Left k) = k
left _ = 0

-- Next of the element that x is of
abbrev pub next_by_of : (ℕ → Cell) → Execs → Entry → List ℕ
next_by_of c None_left x = []
next_by_of c (Then e es) x = if is_of (nodes e) x then next_by c e else next_by_of c es x

-- at least two of its elements have something to do: else nothing is counted
abbrev pub is_shared : Execs → Bool
is_shared es = nat_le 2 (going es [])

-- what is said where a list is empty
abbrev pub WhereEmpty : List ℕ → Type 0 → Type 0
WhereEmpty [] P = P
WhereEmpty (n ∷ ns) P = Unit {0}

-- what is said of the first, of the last
abbrev pub OfFirst : (ℕ → Type 0) → List ℕ → Type 0
OfFirst said [] = Unit {0}
OfFirst said (k ∷ ks) = said k

-- what is said of the last
abbrev pub OfLast : (ℕ → Type 0) → List ℕ → Type 0
OfLast said [] = Unit {0}
OfLast said (k ∷ []) = said k
OfLast said (k ∷ j ∷ ks) = OfLast said (j ∷ ks)

-- what is said of the branch that is taken
abbrev pub OfBranch : Option Bool → Type 0 → Type 0 → Type 0
OfBranch None P Q = Unit {0}
OfBranch (Some true) P Q = P
OfBranch (Some false) P Q = Q

-- the frames stand for t in e
abbrev mutual
  pub Stands : (ℕ → Cell) → Exec → List Entry → Type 0
  Stands c (Work n) t = c n ≡ work_cell n t
  Stands c (Leaf n k) t = c n ≡ leaf_cell t
  Stands c (Plan n es) t = StandsInOrder c es t
  Stands c (Par n es) t = WhereTrue (is_shared es) (c n ≡ Left (going es t)) (Unit {0}) × StandsEach c es t
  Stands c (NonSeq n es) t = (c n ≡ Picked (picks n t)) × OfLast (λ k. StandsAt c es k (part_at es k t)) (picks n t)
  Stands c (Sel n es) t = (c n ≡ Picked (picks n t)) × OfFirst (λ k. StandsAt c es k (part_at es k t)) (picks n t)
  Stands c (If n a b) t = (c n ≡ AnsweredBy (first_answer n t)) × OfBranch (first_answer n t) (Stands c a (only (nodes a) t)) (Stands c b (only (nodes b) t))
  Stands c (While n a) t = (c n ≡ AnsweredBy (last_answer (turns n t))) × OfBranch (last_answer (turns n t)) (Stands c a (last_body (turns n t))) (Unit {0})

  -- of each up to the first that goes on
  pub StandsInOrder : (ℕ → Cell) → Execs → List Entry → Type 0
  StandsInOrder c None_left t = Unit {0}
  StandsInOrder c (Then e es) t = Stands c e (only (nodes e) t) × WhereEmpty (next e (only (nodes e) t)) (StandsInOrder c es t)

  -- of each element
  pub StandsEach : (ℕ → Cell) → Execs → List Entry → Type 0
  StandsEach c None_left t = Unit {0}
  StandsEach c (Then e es) t = Stands c e (only (nodes e) t) × StandsEach c es t

  -- of element k
  pub StandsAt : (ℕ → Cell) → Execs → ℕ → List Entry → Type 0
  StandsAt c None_left k t = Unit {0}
  StandsAt c (Then e es) zero t = Stands c e t
  StandsAt c (Then e es) (suc k) t = StandsAt c es k t

-- from c to c' by the entry x of e. What is opened has the frames of the empty list; no other node's frame is asked for, but those that are kept
abbrev mutual
  pub Goes : (ℕ → Cell) → Exec → Entry → (ℕ → Cell) → Type 0
  Goes c (Work n) x c' = c' n ≡ work_after n (c n) x
  Goes c (Leaf n k) x c' = c' n ≡ Over
  Goes c (Plan n es) x c' = GoesInOrder c es x c'
  Goes c (Par n es) x c' = WhereTrue (is_shared es) (c' n ≡ Left (left (c n) + one_where (next_by_of c' es x) - 1)) (Unit {0}) × GoesOne c es x c'
  Goes c (NonSeq n es) x c' =
      WhereSome (pick_of n x) (λ k. (c' n ≡ Picked (picked (c n) ++ k ∷ [])) × StandsAt c' es k []) ((c' n ≡ c n) × GoesOne c es x c')
  Goes c (Sel n es) x c' =
      WhereSome (pick_of n x) (λ k. (c' n ≡ Picked (picked (c n) ++ k ∷ [])) × StandsAt c' es k []) ((c' n ≡ c n) × GoesOne c es x c')
  Goes c (If n a b) x c' =
      WhereSome (test_of n x) (λ ans. (c' n ≡ AnsweredBy (Some ans)) × OfBranch (Some ans) (Stands c' a []) (Stands c' b []))
      ((c' n ≡ c n) × WhereTrue (is_of (nodes a) x) (Goes c a x c') (Goes c b x c'))
  Goes c (While n a) x c' =
      WhereSome (test_of n x) (λ ans. (c' n ≡ AnsweredBy (Some ans)) × OfBranch (Some ans) (Stands c' a []) (Unit {0})) ((c' n ≡ c n) × Goes c a x c')

  -- the element that x is of goes on, and where it is over the next is opened
  pub GoesInOrder : (ℕ → Cell) → Execs → Entry → (ℕ → Cell) → Type 0
  GoesInOrder c None_left x c' = Unit {0}
  GoesInOrder c (Then e es) x c' =
      WhereTrue (is_of (nodes e) x) (Goes c e x c' × WhereEmpty (next_by c' e) (StandsInOrder c' es [])) (AreKept c c' (nodes e) × GoesInOrder c es x c')

  -- the element that x is of goes on, and the others are kept
  pub GoesOne : (ℕ → Cell) → Execs → Entry → (ℕ → Cell) → Type 0
  GoesOne c None_left x c' = Unit {0}
  GoesOne c (Then e es) x c' =
      WhereTrue (is_of (nodes e) x) (Goes c e x c' × AreKept c c' (nodes_all es)) (AreKept c c' (nodes e) × GoesOne c es x c')
