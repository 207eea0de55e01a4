-- What stands at each node in its present turn, and where a run goes on from there.
use Rattle.std.specs.Prelude.{◌≡◌, ℕ, zero, suc, Bool, true, false, ◌==◌, if◌then◌else◌, List, [], ◌∷◌, ◌++◌, length, Option, Some, None}
use Rattle.exec_tree.specs.Exec.{Exec, Work, Leaf, Plan, Par, NonSeq, Sel, If, While, Execs, None_left, Then, nodes, nodes_all, has, count}
use Rattle.trace_law.specs.Of.{is_of, only}
use Rattle.trace_law.specs.Own.{picks, pick_of, test_of, Turn, Tested, turns}
use Rattle.trace_law.specs.Next.{first_of_two, next_of_last}
use Rattle.trace_law.specs.State.{stage, stage_step}
use Rattle.run_log.specs.declared.entry.Entry.{Entry}

-- what a node has in its present turn
pub data Cell : Type 0 where
  Cutting : Option ℕ → Cell  -- a workingstep that isn't over: its blocks so far, once it is dispatched
  Going : Cell  -- a leaf that isn't over
  Over : Cell
  Picked : List ℕ → Cell  -- a non-sequential or a selective: its picks so far
  AnsweredBy : Option Bool → Cell  -- an if or a while: its last answer
  Left : ℕ → Cell  -- a parallel: how many of its elements go on

-- of a workingstep that was dispatched, by its blocks where it is open
abbrev pub cell_of_stage : Option ℕ → Cell
cell_of_stage None = Over
cell_of_stage (Some k) = Cutting (Some k)

-- of a workingstep with these entries
abbrev pub work_cell : ℕ → List Entry → Cell
work_cell n [] = Cutting None
work_cell n (x ∷ t) = cell_of_stage (stage n (x ∷ t))

-- the blocks of a workingstep that is open
abbrev pub stage_of : Cell → Option ℕ
stage_of (Cutting o) = o
stage_of _ = None

-- of a leaf with these entries
abbrev pub leaf_cell : List Entry → Cell
leaf_cell [] = Going
leaf_cell (x ∷ t) = Over

-- the answer of an if, whose test comes first
abbrev pub first_answer : ℕ → List Entry → Option Bool
first_answer n [] = None
first_answer n (x ∷ t) = test_of n x

-- the answer of the last turn
abbrev pub last_answer : List Turn → Option Bool
last_answer [] = None
last_answer (Tested b t ∷ []) = Some b
last_answer (r ∷ s ∷ rest) = last_answer (s ∷ rest)

-- what follows the test of the last turn
abbrev pub last_body : List Turn → List Entry
last_body [] = []
last_body (Tested b t ∷ []) = t
last_body (r ∷ s ∷ rest) = last_body (s ∷ rest)

-- the cells tell what t has at each node of e
abbrev mutual
  pub Shows : (ℕ → Cell) → Exec → List Entry → Type 0
  Shows c (Work n) t = c n ≡ work_cell n t
  Shows c (Leaf n k) t = c n ≡ leaf_cell t
  Shows c (Plan n es) t = ShowsAll c es t
  Shows c (Par n es) t = ShowsAll c es t
  Shows c (NonSeq n es) t = (c n ≡ Picked (picks n t)) × ShowsAll c es t
  Shows c (Sel n es) t = (c n ≡ Picked (picks n t)) × ShowsAll c es t
  Shows c (If n a b) t = (c n ≡ AnsweredBy (first_answer n t)) × Shows c a (only (nodes a) t) × Shows c b (only (nodes b) t)
  Shows c (While n a) t = (c n ≡ AnsweredBy (last_answer (turns n t))) × Shows c a (last_body (turns n t))

  -- the cells tell what t has at each node of these elements
  pub ShowsAll : (ℕ → Cell) → Execs → List Entry → Type 0
  ShowsAll c None_left t = Unit {0}
  ShowsAll c (Then e es) t = Shows c e (only (nodes e) t) × ShowsAll c es t

-- the node, where it is not over
abbrev pub if_going : Cell → ℕ → List ℕ
if_going Over n = []
if_going _ n = n ∷ []

-- the picks of a cell
abbrev pub picked : Cell → List ℕ
picked (Picked ks) = ks
picked _ = []

-- the last answer of a cell
abbrev pub answer : Cell → Option Bool
answer (AnsweredBy o) = o
answer _ = None

-- n before its pick, and then what is said of the first pick
abbrev pub after_picks : ℕ → List ℕ → (ℕ → List ℕ) → List ℕ
after_picks n [] f = n ∷ []
after_picks n (k ∷ ks) f = f k

-- n before its test, and then what is said of a yes or of a no
abbrev pub after_answer : ℕ → Option Bool → List ℕ → List ℕ → List ℕ
after_answer n None yes_next no_next = n ∷ []
after_answer n (Some true) yes_next no_next = yes_next
after_answer n (Some false) yes_next no_next = no_next

-- Next, from the cells alone
abbrev mutual
  pub next_by : (ℕ → Cell) → Exec → List ℕ
  next_by c (Work n) = if_going (c n) n
  next_by c (Leaf n k) = if_going (c n) n
  next_by c (Plan n es) = next_by_order c es
  next_by c (Par n es) = next_by_each c es
  next_by c (NonSeq n es) =
      first_of_two (next_of_last (λ k. next_by_at c es k) (picked (c n))) (if length (picked (c n)) == count es then [] else n ∷ [])
  next_by c (Sel n es) = after_picks n (picked (c n)) (λ k. next_by_at c es k)
  next_by c (If n a b) = after_answer n (answer (c n)) (next_by c a) (next_by c b)
  next_by c (While n a) = after_answer n (answer (c n)) (first_of_two (next_by c a) (n ∷ [])) []

  pub next_by_order : (ℕ → Cell) → Execs → List ℕ
  next_by_order c None_left = []
  next_by_order c (Then e es) = first_of_two (next_by c e) (next_by_order c es)

  pub next_by_each : (ℕ → Cell) → Execs → List ℕ
  next_by_each c None_left = []
  next_by_each c (Then e es) = next_by c e ++ next_by_each c es

  pub next_by_at : (ℕ → Cell) → Execs → ℕ → List ℕ
  next_by_at c None_left k = []
  next_by_at c (Then e es) zero = next_by c e
  next_by_at c (Then e es) (suc k) = next_by_at c es k

-- ---- how the cells move with one entry

-- the cells of these nodes are as they were
abbrev pub AreKept : (ℕ → Cell) → (ℕ → Cell) → List ℕ → Type 0
AreKept c c' ns = (m : ℕ) → has ns m ≡ true → c' m ≡ c m

-- the cell of a workingstep after one more entry
abbrev pub work_after : ℕ → Cell → Entry → Cell
work_after n cell x = cell_of_stage (stage_step n (stage_of cell) x)

-- the one where a test holds, and else the other
abbrev pub WhereTrue : Bool → Type 0 → Type 0 → Type 0
WhereTrue true P Q = P
WhereTrue false P Q = Q

-- what is said of a value, or where there is none
abbrev pub WhereSome : {A : Type 0} → Option A → (A → Type 0) → Type 0 → Type 0
WhereSome (Some a) P Q = P a
WhereSome None P Q = Q

-- from c to c' by the entry x of e: its own node's cell goes on, a test makes the body fresh, and all others are kept
abbrev mutual
  pub Moves : (ℕ → Cell) → Exec → Entry → (ℕ → Cell) → Type 0
  Moves c (Work n) x c' = c' n ≡ work_after n (c n) x
  Moves c (Leaf n k) x c' = c' n ≡ Over
  Moves c (Plan n es) x c' = MovesIn c es x c'
  Moves c (Par n es) x c' = MovesIn c es x c'
  Moves c (NonSeq n es) x c' =
      WhereSome (pick_of n x) (λ k. (c' n ≡ Picked (picked (c n) ++ k ∷ [])) × AreKept c c' (nodes_all es)) ((c' n ≡ c n) × MovesIn c es x c')
  Moves c (Sel n es) x c' =
      WhereSome (pick_of n x) (λ k. (c' n ≡ Picked (picked (c n) ++ k ∷ [])) × AreKept c c' (nodes_all es)) ((c' n ≡ c n) × MovesIn c es x c')
  Moves c (If n a b) x c' =
      WhereSome (test_of n x) (λ ans. (c' n ≡ AnsweredBy (Some ans)) × AreKept c c' (nodes a ++ nodes b))
      ((c' n ≡ c n) × WhereTrue (is_of (nodes a) x) (Moves c a x c' × AreKept c c' (nodes b)) (AreKept c c' (nodes a) × Moves c b x c'))
  Moves c (While n a) x c' =
      WhereSome (test_of n x) (λ ans. (c' n ≡ AnsweredBy (Some ans)) × Shows c' a []) ((c' n ≡ c n) × Moves c a x c')

  -- the cells of the element that x is of move, and those of the others are kept
  pub MovesIn : (ℕ → Cell) → Execs → Entry → (ℕ → Cell) → Type 0
  MovesIn c None_left x c' = Unit {0}
  MovesIn c (Then e es) x c' =
      WhereTrue (is_of (nodes e) x) (Moves c e x c' × AreKept c c' (nodes_all es)) (AreKept c c' (nodes e) × MovesIn c es x c')
