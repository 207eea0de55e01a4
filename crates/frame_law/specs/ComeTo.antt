-- The nodes to which a run has come in its present turn, how deep executables lie in each other, and the nodes to which one entry lets the run come.
use Rattle.std.specs.Prelude.{◌+◌, ◌||◌, not, max, if◌then◌else◌, ℕ, zero, suc, Bool, true, false, List, [], ◌∷◌, ◌++◌, Option, Some, None}
use Rattle.std.specs.List.{filter}
use Rattle.exec_tree.specs.Exec.{Exec, Work, Leaf, Plan, Par, NonSeq, Sel, If, While, Execs, None_left, Then, nodes, has, number_or_none}
use Rattle.trace_law.specs.Of.{only}
use Rattle.trace_law.specs.Own.{picks, test_of, turns}
use Rattle.trace_law.specs.Elements.{part_at}
use Rattle.trace_law.specs.Next.{next}
use Rattle.trace_law.specs.Cells.{first_answer, last_answer, last_body}
use Rattle.trace_law.specs.Leading.{has_none}
use Rattle.run_log.specs.declared.entry.Entry.{Entry}

-- what is said of each pick, joined in order
abbrev pub of_picks : (ℕ → List ℕ) → List ℕ → List ℕ
of_picks f [] = []
of_picks f (k ∷ ks) = f k ++ of_picks f ks

-- what is said of the branch that is taken
abbrev pub of_branch : Option Bool → List ℕ → List ℕ → List ℕ
of_branch None yes_nodes no_nodes = []
of_branch (Some true) yes_nodes no_nodes = yes_nodes
of_branch (Some false) yes_nodes no_nodes = no_nodes

-- the nodes of e to which the run t has come in its present turn: e itself; of a workplan those of each element up to the first that isn't over, that one included;
-- of a parallel those of all elements; of a non-sequential and a selective those of the picked ones; of an if those of the branch that is taken; of a while
-- those of its body in the last turn, where its test passed
abbrev mutual
  pub come_to : Exec → List Entry → List ℕ
  come_to (Work n) t = n ∷ []
  come_to (Leaf n k) t = n ∷ []
  come_to (Plan n es) t = number_or_none n ++ come_to_in_order es t
  come_to (Par n es) t = n ∷ come_to_each es t
  come_to (NonSeq n es) t = n ∷ of_picks (λ k. come_to_at es k (part_at es k t)) (picks n t)
  come_to (Sel n es) t = n ∷ of_picks (λ k. come_to_at es k (part_at es k t)) (picks n t)
  come_to (If n a b) t = n ∷ of_branch (first_answer n t) (come_to a (only (nodes a) t)) (come_to b (only (nodes b) t))
  come_to (While n a) t = n ∷ of_branch (last_answer (turns n t)) (come_to a (last_body (turns n t))) []

  -- those of each element up to the first that isn't over
  pub come_to_in_order : Execs → List Entry → List ℕ
  come_to_in_order None_left t = []
  come_to_in_order (Then e es) t = come_to e (only (nodes e) t) ++ (if has_none (next e (only (nodes e) t)) then come_to_in_order es t else [])

  -- those of all elements
  pub come_to_each : Execs → List Entry → List ℕ
  come_to_each None_left t = []
  come_to_each (Then e es) t = come_to e (only (nodes e) t) ++ come_to_each es t

  -- those of element k, of which the run t is
  pub come_to_at : Execs → ℕ → List Entry → List ℕ
  come_to_at None_left k t = []
  come_to_at (Then e es) zero t = come_to e t
  come_to_at (Then e es) (suc k) t = come_to_at es k t

-- the greatest nesting: how many executables lie in each other at most, the whole itself included
abbrev mutual
  pub nesting : Exec → ℕ
  nesting (Work n) = 1
  nesting (Leaf n k) = 1
  nesting (Plan n es) = nesting_all es + 1
  nesting (Par n es) = nesting_all es + 1
  nesting (NonSeq n es) = nesting_all es + 1
  nesting (Sel n es) = nesting_all es + 1
  nesting (If n a b) = max (nesting a) (nesting b) + 1
  nesting (While n a) = nesting a + 1

  pub nesting_all : Execs → ℕ
  nesting_all None_left = 0
  nesting_all (Then e es) = max (nesting e) (nesting_all es)

-- the nodes of a body after a yes, none after a no, and without a test what else is said
abbrev pub body_after : Option Bool → List ℕ → List ℕ → List ℕ
body_after None body otherwise = otherwise
body_after (Some true) body otherwise = body
body_after (Some false) body otherwise = []

-- the nodes in the body of the while that the entry tests with yes: they begin anew
abbrev mutual
  pub turned : Exec → Entry → List ℕ
  turned (Work n) x = []
  turned (Leaf n k) x = []
  turned (Plan n es) x = turned_all es x
  turned (Par n es) x = turned_all es x
  turned (NonSeq n es) x = turned_all es x
  turned (Sel n es) x = turned_all es x
  turned (If n a b) x = turned a x ++ turned b x
  turned (While n a) x = body_after (test_of n x) (nodes a) (turned a x)

  pub turned_all : Execs → Entry → List ℕ
  turned_all None_left x = []
  turned_all (Then e es) x = turned e x ++ turned_all es x

-- the nodes to which the run has come after the entry x and hadn't before, or which begin anew by it
abbrev pub new_in : Exec → List Entry → Entry → List ℕ
new_in e t x = filter (λ q. not (has (come_to e t) q) || has (turned e x) q) (come_to e (t ++ x ∷ []))
