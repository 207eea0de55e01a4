-- Executables within an executable, by their numbers.
use Rattle.std.specs.Prelude.{ℕ, Bool, true, false, ◌==◌, if◌then◌else◌, Option, Some, None}
use Rattle.exec_tree.specs.Exec.{Exec, Work, Leaf, Plan, Par, NonSeq, Sel, If, While, Execs, None_left, Then, nodes, has}

-- the number of the executable itself
abbrev pub own_number : Exec → Option ℕ
own_number (Work n) = Some n
own_number (Leaf n k) = Some n
own_number (Plan n es) = n
own_number (Par n es) = Some n
own_number (NonSeq n es) = Some n
own_number (Sel n es) = Some n
own_number (If n a b) = Some n
own_number (While n a) = Some n

abbrev pub is_workplan : Exec → Bool
is_workplan (Plan n es) = true
is_workplan _ = false

-- there is a number, and it is this one
abbrev pub is_number : Option ℕ → ℕ → Bool
is_number None m = false
is_number (Some n) m = n == m

-- the executable with number m in e
abbrev mutual
  pub within : Exec → ℕ → Exec
  within (Work n) m = Work n
  within (Leaf n k) m = Leaf n k
  within (Plan n es) m = if is_number n m then Plan n es else within_all es m
  within (Par n es) m = if n == m then Par n es else within_all es m
  within (NonSeq n es) m = if n == m then NonSeq n es else within_all es m
  within (Sel n es) m = if n == m then Sel n es else within_all es m
  within (If n a b) m = if n == m then If n a b else (if has (nodes a) m then within a m else within b m)
  within (While n a) m = if n == m then While n a else within a m

  pub within_all : Execs → ℕ → Exec
  within_all None_left m = Plan None None_left
  within_all (Then e es) m = if has (nodes e) m then within e m else within_all es m
