-- The executable that a number of the tree is of.
use Rattle.std.specs.Prelude.{◌==◌, if◌then◌else◌, ℕ, zero, suc, Option, Some, None}
use Rattle.exec_tree.specs.Exec.{Exec, Work, Leaf, Plan, Par, NonSeq, Sel, If, While, Execs, None_left, Then, nodes, has, number_or_none}

-- the executable at node m of e; of a number that isn't one of e's nothing is meant
abbrev mutual
  pub executable_at : Exec → ℕ → Exec
  executable_at (Work n) m = Work n
  executable_at (Leaf n k) m = Leaf n k
  executable_at (Plan n es) m = if has (number_or_none n) m then Plan n es else executable_among es m
  executable_at (Par n es) m = if n == m then Par n es else executable_among es m
  executable_at (NonSeq n es) m = if n == m then NonSeq n es else executable_among es m
  executable_at (Sel n es) m = if n == m then Sel n es else executable_among es m
  executable_at (If n a b) m = if n == m then If n a b else (if has (nodes a) m then executable_at a m else executable_at b m)
  executable_at (While n a) m = if n == m then While n a else executable_at a m

  -- the same of these elements
  pub executable_among : Execs → ℕ → Exec
  executable_among None_left m = Plan None None_left
  executable_among (Then e es) m = if has (nodes e) m then executable_at e m else executable_among es m

-- the number that an executable has itself; the branch that an if leaves out has none
abbrev pub own_number : Exec → Option ℕ
own_number (Work n) = Some n
own_number (Leaf n k) = Some n
own_number (Plan n es) = n
own_number (Par n es) = Some n
own_number (NonSeq n es) = Some n
own_number (Sel n es) = Some n
own_number (If n a b) = Some n
own_number (While n a) = Some n

-- element i; past the end one without number and elements
abbrev pub element : Execs → ℕ → Exec
element None_left i = Plan None None_left
element (Then e es) zero = e
element (Then e es) (suc i) = element es i

-- the elements behind element i
abbrev pub behind : Execs → ℕ → Execs
behind None_left i = None_left
behind (Then e es) zero = es
behind (Then e es) (suc i) = behind es i
