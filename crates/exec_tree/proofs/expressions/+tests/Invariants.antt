use Rattle.std.proofs.Common.{◌≡◌, ℕ, ◌+◌, ◌*◌, ◌≤◌, length, drop}
use Rattle.nc_expr.specs.Term.{test_of}
use Rattle.exec_tree.specs.Terms.{test_from, list_test}
use Rattle.exec_tree.proofs.expressions.+tests.Given as goal

abbrev pub decreases-cond_at : goal.decreases-cond_at
decreases-cond_at g l = 3 * l.levels

abbrev pub decreases-cond_of : goal.decreases-cond_of
decreases-cond_of g l = 3 * l.levels + 2

abbrev pub decreases-cond_operand : goal.decreases-cond_operand
decreases-cond_operand g l = 3 * l.levels + 1

abbrev pub decreases-cond_list : goal.decreases-cond_list
decreases-cond_list g l = 3 * l.levels + 1

abbrev pub invariant-cond_list-loop-left : goal.invariant-cond_list-loop-left
invariant-cond_list-loop-left g l =
    (l.left ≤ length l.numbers) × (test_of l.cond ≡ list_test (λ (m : ℕ). test_from (g.E.Entities.entities l.entities) l.levels m) l.all (drop l.left l.numbers))

abbrev pub decreases-cond_list-loop-left : goal.decreases-cond_list-loop-left
decreases-cond_list-loop-left g l = l.left
