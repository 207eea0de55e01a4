use Rattle.std.proofs.Common.{◌+◌, ◌*◌}
use Rattle.exec_tree.proofs.expressions.+values.Given as goal

abbrev pub decreases-expr_at : goal.decreases-expr_at
decreases-expr_at g l = 3 * l.levels

abbrev pub decreases-expr_of : goal.decreases-expr_of
decreases-expr_of g l = 3 * l.levels + 2

abbrev pub decreases-expr_operand : goal.decreases-expr_operand
decreases-expr_operand g l = 3 * l.levels + 1
