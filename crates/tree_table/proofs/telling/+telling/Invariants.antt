use Rattle.std.proofs.Common.{◌+◌, ◌*◌, map, drop}
use Rattle.exec_tree.specs.Arena.{to_execs}
use Rattle.exec_tree.specs.Said.{bare_of}
use Rattle.tree_table.specs.Placed.{placed_all}
use Rattle.tree_table.specs.Filled.{AreTold, AreToldInOrder}
use Rattle.tree_table.proofs.telling.+telling.Given as goal

abbrev pub decreases-tell_down : goal.decreases-tell_down
decreases-tell_down l = 4 * l.levels

abbrev pub decreases-tell_kind : goal.decreases-tell_kind
decreases-tell_kind l = 4 * l.levels + 3

abbrev pub decreases-tell_plan : goal.decreases-tell_plan
decreases-tell_plan l = 4 * l.levels + 2

abbrev pub decreases-tell_inner : goal.decreases-tell_inner
decreases-tell_inner l = 4 * l.levels + 2

abbrev pub decreases-tell_order : goal.decreases-tell_order
decreases-tell_order l = 4 * l.levels + 1

abbrev pub decreases-tell_all : goal.decreases-tell_all
decreases-tell_all l = 4 * l.levels + 1

abbrev pub invariant-tell_order-loop-k : goal.invariant-tell_order-loop-k
invariant-tell_order-loop-k l = AreToldInOrder l.fn.rows l.rows (to_execs (placed_all (map bare_of l.arena) l.levels (drop l.k l.elements))) l.after l.first

abbrev pub invariant-tell_all-loop-k : goal.invariant-tell_all-loop-k
invariant-tell_all-loop-k l = AreTold l.fn.rows l.rows (to_execs (placed_all (map bare_of l.arena) l.levels (drop l.k l.elements))) l.after
