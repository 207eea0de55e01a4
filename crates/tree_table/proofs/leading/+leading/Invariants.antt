use Rattle.std.proofs.Common.{◌+◌, ◌-◌, ◌*◌, map, drop}
use Rattle.exec_tree.specs.Arena.{to_execs}
use Rattle.exec_tree.specs.Said.{bare_of}
use Rattle.tree_table.specs.Placed.{placed_all}
use Rattle.tree_table.specs.Filled.{AreMade}
use Rattle.tree_table.proofs.leading.+leading.Given as goal

abbrev pub decreases-lead_down : goal.decreases-lead_down
decreases-lead_down l = 3 * l.levels

abbrev pub decreases-lead_kind : goal.decreases-lead_kind
decreases-lead_kind l = 3 * l.levels - 1

abbrev pub decreases-lead_all : goal.decreases-lead_all
decreases-lead_all l = 3 * l.levels + 1

abbrev pub invariant-lead_all-loop-k : goal.invariant-lead_all-loop-k
invariant-lead_all-loop-k l = AreMade (map bare_of l.arena) l.fn.rows l.rows (to_execs (placed_all (map bare_of l.arena) l.levels (drop l.k l.elements))) l.leads.first l.leads.number
