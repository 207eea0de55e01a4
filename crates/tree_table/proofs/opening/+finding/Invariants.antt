use Rattle.std.proofs.Common.{◌≡◌, ◌≤◌, ◌+◌, ◌*◌, drop}
use Rattle.exec_tree.specs.Arena.{to_execs}
use Rattle.frame_law.specs.Looks.{finding_first}
use Rattle.tree_table.specs.Placed.{placed_all}
use Rattle.tree_table.specs.Filled.{first_into}
use Rattle.tree_table.proofs.opening.+finding.Given as goal

abbrev pub decreases-lead_at : goal.decreases-lead_at
decreases-lead_at g l = 2 * l.levels

abbrev pub decreases-first_at : goal.decreases-first_at
decreases-first_at g l = 2 * l.levels + 1

abbrev pub invariant-first_at-loop-k : goal.invariant-first_at-loop-k
invariant-first_at-loop-k g l =
    (first_into (to_execs (placed_all l.tree.nodes l.levels (drop l.k l.elements))) ≡ first_into (to_execs (placed_all l.tree.nodes l.levels l.elements)))
    × (l.steps + finding_first (to_execs (placed_all l.tree.nodes l.levels (drop l.k l.elements))) ≤ l.fn.steps + finding_first (to_execs (placed_all l.tree.nodes l.levels l.elements)))
