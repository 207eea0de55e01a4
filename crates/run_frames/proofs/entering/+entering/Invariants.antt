use Rattle.std.proofs.Common.{◌≡◌, ◌≤◌, ◌-◌, ◌+◌, ◌*◌, drop, length}
use Rattle.exec_tree.specs.Arena.{to_execs}
use Rattle.frame_law.specs.Looks.{opening_each}
use Rattle.tree_table.specs.Placed.{placed_all}
use Rattle.tree_table.specs.Rows.{levels_at}
use Rattle.run_frames.specs.Entered.{AreEntered}
use Rattle.run_frames.proofs.entering.+entering.Given as goal

abbrev pub decreases-enter_at : goal.decreases-enter_at
decreases-enter_at g l = 2 * (length l.tree.now.nodes - l.place)

abbrev pub decreases-enter_all : goal.decreases-enter_all
decreases-enter_all g l = 2 * (length l.tree.now.nodes - l.place) - 1

abbrev pub invariant-enter_all-loop-k : goal.invariant-enter_all-loop-k
invariant-enter_all-loop-k g l =
    AreEntered l.tree.nodes l.fn.frames.cells l.frames.cells l.fn.set.all l.set.all (to_execs (placed_all l.tree.nodes (levels_at l.table.rows.items l.place - 1) (drop l.k l.elements))) l.going × (l.set.classes ≡ l.fn.set.classes)
    × (l.steps ≤ l.fn.steps + opening_each (to_execs (placed_all l.tree.nodes (levels_at l.table.rows.items l.place - 1) (drop l.k l.elements))))
    × (l.frames.rooms ≡ l.fn.frames.rooms)
