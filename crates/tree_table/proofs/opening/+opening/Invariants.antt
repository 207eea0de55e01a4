use Rattle.std.proofs.Common.{◌≡◌, ◌-◌, ◌*◌, ◌||◌, [], ℕ, drop, length}
use Rattle.exec_tree.specs.Arena.{to_execs}
use Rattle.exec_tree.specs.Exec.{has}
use Rattle.place_set.specs.Words.{holds}
use Rattle.trace_law.specs.Next.{next_each}
use Rattle.tree_table.specs.Placed.{placed_all}
use Rattle.tree_table.proofs.opening.+opening.Given as goal

abbrev pub decreases-open_at : goal.decreases-open_at
decreases-open_at g l = 2 * (length l.tree.now.nodes - l.place)

abbrev pub decreases-open_all : goal.decreases-open_all
decreases-open_all g l = 2 * (length l.tree.now.nodes - l.place) - 1

abbrev pub invariant-open_all-loop-k : goal.invariant-open_all-loop-k
invariant-open_all-loop-k g l =
    (q : ℕ) → holds l.set q ≡ (holds l.fn.set q || has (next_each (to_execs (placed_all l.tree.nodes l.levels (drop l.k l.elements))) []) q)
