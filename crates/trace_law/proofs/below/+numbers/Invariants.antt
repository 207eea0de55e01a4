use Rattle.std.proofs.Common.{◌≡◌, ◌+◌, ◌*◌, ◌++◌, map, drop}
use Rattle.exec_tree.specs.Exec.{nodes_all}
use Rattle.exec_tree.specs.Arena.{to_execs}
use Rattle.exec_tree.specs.Said.{bare_of}
use Rattle.trace_law.specs.Below.{trees_down}
use Rattle.trace_law.proofs.below.+numbers.Given as goal

abbrev pub decreases-numbers_down : goal.decreases-numbers_down
decreases-numbers_down l = 2 * l.levels

abbrev pub decreases-numbers_of_all : goal.decreases-numbers_of_all
decreases-numbers_of_all l = 2 * l.levels + 1

abbrev pub invariant-numbers_of_all-loop-place : goal.invariant-numbers_of_all-loop-place
invariant-numbers_of_all-loop-place l =
    l.numbers.items ++ nodes_all (to_execs (trees_down (map bare_of l.arena) l.levels (drop l.place-index l.places)))
    ≡ nodes_all (to_execs (trees_down (map bare_of l.arena) l.levels l.places))
