use Rattle.std.proofs.Common.{◌≡◌, ◌+◌, ◌*◌, ◌++◌, map, drop}
use Rattle.exec_tree.specs.Arena.{to_execs}
use Rattle.exec_tree.specs.Said.{bare_of}
use Rattle.trace_law.specs.Next.{next_in_order, next_each}
use Rattle.trace_law.specs.Below.{trees_down}
use Rattle.trace_law.proofs.going_on.+next.Given as goal

abbrev pub decreases-next_down : goal.decreases-next_down
decreases-next_down l = 4 * l.levels

abbrev pub decreases-next_of_kind : goal.decreases-next_of_kind
decreases-next_of_kind l = 4 * l.levels + 3

abbrev pub decreases-next_at : goal.decreases-next_at
decreases-next_at l = 4 * l.levels + 1

abbrev pub decreases-next_order : goal.decreases-next_order
decreases-next_order l = 4 * l.levels + 1

abbrev pub decreases-next_each : goal.decreases-next_each
decreases-next_each l = 4 * l.levels + 1

abbrev pub decreases-next_if : goal.decreases-next_if
decreases-next_if l = 4 * l.levels + 2

abbrev pub decreases-next_while : goal.decreases-next_while
decreases-next_while l = 4 * l.levels + 2

abbrev pub decreases-next_nonseq : goal.decreases-next_nonseq
decreases-next_nonseq l = 4 * l.levels + 2

abbrev pub invariant-next_order-loop-place : goal.invariant-next_order-loop-place
invariant-next_order-loop-place l =
    next_in_order (to_execs (trees_down (map bare_of l.arena) l.levels (drop l.place-index l.elements))) l.t
    ≡ next_in_order (to_execs (trees_down (map bare_of l.arena) l.levels l.elements)) l.t

abbrev pub invariant-next_each-loop-place : goal.invariant-next_each-loop-place
invariant-next_each-loop-place l =
    l.going.items ++ next_each (to_execs (trees_down (map bare_of l.arena) l.levels (drop l.place-index l.elements))) l.t
    ≡ next_each (to_execs (trees_down (map bare_of l.arena) l.levels l.elements)) l.t
