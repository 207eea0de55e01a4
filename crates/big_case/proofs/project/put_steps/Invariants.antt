use Rattle.std.proofs.Common.{◌≡◌, ◌*◌}
use Rattle.std.specs.List.{flat_map, range_with_len}
use Rattle.big_case.specs.Draws.{state_after}
use Rattle.big_case.specs.Project.{instances_at}
use Rattle.big_case.specs.Adds.{Adds}
use Rattle.big_case.proofs.project.put_steps.Given as goal

abbrev pub invariant-loop-i : goal.invariant-loop-i
invariant-loop-i l =
    Adds (flat_map (instances_at l.fn.draws.state) (range_with_len 0 l.i)) l.fn.items l.items
    × (l.draws.state ≡ state_after l.fn.draws.state (4 * l.i))
