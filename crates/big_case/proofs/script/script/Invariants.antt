use Rattle.std.proofs.Common.{◌≡◌, ℕ, ◌+◌, ◌*◌}
use Rattle.std.specs.List.{flat_map, range_with_len}
use Rattle.big_case.specs.Draws.{state_after}
use Rattle.big_case.specs.Script.{edit_at}
use Rattle.big_case.proofs.script.script.Given as goal

abbrev pub invariant-loop-j : goal.invariant-loop-j
invariant-loop-j l =
    (start : ℕ) → l.fn.draws.state ≡ state_after start (4 * l.steps)
    → (l.draws.state ≡ state_after start (4 * l.steps + 2 * l.j)) × (l.out.items ≡ flat_map (edit_at l.steps start) (range_with_len 0 l.j))
