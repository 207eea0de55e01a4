use Rattle.std.proofs.Common.{◌≡◌}
use Rattle.path_tests.proofs.pieces.by_fill.Given as goal

abbrev pub invariant-loop-calls : goal.invariant-loop-calls
invariant-loop-calls l = l.path ≡ l.part
