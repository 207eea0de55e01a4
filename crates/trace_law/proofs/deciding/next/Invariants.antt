use Rattle.std.proofs.Common.{◌≡◌, ◌++◌, drop}
use Rattle.trace_law.proofs.deciding.next.Given as goal

abbrev pub invariant-loop-n : goal.invariant-loop-n
invariant-loop-n l = l.numbers ++ drop l.n-index l.n-items ≡ l.n-items
