use Rattle.std.proofs.Common.{◌≡◌, drop, None}
use Rattle.trace_law.specs.Last.{last_from}
use Rattle.trace_law.proofs.entries.last_number.Given as goal

abbrev pub invariant-loop-k : goal.invariant-loop-k
invariant-loop-k l = last_from l.last (drop l.k-index l.ks) ≡ last_from None l.ks
