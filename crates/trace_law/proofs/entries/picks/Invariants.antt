use Rattle.std.proofs.Common.{◌≡◌, ◌++◌, drop}
use Rattle.trace_law.specs.Own.{picks}
use Rattle.trace_law.proofs.entries.picks.Given as goal

abbrev pub invariant-loop-x : goal.invariant-loop-x
invariant-loop-x l = l.ks.items ++ picks l.n (drop l.x-index l.t) ≡ picks l.n l.t
