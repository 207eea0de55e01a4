use Rattle.std.proofs.Common.{◌≡◌, drop, true}
use Rattle.trace_law.specs.Last.{goes_on_from}
use Rattle.trace_law.proofs.entries.goes_on.Given as goal

abbrev pub invariant-loop-x : goal.invariant-loop-x
invariant-loop-x l = goes_on_from l.going (drop l.x-index l.t) ≡ goes_on_from true l.t
