use Rattle.std.proofs.Common.{◌≡◌, ◌++◌, drop}
use Rattle.trace_law.specs.Of.{only}
use Rattle.trace_law.proofs.entries.entries_of.Given as goal

abbrev pub invariant-loop-x : goal.invariant-loop-x
invariant-loop-x l = l.kept.items ++ only l.numbers (drop l.x-index l.t) ≡ only l.numbers l.t
