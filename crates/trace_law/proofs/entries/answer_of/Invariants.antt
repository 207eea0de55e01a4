use Rattle.std.proofs.Common.{◌≡◌, drop, None}
use Rattle.trace_law.specs.Last.{answer_from}
use Rattle.trace_law.proofs.entries.answer_of.Given as goal

abbrev pub invariant-loop-x : goal.invariant-loop-x
invariant-loop-x l = answer_from l.n l.answer (drop l.x-index l.t) ≡ answer_from l.n None l.t
