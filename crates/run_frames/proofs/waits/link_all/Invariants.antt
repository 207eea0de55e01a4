use Rattle.run_frames.specs.Waits.{AreLinkedFrom}
use Rattle.run_frames.proofs.waits.link_all.Given as goal

abbrev pub invariant-loop-k : goal.invariant-loop-k
invariant-loop-k l = AreLinkedFrom l.tree l.k l.first l.later
