use Rattle.std.proofs.Common.{◌-◌, length}
use Rattle.edit_script.specs.Gathering.{IsReadTo}
use Rattle.edit_script.proofs.reading.gather.Given as goal

abbrev pub invariant-loop-at : goal.invariant-loop-at
invariant-loop-at l = IsReadTo l.source l.at l.gathered

abbrev pub decreases-loop-at : goal.decreases-loop-at
decreases-loop-at l = length l.source.tokens.now - l.at
