use Rattle.std.proofs.Common.{◌-◌, length}
use Rattle.project_read.specs.Gathered.{IsReadTo}
use Rattle.project_read.proofs.slices.gather.Given as goal

abbrev pub invariant-loop-gathered : goal.invariant-loop-gathered
invariant-loop-gathered l = IsReadTo l.bytes l.at l.gathered

abbrev pub decreases-loop-gathered : goal.decreases-loop-gathered
decreases-loop-gathered l = length l.bytes - l.at
