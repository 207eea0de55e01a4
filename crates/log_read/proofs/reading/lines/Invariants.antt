use Rattle.std.proofs.Common.{◌++◌, length}
use Rattle.run_log.specs.LogText.{first_line}
use Rattle.log_read.specs.Steps.{IsReadTo}
use Rattle.log_read.proofs.reading.lines.Given as goal

abbrev pub invariant-loop-rest : goal.invariant-loop-rest
invariant-loop-rest l = IsReadTo (first_line ++ l.fn.text) l.log l.rest

abbrev pub decreases-loop-rest : goal.decreases-loop-rest
decreases-loop-rest l = length l.rest
