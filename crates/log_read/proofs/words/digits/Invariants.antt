use Rattle.std.proofs.Common.{◌≡◌, ◌≤◌, length}
use Rattle.log_read.specs.Reading.{digits_at}
use Rattle.log_read.proofs.words.digits.Given as goal

abbrev pub invariant-loop-rest : goal.invariant-loop-rest
invariant-loop-rest l = record {
  few : l.number ≤ l.most;
  left : digits_at l.most l.number l.rest ≡ digits_at l.most 0 l.bytes;
}

abbrev pub decreases-loop-rest : goal.decreases-loop-rest
decreases-loop-rest l = length l.rest
