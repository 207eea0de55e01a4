use Rattle.std.proofs.Common.{◌≡◌, drop}
use Rattle.log_read.specs.Reading.{bytes_at}
use Rattle.log_read.proofs.words.bytes.Given as goal

abbrev pub invariant-loop-one : goal.invariant-loop-one
invariant-loop-one l = bytes_at (drop l.one-index l.wanted) l.rest ≡ bytes_at l.wanted l.bytes
