use Rattle.std.proofs.Common.{◌≡◌, ◌+◌, length}
use Rattle.p21_lex.specs.Slice.{slice_of}
use Rattle.p21_lex.proofs.Slices.{Reached}
use Rattle.p21_lex.proofs.slice.first_slice.Given as goal

abbrev pub invariant-loop-rest : goal.invariant-loop-rest
invariant-loop-rest l = (l.at + length l.rest ≡ length l.bytes) × Reached l.least (slice_of l.least l.bytes) l.found.items l.at l.rest

abbrev pub decreases-loop-rest : goal.decreases-loop-rest
decreases-loop-rest l = length l.rest
