use Rattle.std.proofs.Common.{◌≡◌, ◌-◌, ◌≤◌, length}
use Rattle.p21_lex.specs.Scan.{shifted, text_end}
use Rattle.p21_lex.proofs.scan.text_end.Given as goal

abbrev pub invariant-loop-rest : goal.invariant-loop-rest
invariant-loop-rest l = (length l.rest ≤ length l.bytes) × (shifted (length l.bytes - length l.rest) (text_end l.rest) ≡ text_end l.bytes)

abbrev pub decreases-loop-rest : goal.decreases-loop-rest
decreases-loop-rest l = length l.rest
