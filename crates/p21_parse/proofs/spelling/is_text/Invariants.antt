use Rattle.std.proofs.Common.{◌↔◌, length}
use Rattle.p21_lex.specs.Reading.{IsInside}
use Rattle.p21_parse.proofs.spelling.is_text.Given as goal

abbrev pub invariant-loop-rest : goal.invariant-loop-rest
invariant-loop-rest l = IsInside l.bytes ↔ IsInside l.rest

abbrev pub decreases-loop-rest : goal.decreases-loop-rest
decreases-loop-rest l = length l.rest
