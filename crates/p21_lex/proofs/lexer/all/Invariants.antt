use Rattle.std.proofs.Common.{◌≡◌, ◌+◌, length, drop}
use Rattle.p21_lex.specs.Tokens.{tokens_behind_place}
use Rattle.p21_lex.proofs.Loop.{Reached}
use Rattle.p21_lex.proofs.lexer.all.Given as goal

abbrev pub invariant-loop-rest : goal.invariant-loop-rest
invariant-loop-rest l = (l.at + length l.rest ≡ length l.bytes) × Reached (tokens_behind_place l.from (drop l.from l.bytes)) l.found.items l.at l.rest

abbrev pub decreases-loop-rest : goal.decreases-loop-rest
decreases-loop-rest l = length l.rest
