use Rattle.std.proofs.Common.{◌-◌, length, map}
use Rattle.p21_parse.specs.View.{part_of}
use Rattle.p21_parse.proofs.Parting.{Parted}
use Rattle.p21_parse.proofs.parser.Parser.parts.Given as goal

abbrev pub invariant-loop-alloc : goal.invariant-loop-alloc
invariant-loop-alloc l = Parted l.self l.at l.rest (map part_of l.parts)

abbrev pub decreases-loop-alloc : goal.decreases-loop-alloc
decreases-loop-alloc l = length l.self.tokens.now - l.rest
