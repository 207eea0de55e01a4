use Rattle.std.proofs.Common.{◌-◌, length, map}
use Rattle.p21_parse.specs.View.{part_of}
use Rattle.p21_parse.proofs.Heading.{Behind}
use Rattle.p21_parse.proofs.parser.Parser.entries.Given as goal

abbrev pub invariant-loop-alloc : goal.invariant-loop-alloc
invariant-loop-alloc l = Behind l.self l.at l.rest (map part_of l.fn.before) (map part_of l.entries)

abbrev pub decreases-loop-alloc : goal.decreases-loop-alloc
decreases-loop-alloc l = length l.self.tokens.now - l.rest
