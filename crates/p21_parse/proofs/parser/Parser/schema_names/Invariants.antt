use Rattle.std.proofs.Common.{◌-◌, length}
use Rattle.p21_parse.specs.View.{trees_of}
use Rattle.p21_parse.proofs.Heading.{InNames}
use Rattle.p21_parse.proofs.parser.Parser.schema_names.Given as goal

abbrev pub invariant-loop-alloc : goal.invariant-loop-alloc
invariant-loop-alloc l = InNames l.self l.at l.rest (trees_of l.names)

abbrev pub decreases-loop-alloc : goal.decreases-loop-alloc
decreases-loop-alloc l = length l.self.tokens.now - l.rest
