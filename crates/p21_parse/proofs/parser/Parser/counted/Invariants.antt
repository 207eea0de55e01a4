use Rattle.p21_parse.specs.View.{trees_of}
use Rattle.p21_parse.proofs.Heading.{InCount}
use Rattle.p21_parse.proofs.parser.Parser.counted.Given as goal

abbrev pub invariant-loop-left : goal.invariant-loop-left
invariant-loop-left l = InCount l.self l.at l.rest l.more l.left (trees_of l.params)

abbrev pub decreases-loop-left : goal.decreases-loop-left
decreases-loop-left l = l.left
