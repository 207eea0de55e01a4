use Rattle.p21_parse.specs.Machine.{fixed}
use Rattle.p21_parse.specs.Parser.{from}
use Rattle.p21_parse.proofs.Moves.{stopped}
use Rattle.p21_parse.proofs.Marks.{mark_sticks}
use Rattle.p21_parse.proofs.parser.Parser.mark.Goals as goal

pub returns-then-not-is_mark-clause-refused : goal.returns-then-not-is_mark-clause-refused
returns-then-not-is_mark-clause-refused c =
    λ m n mark. stopped c.args.self.now (fixed m) n c.args.at c.requires.at (mark_sticks c.args.kind m (from c.args.self.now c.args.at) mark (c.is_mark.ensures.none c.if-not-is_mark.true m mark))
