use Rattle.p21_parse.specs.Symbol.{semicolon}
use Rattle.p21_parse.proofs.Marks.{ends}
use Rattle.p21_parse.proofs.Heading.{phrase_read}
use Rattle.p21_parse.proofs.parser.Parser.phrase.Goals as goal

pub returns-clause-read : goal.returns-clause-read
returns-clause-read c =
    phrase_read c.args.self.now c.args.at c.in_ok-next.next c.args.text.now c.in_ok-end.ensures.found (rw c.in_ok-end.ensures.next at (c.in_ok-next.ensures.found semicolon ends)) (rw c.in_ok-end.ensures.next at c.in_ok-next.ensures.next)
