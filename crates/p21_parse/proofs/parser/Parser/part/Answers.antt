use Rattle.p21_parse.proofs.Parting.{no_keyword}
use Rattle.p21_parse.proofs.parser.Parser.part.Goals as goal

pub returns-in_default-clause-refused : goal.returns-in_default-clause-refused
returns-in_default-clause-refused c = no_keyword c.args.self.now c.args.at c.requires.at c.in_default.ensures.none
