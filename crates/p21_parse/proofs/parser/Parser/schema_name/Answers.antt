use Rattle.p21_parse.proofs.Heading.{no_text}
use Rattle.p21_parse.proofs.parser.Parser.schema_name.Goals as goal

pub returns-in-None-clause-refused : goal.returns-in-None-clause-refused
returns-in-None-clause-refused c = no_text c.args.self.now c.args.at c.requires.at (rw c.in-None.is at c.in_ok-text.ensures.none)
