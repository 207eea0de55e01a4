use Rattle.p21_parse.proofs.BehindLemmas.{first_found, first_without, first_unmarked}
use Rattle.p21_parse.proofs.parser.Parser.first_name.Goals as goal

pub returns-then-not-earlier-clause-none : goal.returns-then-not-earlier-clause-none
returns-then-not-earlier-clause-none c = first_unmarked c.args.self.now c.args.earlier.now c.if-not-earlier.true

pub returns-clause-found : goal.returns-clause-found
returns-clause-found c = first_found c.args.self.now c.args.earlier.now c.name.result c.if-not-earlier.false c.name.ensures.found

pub returns-clause-none : goal.returns-clause-none
returns-clause-none c = first_without c.args.self.now c.args.earlier.now c.name.result c.name.ensures.none
