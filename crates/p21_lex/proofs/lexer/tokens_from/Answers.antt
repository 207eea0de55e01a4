use Rattle.std.proofs.Common.{drop}
use Rattle.p21_lex.proofs.Places.{from_found, from_only, from_inside}
use Rattle.p21_lex.proofs.Refusals.{call_refused_from, call_refuses_from}
use Rattle.p21_lex.proofs.lexer.tokens_from.Goals as goal

pub returns-clause-found : goal.returns-clause-found
returns-clause-found c = from_found c.args.from (drop c.args.from c.args.bytes.now) c.all.result c.all.ensures

pub returns-clause-only : goal.returns-clause-only
returns-clause-only c = from_only c.args.from (drop c.args.from c.args.bytes.now) c.all.result c.all.ensures

pub returns-clause-refused : goal.returns-clause-refused
returns-clause-refused c = call_refused_from c.args.from (drop c.args.from c.args.bytes.now) c.all.result c.all.ensures

pub returns-clause-refuses : goal.returns-clause-refuses
returns-clause-refuses c = call_refuses_from c.args.from (drop c.args.from c.args.bytes.now) c.all.result c.all.ensures

pub returns-clause-inside : goal.returns-clause-inside
returns-clause-inside c = from_inside c.args.from c.args.bytes.now c.all.result c.requires.from c.all.ensures
