use Rattle.std.proofs.Common.{map, arith}
use Rattle.std.proofs.lemmas.Result.{err_from_is_err_and}
use Rattle.p21_parse.specs.Symbol.{opening}
use Rattle.p21_parse.specs.View.{part_of}
use Rattle.p21_parse.proofs.Marks.{opens}
use Rattle.p21_parse.proofs.Parting.{complex_read, complex_refused, simple_refused}
use Rattle.p21_parse.proofs.parser.Parser.body.Goals as goal

pub parts-requires-clause-at : goal.parts-requires-clause-at
parts-requires-clause-at c = let has = c.is_mark.ensures.found c.if-is_mark.true opening opens in omega (arith, has.within)

pub returns-in_err-parts-clause-refused : goal.returns-in_err-parts-clause-refused
returns-in_err-parts-clause-refused c =
    let p = err_from_is_err_and c.from_residual.result c.from_residual.ensures.1 in
    rw (p.1, p.2) (complex_refused c.args.self.now c.args.at c.in_err-parts.field-0.0 (c.is_mark.ensures.found c.if-is_mark.true opening opens) c.in_err-parts.ensures.refused)

pub returns-then-is_mark-clause-read : goal.returns-then-is_mark-clause-read
returns-then-is_mark-clause-read c = complex_read c.args.self.now c.args.at c.in_ok-parts.next (map part_of c.in_ok-parts.parts) (c.is_mark.ensures.found c.if-is_mark.true opening opens) c.in_ok-parts.ensures.read

pub returns-in_err-part-clause-refused : goal.returns-in_err-part-clause-refused
returns-in_err-part-clause-refused c =
    let p = err_from_is_err_and c.from_residual-in_err-part.result c.from_residual-in_err-part.ensures.1 in
    rw (p.1, p.2) (simple_refused c.args.self.now c.args.at c.in_err-part.field-0.0 (c.is_mark.ensures.none c.if-is_mark.false opening opens) c.in_err-part.ensures.refused)
