use Rattle.std.proofs.Common.{arith}
use Rattle.std.proofs.lemmas.Result.{err_from_is_err_and}
use Rattle.p21_parse.specs.Symbol.{comma, closing}
use Rattle.p21_parse.specs.View.{tree_of, trees_of}
use Rattle.p21_parse.proofs.Marks.{parts, closes}
use Rattle.p21_parse.proofs.Heading.{names_one, names_refused, names_open, names_read}
use Rattle.p21_parse.proofs.parser.Parser.schema_names.Goals as goal

pub schema_name-requires-in-loop-alloc-clause-at : goal.schema_name-requires-in-loop-alloc-clause-at
schema_name-requires-in-loop-alloc-clause-at c = let has = c.is_mark.ensures.found c.loop-alloc-test.true comma parts in omega (arith, has.within)

pub returns-in_err-next-clause-refused : goal.returns-in_err-next-clause-refused
returns-in_err-next-clause-refused c =
    let p = err_from_is_err_and c.from_residual-in_err-next.result c.from_residual-in_err-next.ensures.1 in
    rw (p.1, p.2) (names_refused c.args.self.now c.args.at c.loop-alloc.rest (trees_of c.loop-alloc.names) c.in_err-next.field-0.0 c.loop-alloc.invariant (c.is_mark.ensures.found c.loop-alloc-test.true comma parts) c.in_err-next.ensures.refused)

pub loop-alloc-preserved : goal.loop-alloc-preserved
loop-alloc-preserved c =
    names_one c.args.self.now c.args.at c.loop-alloc.rest c.in_ok-next.after (tree_of c.in_ok-next.next) (trees_of c.loop-alloc.names) (trees_of c.push-in-loop-alloc.new.self) c.in_ok-push-2.ensures.ok c.loop-alloc.invariant
    (c.is_mark.ensures.found c.loop-alloc-test.true comma parts) c.in_ok-next.ensures.read c.in_ok-next.ensures.is

pub returns-then-not-is_mark-clause-refused : goal.returns-then-not-is_mark-clause-refused
returns-then-not-is_mark-clause-refused c =
    names_open c.args.self.now c.args.at c.loop-alloc.rest (trees_of c.loop-alloc.names) c.loop-alloc.invariant (c.is_mark.ensures.none c.loop-alloc-test.false comma parts) (c.is_mark-2.ensures.none c.if-not-is_mark.true closing closes)

pub returns-clause-read : goal.returns-clause-read
returns-clause-read c = names_read c.args.self.now c.args.at c.loop-alloc.rest (trees_of c.loop-alloc.names) c.loop-alloc.invariant (c.is_mark-2.ensures.found c.if-not-is_mark.false closing closes)
