use Rattle.std.proofs.Common.{arith}
use Rattle.std.proofs.lemmas.Result.{err_from_is_err_and}
use Rattle.p21_parse.specs.Symbol.{closing, semicolon}
use Rattle.p21_parse.specs.Spell.{spell_list}
use Rattle.p21_parse.specs.View.{trees_of}
use Rattle.p21_parse.proofs.Marks.{closes, ends}
use Rattle.p21_parse.proofs.Heading.{schema_missing, schema_endless, schema_read, schema_is}
use Rattle.p21_parse.proofs.parser.Parser.schema.Goals as goal

pub returns-in_err-start-clause-refused : goal.returns-in_err-start-clause-refused
returns-in_err-start-clause-refused c =
    let p = err_from_is_err_and c.from_residual.result c.from_residual.ensures.1 in
    rw (p.1, p.2) (schema_missing c.args.self.now c.args.at c.in_err-start.field-0.0 (c.in_err-start.ensures.refused 0))

pub mark-requires-2-clause-at : goal.mark-requires-2-clause-at
mark-requires-2-clause-at c = let has = c.in_ok-close.ensures.found closing closes in omega (arith, has.within, c.in_ok-close.ensures.next)

pub returns-in_err-next-clause-refused : goal.returns-in_err-next-clause-refused
returns-in_err-next-clause-refused c =
    let p = err_from_is_err_and c.from_residual-in_err-next.result c.from_residual-in_err-next.ensures.1 in
    let outer = rw c.in_ok-start.ensures.next at c.in_ok-outer.ensures.found.0 in
    let inner = rw (c.in_ok-outer.ensures.next, c.in_ok-start.ensures.next) at c.in_ok-inner.ensures.found.0 in
    rw (p.1, p.2) (schema_endless c.args.self.now c.args.at c.in_ok-names.after (spell_list (trees_of c.in_ok-names.names)) c.in_err-next.field-0.0 c.in_ok-start.ensures.found outer inner
    (rw (c.in_ok-inner.ensures.next, c.in_ok-outer.ensures.next, c.in_ok-start.ensures.next) at c.in_ok-names.ensures.read) (c.in_ok-close.ensures.found closing closes)
    (rw c.in_ok-close.ensures.next at (c.in_err-next.ensures.refused semicolon 0 ends)))

pub returns-clause-read : goal.returns-clause-read
returns-clause-read c =
    let outer = rw c.in_ok-start.ensures.next at c.in_ok-outer.ensures.found.0 in
    let inner = rw (c.in_ok-outer.ensures.next, c.in_ok-start.ensures.next) at c.in_ok-inner.ensures.found.0 in
    schema_read c.args.self.now c.args.at c.in_ok-names.after c.in_ok-next.next (trees_of c.in_ok-names.names) (record { keyword = c.in_ok-keyword.keyword; parameters = trees_of c.in_ok-parameters.parameters }) c.in_ok-keyword.ensures c.in_ok-parameters.ensures
    c.in_ok-start.ensures.found outer inner (rw (c.in_ok-inner.ensures.next, c.in_ok-outer.ensures.next, c.in_ok-start.ensures.next) at c.in_ok-names.ensures.read) (c.in_ok-close.ensures.found closing closes)
    (rw c.in_ok-close.ensures.next at (c.in_ok-next.ensures.found semicolon ends)) (rw c.in_ok-close.ensures.next at c.in_ok-next.ensures.next)

pub returns-clause-is : goal.returns-clause-is
returns-clause-is c =
    schema_is (trees_of c.in_ok-names.names) (record { keyword = c.in_ok-keyword.keyword; parameters = trees_of c.in_ok-parameters.parameters }) c.in_ok-keyword.ensures c.in_ok-parameters.ensures c.in_ok-names.ensures.are
