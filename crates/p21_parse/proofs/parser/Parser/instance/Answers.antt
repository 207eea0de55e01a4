use Rattle.std.proofs.Common.{map, arith}
use Rattle.std.proofs.lemmas.Result.{err_from_is_err_and}
use Rattle.p21_parse.specs.Symbol.{equals, semicolon}
use Rattle.p21_parse.specs.Spell.{spell_parts}
use Rattle.p21_parse.specs.View.{part_of}
use Rattle.p21_parse.proofs.Marks.{equates, ends}
use Rattle.p21_parse.proofs.Parting.{instance_bare, instance_empty, instance_open, instance_read}
use Rattle.p21_parse.proofs.parser.Parser.instance.Goals as goal

pub returns-in_err-start-clause-refused : goal.returns-in_err-start-clause-refused
returns-in_err-start-clause-refused c =
    let p = err_from_is_err_and c.from_residual.result c.from_residual.ensures.1 in
    rw (p.1, p.2) (instance_bare c.args.self.now c.args.at c.in_err-start.field-0.0 (c.in_err-start.ensures.refused equals 0 equates))

pub body-requires-clause-at : goal.body-requires-clause-at
body-requires-clause-at c = let has = c.in_ok-start.ensures.found equals equates in omega (arith, has.within, c.in_ok-start.ensures.next)

pub returns-in_err-body-clause-refused : goal.returns-in_err-body-clause-refused
returns-in_err-body-clause-refused c =
    let p = err_from_is_err_and c.from_residual-in_err-body.result c.from_residual-in_err-body.ensures.1 in
    rw (p.1, p.2) (instance_empty c.args.self.now c.args.at c.in_err-body.field-0.0 (c.in_ok-start.ensures.found equals equates) (rw c.in_ok-start.ensures.next at c.in_err-body.ensures.refused))

pub returns-in_err-next-clause-refused : goal.returns-in_err-next-clause-refused
returns-in_err-next-clause-refused c =
    let p = err_from_is_err_and c.from_residual-in_err-next.result c.from_residual-in_err-next.ensures.1 in
    rw (p.1, p.2) (instance_open c.args.self.now c.args.at c.in_ok-body.after (spell_parts c.in_ok-body.body.complex (map part_of c.in_ok-body.body.parts)) c.in_err-next.field-0.0 (c.in_ok-start.ensures.found equals equates)
    (rw c.in_ok-start.ensures.next at c.in_ok-body.ensures.read) (c.in_err-next.ensures.refused semicolon 0 ends))

pub returns-clause-read : goal.returns-clause-read
returns-clause-read c =
    instance_read c.args.self.now c.args.at c.in_ok-body.after c.in_ok-next.next (spell_parts c.in_ok-body.body.complex (map part_of c.in_ok-body.body.parts)) (c.in_ok-start.ensures.found equals equates)
    (rw c.in_ok-start.ensures.next at c.in_ok-body.ensures.read) (c.in_ok-next.ensures.found semicolon ends) c.in_ok-next.ensures.next
