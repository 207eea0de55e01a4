use Rattle.std.proofs.Common.{map, arith}
use Rattle.std.proofs.lemmas.Result.{err_from_is_err_and}
use Rattle.p21_parse.specs.Spell.{spell_instance, spell_all}
use Rattle.p21_parse.specs.Parser.{spell_last}
use Rattle.p21_parse.specs.View.{instance_of}
use Rattle.p21_parse.proofs.Filing.{rest_refused_1, rest_refused_2, rest_late, rest_read}
use Rattle.p21_parse.proofs.parser.Parser.rest.Goals as goal

pub returns-in_err-items-clause-refused : goal.returns-in_err-items-clause-refused
returns-in_err-items-clause-refused c =
    let p = err_from_is_err_and c.from_residual.result c.from_residual.ensures.1 in
    rw (p.1, p.2) (rest_refused_1 c.args.self.now c.args.at c.in_err-items.field-0.0 c.in_err-items.ensures.refused)

pub returns-in_err-end-clause-refused : goal.returns-in_err-end-clause-refused
returns-in_err-end-clause-refused c =
    let p = err_from_is_err_and c.from_residual-in_err-end.result c.from_residual-in_err-end.ensures.1 in
    rw (p.1, p.2) (rest_refused_2 c.args.self.now c.args.at c.in_ok-items.rest (λ r. spell_all spell_instance (map instance_of c.in_ok-items.items) r) c.in_err-end.field-0.0 c.in_ok-items.ensures.read c.in_ok-items.ensures.end c.in_err-end.ensures.refused)

pub returns-then-end-self-clause-refused : goal.returns-then-end-self-clause-refused
returns-then-end-self-clause-refused c =
    rest_late c.args.self.now c.args.at c.in_ok-items.rest c.in_ok-end.end (λ r. spell_all spell_instance (map instance_of c.in_ok-items.items) r) spell_last c.in_ok-items.ensures.read c.in_ok-items.ensures.end c.in_ok-end.ensures.read (omega arith)

pub returns-clause-read : goal.returns-clause-read
returns-clause-read c =
    rest_read c.args.self.now c.args.at c.in_ok-items.rest c.in_ok-end.end (map instance_of c.in_ok-items.items) c.in_ok-items.ensures.read c.in_ok-items.ensures.end c.in_ok-items.ensures.are c.in_ok-end.ensures.read (omega arith)
