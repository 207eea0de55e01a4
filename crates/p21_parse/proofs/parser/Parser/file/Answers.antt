use Rattle.std.proofs.Common.{map}
use Rattle.std.proofs.lemmas.Result.{err_from_is_err_and}
use Rattle.p21_parse.specs.Parser.{spell_start}
use Rattle.p21_parse.specs.View.{part_of, instance_of}
use Rattle.p21_parse.proofs.Filing.{file_refused_1, file_refused_2, file_read}
use Rattle.p21_parse.proofs.parser.Parser.file.Goals as goal

pub returns-in_err-head-clause-refused : goal.returns-in_err-head-clause-refused
returns-in_err-head-clause-refused c =
    let p = err_from_is_err_and c.from_residual.result c.from_residual.ensures.1 in
    rw (p.1, p.2) (file_refused_1 c.args.self.now c.in_err-head.field-0.0 c.in_err-head.ensures.refused)

pub returns-in_err-items-clause-refused : goal.returns-in_err-items-clause-refused
returns-in_err-items-clause-refused c =
    let p = err_from_is_err_and c.from_residual-in_err-items.result c.from_residual-in_err-items.ensures.1 in
    rw (p.1, p.2) (file_refused_2 c.args.self.now c.in_ok-head.at (spell_start (map part_of c.in_ok-head.head)) c.in_err-items.field-0.0 c.in_ok-head.ensures.read c.in_err-items.ensures.refused)

pub returns-clause-read : goal.returns-clause-read
returns-clause-read c =
    file_read c.args.self.now c.in_ok-head.at (record { head = map part_of c.in_ok-head.head; items = map instance_of c.in_ok-items.items }) c.in_ok-head.ensures.read c.in_ok-head.ensures.is c.in_ok-items.ensures.read
