use Rattle.std.proofs.Common.{◌∷◌}
use Rattle.std.proofs.lemmas.Result.{err_from_is_err_and}
use Rattle.p21_parse.specs.Symbol.{semicolon}
use Rattle.p21_parse.specs.Machine.{endsec}
use Rattle.p21_parse.proofs.Filing.{last_refused_1, last_refused_2, last_read}
use Rattle.p21_parse.proofs.parser.Parser.last.Goals as goal

pub returns-in_err-end-clause-refused : goal.returns-in_err-end-clause-refused
returns-in_err-end-clause-refused c =
    let p = err_from_is_err_and c.from_residual.result c.from_residual.ensures.1 in
    rw (p.1, p.2) (last_refused_1 c.args.self.now c.args.at c.in_err-end.field-0.0 c.in_err-end.ensures.refused)

pub returns-in_err-next-clause-refused : goal.returns-in_err-next-clause-refused
returns-in_err-next-clause-refused c =
    let p = err_from_is_err_and c.from_residual-in_err-next.result c.from_residual-in_err-next.ensures.1 in
    rw (p.1, p.2) (last_refused_2 c.args.self.now c.args.at c.in_ok-end.end (λ r. endsec ∷ semicolon ∷ r) c.in_err-next.field-0.0 c.in_ok-end.ensures.read c.in_err-next.ensures.refused)

pub returns-clause-read : goal.returns-clause-read
returns-clause-read c = last_read c.args.self.now c.args.at c.in_ok-end.end c.in_ok-next.next c.in_ok-end.ensures.read c.in_ok-next.ensures.read
