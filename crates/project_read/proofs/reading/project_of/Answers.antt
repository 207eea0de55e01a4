use Rattle.std.proofs.lemmas.Result.{err_from_is_err_and}
use Rattle.project_read.proofs.Holding.{not_accepted, accepted}
use Rattle.project_read.proofs.reading.project_of.Goals as goal

pub returns-in_err-accept : goal.returns-in_err-accept
returns-in_err-accept c =
    let p = err_from_is_err_and c.from_residual.result c.from_residual.ensures.1 in
    rw (p.1, p.2) (λ bytes has. not_accepted bytes c.args.store c.in_err-accept.field-0.0 has c.in_err-accept.ensures)

pub returns : goal.returns
returns c = λ bytes has. accepted bytes c.args.store c.in_ok-accept.field-0 has c.in_ok-accept.ensures
