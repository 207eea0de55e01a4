use Rattle.std.proofs.lemmas.Result.{err_from_is_err_and}
use Rattle.controller.proofs.CommandLemmas.{whole_version, version_stops}
use Rattle.controller.proofs.command.version_of.Goals as goal

pub returns : goal.returns
returns c = whole_version c.args.words.now c.requires c.in_ok-end_at.ensures

pub returns-in_err-end_at : goal.returns-in_err-end_at
returns-in_err-end_at c =
    let p = err_from_is_err_and c.from_residual.result c.from_residual.ensures.1 in
    rw (p.1, p.2) (version_stops c.args.words.now c.in_err-end_at.field-0.0 c.requires c.in_err-end_at.ensures)
