use Rattle.std.proofs.lemmas.Result.{err_from_is_err_and}
use Rattle.controller.proofs.CommandLemmas.{big_stops_1, big_stops_2, big_stops_3}
use Rattle.controller.proofs.command.big_of.Goals as goal

pub returns-in_err-steps : goal.returns-in_err-steps
returns-in_err-steps c =
    let p = err_from_is_err_and c.from_residual.result c.from_residual.ensures.1 in
    rw (p.1, p.2) (big_stops_1 c.args.words.now c.in_err-steps.field-0.0 c.requires c.in_err-steps.ensures)

pub returns-in_err-start : goal.returns-in_err-start
returns-in_err-start c =
    let p = err_from_is_err_and c.from_residual-in_err-start.result c.from_residual-in_err-start.ensures.1 in
    rw (p.1, p.2) (big_stops_2 c.args.words.now c.in_ok-steps.ensures.0 c.in_err-start.field-0.0 c.requires c.in_ok-steps.ensures.1 c.in_err-start.ensures)

pub returns-in_err-end_at : goal.returns-in_err-end_at
returns-in_err-end_at c =
    let p = err_from_is_err_and c.from_residual-in_err-end_at.result c.from_residual-in_err-end_at.ensures.1 in
    rw (p.1, p.2) (big_stops_3 c.args.words.now c.in_ok-steps.ensures.0 c.in_ok-start.ensures.0 c.in_err-end_at.field-0.0 c.requires c.in_ok-steps.ensures.1 c.in_ok-start.ensures.1 c.in_err-end_at.ensures)
