use Rattle.std.proofs.lemmas.Result.{err_from_is_err_and}
use Rattle.controller.proofs.CommandLemmas.{check_stops_1, check_stops_2, check_stops_3, check_stops_4}
use Rattle.controller.proofs.command.check_of.Goals as goal

pub returns-in_err-project : goal.returns-in_err-project
returns-in_err-project c =
    let p = err_from_is_err_and c.from_residual.result c.from_residual.ensures.1 in
    rw (p.1, p.2) (check_stops_1 c.args.words.now c.in_err-project.field-0.0 c.requires c.in_err-project.ensures)

pub returns-in_err-script : goal.returns-in_err-script
returns-in_err-script c =
    let p = err_from_is_err_and c.from_residual-in_err-script.result c.from_residual-in_err-script.ensures.1 in
    rw (p.1, p.2) (check_stops_2 c.args.words.now c.in_ok-project.project.now c.in_err-script.field-0.0 c.requires c.in_ok-project.ensures c.in_err-script.ensures)

pub returns-in_err-log : goal.returns-in_err-log
returns-in_err-log c =
    let p = err_from_is_err_and c.from_residual-in_err-log.result c.from_residual-in_err-log.ensures.1 in
    rw (p.1, p.2) (check_stops_3 c.args.words.now c.in_ok-project.project.now c.in_ok-script.script.now c.in_err-log.field-0.0 c.requires c.in_ok-project.ensures c.in_ok-script.ensures c.in_err-log.ensures)

pub returns-in_err-end_at : goal.returns-in_err-end_at
returns-in_err-end_at c =
    let p = err_from_is_err_and c.from_residual-in_err-end_at.result c.from_residual-in_err-end_at.ensures.1 in
    rw (p.1, p.2) (check_stops_4 c.args.words.now c.in_ok-project.project.now c.in_ok-script.script.now c.in_ok-log.log.now c.in_err-end_at.field-0.0 c.requires c.in_ok-project.ensures c.in_ok-script.ensures c.in_ok-log.ensures
    c.in_err-end_at.ensures)
