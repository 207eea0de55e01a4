use Rattle.std.proofs.lemmas.Result.{err_from_is_err_and}
use Rattle.controller.proofs.CommandLemmas.{path_stops_1, path_stops_2, path_stops_3}
use Rattle.controller.proofs.command.path_of.Goals as goal

pub returns-in_err-project : goal.returns-in_err-project
returns-in_err-project c =
    let p = err_from_is_err_and c.from_residual.result c.from_residual.ensures.1 in
    rw (p.1, p.2) (path_stops_1 c.args.words.now c.in_err-project.field-0.0 c.requires c.in_err-project.ensures)

pub returns-in_err-step : goal.returns-in_err-step
returns-in_err-step c =
    let p = err_from_is_err_and c.from_residual-in_err-step.result c.from_residual-in_err-step.ensures.1 in
    rw (p.1, p.2) (path_stops_2 c.args.words.now c.in_ok-project.project.now c.in_err-step.field-0.0 c.requires c.in_ok-project.ensures c.in_err-step.ensures)

pub returns-in_err-end_at : goal.returns-in_err-end_at
returns-in_err-end_at c =
    let p = err_from_is_err_and c.from_residual-in_err-end_at.result c.from_residual-in_err-end_at.ensures.1 in
    rw (p.1, p.2) (path_stops_3 c.args.words.now c.in_ok-project.project.now c.in_ok-step.ensures.0 c.in_err-end_at.field-0.0 c.requires c.in_ok-project.ensures c.in_ok-step.ensures.1 c.in_err-end_at.ensures)
