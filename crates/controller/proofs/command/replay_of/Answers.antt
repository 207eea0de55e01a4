use Rattle.std.proofs.lemmas.Result.{err_from_is_err_and}
use Rattle.controller.proofs.CommandLemmas.{replay_stops_1, replay_stops_2, replay_stops_3, replay_stops_4, replay_stops_5}
use Rattle.controller.proofs.command.replay_of.Goals as goal

pub returns-in_err-project : goal.returns-in_err-project
returns-in_err-project c =
    let p = err_from_is_err_and c.from_residual.result c.from_residual.ensures.1 in
    rw (p.1, p.2) (replay_stops_1 c.args.words.now c.in_err-project.field-0.0 c.requires c.in_err-project.ensures)

pub returns-in_err-script : goal.returns-in_err-script
returns-in_err-script c =
    let p = err_from_is_err_and c.from_residual-in_err-script.result c.from_residual-in_err-script.ensures.1 in
    rw (p.1, p.2) (replay_stops_2 c.args.words.now c.in_ok-project.project.now c.in_err-script.field-0.0 c.requires c.in_ok-project.ensures c.in_err-script.ensures)

pub returns-in_err-schedule : goal.returns-in_err-schedule
returns-in_err-schedule c =
    let p = err_from_is_err_and c.from_residual-in_err-schedule.result c.from_residual-in_err-schedule.ensures.1 in
    rw (p.1, p.2) (replay_stops_3 c.args.words.now c.in_ok-project.project.now c.in_ok-script.script.now c.in_err-schedule.field-0.0 c.requires c.in_ok-project.ensures c.in_ok-script.ensures c.in_err-schedule.ensures)

pub returns-in_err-limit : goal.returns-in_err-limit
returns-in_err-limit c =
    let p = err_from_is_err_and c.from_residual-in_err-limit.result c.from_residual-in_err-limit.ensures.1 in
    rw (p.1, p.2) (replay_stops_4 c.args.words.now c.in_ok-project.project.now c.in_ok-script.script.now c.in_ok-schedule.schedule.now c.in_err-limit.field-0.0 c.requires c.in_ok-project.ensures c.in_ok-script.ensures c.in_ok-schedule.ensures
    c.in_err-limit.ensures)

pub returns-in_err-end_at : goal.returns-in_err-end_at
returns-in_err-end_at c =
    let p = err_from_is_err_and c.from_residual-in_err-end_at.result c.from_residual-in_err-end_at.ensures.1 in
    rw (p.1, p.2) (replay_stops_5 c.args.words.now c.in_ok-project.project.now c.in_ok-script.script.now c.in_ok-schedule.schedule.now c.in_ok-limit.ensures.0 c.in_err-end_at.field-0.0 c.requires c.in_ok-project.ensures c.in_ok-script.ensures c.in_ok-schedule.ensures
    c.in_ok-limit.ensures.1 c.in_err-end_at.ensures)
