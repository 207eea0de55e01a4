use Rattle.std.proofs.Common.{◌∙◌}
use Rattle.controller.proofs.CallsLemmas.{run_of_files, unscripted}
use Rattle.controller.proofs.replaying.replay_files.Goals as goal

pub returns-in-Ok-script_at-clause-answer : goal.returns-in-Ok-script_at-clause-answer
returns-in-Ok-script_at-clause-answer g c =
    run_of_files (g.F.Files.holds c.args.files.now) (g.F.Files.holds c.project_at.new.files) (g.F.Files.holds c.script_at.new.files) (g.F.Files.faults c.args.files.now) (g.F.Files.faults c.project_at.new.files)
    (g.F.Files.faults c.script_at.new.files) (g.F.Files.faults c.run_under.new.files) c.args.name.now c.args.script.now c.args.schedule.now c.args.limit c.in-Ok.project c.in-Ok-script_at.edits c.run_under.result
    c.in-Ok.ensures.project (c.project_at.ensures.kept c.args.script.now) c.in-Ok-script_at.ensures.script (c.script_at.ensures.kept c.args.schedule.now ∙ c.project_at.ensures.kept c.args.schedule.now)
    (c.project_at.ensures.counted c.args.schedule.now) (c.script_at.ensures.counted c.args.schedule.now) c.run_under.ensures.answer

pub returns-in-Err-script_at-clause-answer : goal.returns-in-Err-script_at-clause-answer
returns-in-Err-script_at-clause-answer g c =
    rw c.answer.ensures (unscripted (g.F.Files.holds c.args.files.now) (g.F.Files.holds c.project_at.new.files) (g.F.Files.faults c.args.files.now) (g.F.Files.faults c.project_at.new.files) (g.F.Files.faults c.script_at.new.files)
    c.args.name.now c.args.script.now c.args.schedule.now c.args.limit c.in-Ok.project c.in-Err-script_at.unheld c.in-Ok.ensures.project (c.project_at.ensures.kept c.args.script.now)
    (c.project_at.ensures.counted c.args.script.now) c.in-Err-script_at.ensures.script)
