use Rattle.std.proofs.Common.{◌∙◌}
use Rattle.controller.proofs.CallsLemmas.{check_of_files, check_unscripted}
use Rattle.controller.proofs.checking.check_files.Goals as goal

pub returns-in-Ok-script_at-clause-answer : goal.returns-in-Ok-script_at-clause-answer
returns-in-Ok-script_at-clause-answer g c =
    check_of_files (g.F.Files.holds c.args.files.now) (g.F.Files.holds c.project_at.new.files) (g.F.Files.holds c.script_at.new.files) (g.F.Files.faults c.args.files.now) (g.F.Files.faults c.project_at.new.files)
    (g.F.Files.faults c.script_at.new.files) (g.F.Files.faults c.judge_file.new.files) c.args.name.now c.args.script.now c.args.log.now c.in-Ok.project c.in-Ok-script_at.edits c.judge_file.result
    c.in-Ok.ensures.project (c.project_at.ensures.kept c.args.script.now) c.in-Ok-script_at.ensures.script (c.script_at.ensures.kept c.args.log.now ∙ c.project_at.ensures.kept c.args.log.now)
    (c.project_at.ensures.counted c.args.log.now) (c.script_at.ensures.counted c.args.log.now) c.judge_file.ensures.answer

pub returns-in-Err-script_at-clause-answer : goal.returns-in-Err-script_at-clause-answer
returns-in-Err-script_at-clause-answer g c =
    rw c.answer.ensures (check_unscripted (g.F.Files.holds c.args.files.now) (g.F.Files.holds c.project_at.new.files) (g.F.Files.faults c.args.files.now) (g.F.Files.faults c.project_at.new.files) (g.F.Files.faults c.script_at.new.files)
    c.args.name.now c.args.script.now c.args.log.now c.in-Ok.project c.in-Err-script_at.unheld c.in-Ok.ensures.project (c.project_at.ensures.kept c.args.script.now)
    (c.project_at.ensures.counted c.args.script.now) c.in-Err-script_at.ensures.script)
