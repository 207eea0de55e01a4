use Rattle.std.proofs.Common.{◌≡◌, rules}
use Rattle.controller.specs.Case.{case_project, case_script}
use Rattle.controller.proofs.CallsLemmas.{case_unscripted}
use Rattle.controller.proofs.large_case.count_case.Goals as goal

pub returns-in-Ok-project_of : goal.returns-in-Ok-project_of
returns-in-Ok-project_of c =
    let made : c.bytes.result.now ≡ case_project c.args.steps c.args.start = search rules in
    let written : c.bytes-in-Ok-project_of.result.now ≡ case_script c.args.steps c.args.start = search rules in
    rw c.answer.ensures (case_unscripted c.args.steps c.args.start c.bytes.result.now c.bytes-in-Ok-project_of.result.now c.in-Ok-project_of.project c.in-Err-edits_of.unheld made c.in-Ok-project_of.ensures written
    c.in-Err-edits_of.ensures)
