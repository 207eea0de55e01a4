use Rattle.std.proofs.Common.{◌++◌}
use Rattle.big_case.specs.Project.{opening, workplans, marks, security, tooling}
use Rattle.big_case.proofs.Putting.{adds}
use Rattle.big_case.proofs.front.put_front.Goals as goal

pub returns : goal.returns
returns c =
    let m1 = adds security tooling c.put_marks.new.items c.put_security.new.items c.put_tooling.new.items c.in_ok-put_security.ensures c.in_ok-put_tooling.ensures in
    let m2 = adds marks (security ++ tooling) c.put_workplans.new.items c.put_marks.new.items c.put_tooling.new.items c.in_ok-put_marks.ensures m1 in
    let m3 = adds (workplans c.args.steps) (marks ++ (security ++ tooling)) c.put_opening.new.items c.put_workplans.new.items c.put_tooling.new.items c.in_ok-put_workplans.ensures m2 in
    adds opening ((workplans c.args.steps) ++ (marks ++ (security ++ tooling))) c.args.items.now c.put_opening.new.items c.put_tooling.new.items c.in_ok-put_opening.ensures m3
