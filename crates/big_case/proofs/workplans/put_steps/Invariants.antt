use Rattle.std.proofs.Common.{◌≡◌, ◌++◌}
use Rattle.big_case.specs.Project.{steps_of}
use Rattle.big_case.proofs.workplans.put_steps.Given as goal

abbrev pub invariant-loop-i : goal.invariant-loop-i
invariant-loop-i l = l.elements ≡ l.fn.elements ++ steps_of l.remainder l.i
