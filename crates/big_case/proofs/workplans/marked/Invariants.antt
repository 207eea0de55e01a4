use Rattle.std.proofs.Common.{◌≡◌, take, ◌++◌}
use Rattle.big_case.proofs.workplans.marked.Given as goal

abbrev pub invariant-loop-number : goal.invariant-loop-number
invariant-loop-number l = l.elements ≡ l.initial.elements ++ take l.number-index l.others
