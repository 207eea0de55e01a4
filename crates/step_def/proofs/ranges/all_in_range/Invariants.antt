use Rattle.std.proofs.Common.{◌≡◌, drop}
use Rattle.step_def.specs.Faults.{all_in_range}
use Rattle.step_def.proofs.ranges.all_in_range.Given as goal

abbrev pub invariant-loop-number : goal.invariant-loop-number
invariant-loop-number l = all_in_range (drop l.number-index l.numbers) ≡ all_in_range l.numbers
