use Rattle.std.proofs.Common.{◌≡◌, drop}
use Rattle.step_def.specs.Faults.{all_positive}
use Rattle.step_def.proofs.check.all_positive.Given as goal

abbrev pub invariant-loop-quantity : goal.invariant-loop-quantity
invariant-loop-quantity l = all_positive (drop l.quantity-index l.figures) ≡ all_positive l.figures
