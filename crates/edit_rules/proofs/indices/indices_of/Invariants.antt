use Rattle.std.proofs.Common.{take}
use Rattle.edit_rules.specs.Steps.{AreIndices, step_numbers}
use Rattle.edit_rules.proofs.indices.indices_of.Given as goal

abbrev pub invariant-loop-i : goal.invariant-loop-i
invariant-loop-i l = AreIndices l.indices (step_numbers (take l.i l.steps))
