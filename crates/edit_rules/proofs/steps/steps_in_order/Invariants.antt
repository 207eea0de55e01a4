use Rattle.std.proofs.Common.{take}
use Rattle.edit_rules.proofs.FaultLemmas.{SoFar}
use Rattle.edit_rules.proofs.steps.steps_in_order.Given as goal

abbrev pub invariant-loop-n : goal.invariant-loop-n
invariant-loop-n g l = SoFar l.store (take l.n-index l.numbers) l.steps.items
