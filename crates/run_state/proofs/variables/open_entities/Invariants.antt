use Rattle.run_state.specs.Opening.{AreOpening}
use Rattle.run_state.proofs.variables.open_entities.Given as goal

abbrev pub invariant-loop-i : goal.invariant-loop-i
invariant-loop-i l = AreOpening l.store l.i l.pairs.items
