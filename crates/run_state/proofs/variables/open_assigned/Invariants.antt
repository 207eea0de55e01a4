use Rattle.std.specs.Prelude.{length, map}
use Rattle.exec_tree.specs.Said.{said_by}
use Rattle.run_state.specs.Opening.{AreOpening, AreAssigned}
use Rattle.run_state.proofs.variables.open_assigned.Given as goal

abbrev pub invariant-loop-node : goal.invariant-loop-node
invariant-loop-node l =
    record {
      opening : AreOpening l.store (length l.store) l.pairs.items;
      assigned : AreAssigned (map said_by l.nodes) l.node-index l.pairs.items;
    }
