use Rattle.std.proofs.Common.{◌≡◌, length}
use Rattle.std.specs.Vec.Iter.{into_iter_items, into_iter_len}
use Rattle.exec_tree.proofs.FullLemmas.{AreFull}
use Rattle.exec_tree.proofs.full_nodes.with_expressions.Given as goal

-- those so far have what they say, and the iterator has the others
abbrev pub invariant-loop-node : goal.invariant-loop-node
invariant-loop-node g l = record {
  full : AreFull (g.E.Entities.entities l.entities) l.all.items (into_iter_items l.node-iterator) l.fn.nodes.items;
  len : into_iter_len l.node-iterator ≡ length (into_iter_items l.node-iterator);
}
