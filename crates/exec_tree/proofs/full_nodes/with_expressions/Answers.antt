use Rattle.std.proofs.Common.{rules, arith}
use Rattle.std.proofs.lemmas.Grind.{common_steps}
use Rattle.std.specs.Vec.Iter.{into_iter_items}
use Rattle.exec_tree.proofs.FullLemmas.{full_on}
use Rattle.exec_tree.proofs.full_nodes.with_expressions.Goals as goal

pub loop-node-preserved : goal.loop-node-preserved
loop-node-preserved g c = record {
  full = full_on (g.E.Entities.entities c.args.entities.now) c.loop-node.all.items c.push.new.self.items c.in-Some.node c.in_ok-with_expression.field-0 (into_iter_items c.loop-node.node-iterator) (into_iter_items c.next.new.self) c.args.nodes.items
      c.loop-node.invariant.full c.in-Some.ensures.steps.0 c.in_ok-with_expression.ensures.bare c.in_ok-with_expression.ensures.said c.in_ok-push.ensures.items;
  len = first_of (search rules, grind (arith, common_steps));
}
