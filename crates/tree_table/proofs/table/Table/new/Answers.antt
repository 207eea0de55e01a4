use Rattle.std.proofs.Common.{sym, subst, List}
use Rattle.exec_tree.specs.Exec.{nodes, AreDistinct}
use Rattle.exec_tree.specs.declared.node.BareNode.{BareNode}
use Rattle.tree_table.specs.Placed.{placed}
use Rattle.tree_table.proofs.OnceLemmas.{placed_once}
use Rattle.tree_table.proofs.table.Table.new.Goals as goal

pub fill-requires-clause-distinct : goal.fill-requires-clause-distinct
fill-requires-clause-distinct c =
    subst (λ (arena : List BareNode). AreDistinct (nodes (placed arena))) (sym c.nodes-arena.ensures.nodes) (placed_once c.args.tree.now.nodes c.nodes-arena.ensures.distinct)
