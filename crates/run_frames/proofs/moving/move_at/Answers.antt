use Rattle.std.proofs.Common.{ap, sym, refl}
use Rattle.std.specs.Prelude.{option_copied}
use Rattle.exec_tree.specs.Said.{bare_of}
use Rattle.tree_table.proofs.PlacedLemmas.{look_some}
use Rattle.run_frames.proofs.LookLemmas.{node_first, node_only}
use Rattle.run_frames.proofs.moving.move_at.Goals as goal

pub move_leaf-requires-clause-node : goal.move_leaf-requires-clause-node
move_leaf-requires-clause-node g c =
    let node = c.in-Some.node.now in
    let at = look_some c.args.tree.now.nodes c.args.place _ node c.look_at.ensures.node (ap option_copied c.in-Some.is) in
    ((bare_of node).elements, record { node = bare_of node; at = at; kind_is = sym c.kind.ensures; elements_are = refl })

pub returns-in-NonSeq-clause-looks : goal.returns-in-NonSeq-clause-looks
returns-in-NonSeq-clause-looks g c = λ t s. node_first _ _ _ _ c.look_at.ensures.looks (c.move_picks.ensures.looks t s)

pub returns-in-Sel-clause-looks : goal.returns-in-Sel-clause-looks
returns-in-Sel-clause-looks g c = λ t s. node_first _ _ _ _ c.look_at.ensures.looks (c.move_choice.ensures.looks t s)

pub returns-in-If-clause-looks : goal.returns-in-If-clause-looks
returns-in-If-clause-looks g c = λ t s. node_first _ _ _ _ c.look_at.ensures.looks (c.move_branch.ensures.looks t s)

pub returns-in-While-clause-looks : goal.returns-in-While-clause-looks
returns-in-While-clause-looks g c = λ t s. node_first _ _ _ _ c.look_at.ensures.looks (c.move_turn.ensures.looks t s)

pub returns-in-Work-clause-looks : goal.returns-in-Work-clause-looks
returns-in-Work-clause-looks g c = λ t s. node_first _ _ _ _ c.look_at.ensures.looks (c.move_step.ensures.looks t s)

pub returns-in_default-kind-clause-looks : goal.returns-in_default-kind-clause-looks
returns-in_default-kind-clause-looks g c = λ t s. node_first _ _ _ _ c.look_at.ensures.looks (c.move_leaf.ensures.looks t s)

pub returns-in_default-clause-looks : goal.returns-in_default-clause-looks
returns-in_default-clause-looks g c = λ t s. node_only _ _ _ c.look_at.ensures.looks
