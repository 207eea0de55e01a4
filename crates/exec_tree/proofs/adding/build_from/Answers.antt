use Rattle.std.proofs.Common.{subst, sym}
use Rattle.exec_tree.specs.Built.{TreeValue, IsTreeFrom}
use Rattle.exec_tree.proofs.BuiltLemmas.{planted, starting, held_distinct, held_choices, held_named, held_preorder}
use Rattle.exec_tree.proofs.adding.build_from.Goals as goal

pub returns-clause-tree : goal.returns-clause-tree
returns-clause-tree g c =
    let entities = g.E.Entities.entities c.args.entities.now in
    subst (λ (t : TreeValue). IsTreeFrom (starting c.args.channels c.args.fixed) entities c.args.main t) (sym c.in_ok-tree.ensures)
    (planted entities c.args.main c.in_ok-add.field-0 c.args.channels c.args.fixed c.new-walk.result c.add.new.walk c.new-walk.ensures c.in_ok-add.ensures.grown c.in_ok-add.ensures.held)

pub into_tree-requires-clause-distinct : goal.into_tree-requires-clause-distinct
into_tree-requires-clause-distinct g c =
    held_distinct (g.E.Entities.entities c.args.entities.now) c.args.main c.in_ok-add.field-0 c.args.channels c.args.fixed c.new-walk.result c.add.new.walk c.new-walk.ensures c.in_ok-add.ensures.grown c.in_ok-add.ensures.held

pub into_tree-requires-clause-named : goal.into_tree-requires-clause-named
into_tree-requires-clause-named g c =
    held_named (g.E.Entities.entities c.args.entities.now) c.args.main c.args.channels c.args.fixed c.new-walk.result c.add.new.walk c.new-walk.ensures c.in_ok-add.ensures.grown

pub into_tree-requires-clause-preorder : goal.into_tree-requires-clause-preorder
into_tree-requires-clause-preorder g c =
    held_preorder (g.E.Entities.entities c.args.entities.now) c.args.main c.in_ok-add.field-0 c.args.channels c.args.fixed c.new-walk.result c.add.new.walk c.new-walk.ensures c.in_ok-add.ensures.grown c.in_ok-add.ensures.held

pub into_tree-requires-clause-choices : goal.into_tree-requires-clause-choices
into_tree-requires-clause-choices g c =
    held_choices (g.E.Entities.entities c.args.entities.now) c.args.main c.in_ok-add.field-0 c.args.channels c.args.fixed c.new-walk.result c.add.new.walk c.new-walk.ensures c.in_ok-add.ensures.grown c.in_ok-add.ensures.held
