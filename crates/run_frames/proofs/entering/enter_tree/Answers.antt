use Rattle.std.proofs.Common.{subst, ℕ, Option}
use Rattle.tree_table.specs.Placed.{placed}
use Rattle.tree_table.specs.Table.{LeadsTo}
use Rattle.run_frames.proofs.EnterLemmas.{tree_entered, tree_void}
use Rattle.run_frames.proofs.entering.enter_tree.Goals as goal

pub enter_at-requires-clause-entrance : goal.enter_at-requires-clause-entrance
enter_at-requires-clause-entrance g c =
    let arena = c.args.tree.now.nodes in
    (subst (λ (o : Option ℕ). LeadsTo arena c.args.table.now.rows.items (placed arena) o) c.in-Some.is c.tree_into.ensures.leads).1

pub returns-in-Some-clause-moved : goal.returns-in-Some-clause-moved
returns-in-Some-clause-moved g c =
    let arena = c.args.tree.now.nodes in
    let rows = c.args.table.now.rows.items in
    let to = subst (λ (o : Option ℕ). LeadsTo arena rows (placed arena) o) c.in-Some.is c.tree_into.ensures.leads in
    tree_entered arena rows c.args.frames.now.cells c.enter_at.new.frames.cells c.args.set.now.all c.enter_at.new.set.all c.in-Some.into to c.enter_at.ensures.moved

pub returns-in_default-clause-moved : goal.returns-in_default-clause-moved
returns-in_default-clause-moved g c =
    let arena = c.args.tree.now.nodes in
    tree_void arena c.args.table.now.rows.items c.args.frames.now.cells c.args.set.now.all c.tree_into.result c.in_default.is c.tree_into.ensures.leads c.requires.unpicked
