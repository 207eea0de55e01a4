use Rattle.std.proofs.Common.{◌-◌, subst, ℕ, Option}
use Rattle.tree_table.specs.Placed.{placed_down}
use Rattle.tree_table.specs.Rows.{levels_at}
use Rattle.tree_table.specs.Table.{LeadsTo}
use Rattle.run_frames.proofs.CloseLemmas.{opened_by, void_by}
use Rattle.run_frames.proofs.LookLemmas.{opens_led, opens_void}
use Rattle.run_frames.proofs.moving.open_instead.Goals as goal

pub returns-in-Some-clause-moved : goal.returns-in-Some-clause-moved
returns-in-Some-clause-moved g c =
    let arena = c.args.tree.now.nodes in
    let rows = c.args.table.now.rows.items in
    let levels = levels_at rows c.args.place - 1 in
    let to = subst (λ (o : Option ℕ). LeadsTo arena rows (placed_down arena levels c.args.element) o) c.in-Some.is c.element_into.ensures.leads in
    opened_by arena rows c.args.frames.now.cells c.enter_at.new.frames.cells c.args.set.now.all c.remove.new.self.all c.enter_at.new.set.all c.args.place levels c.args.element c.in-Some.into c.remove.ensures.left to c.enter_at.ensures.moved

pub returns-in-None-clause-moved : goal.returns-in-None-clause-moved
returns-in-None-clause-moved g c =
    let arena = c.args.tree.now.nodes in
    let rows = c.args.table.now.rows.items in
    void_by arena rows c.args.frames.now.cells c.args.set.now.all (levels_at rows c.args.place - 1) c.args.element c.element_into.result c.in-None.is c.element_into.ensures.leads c.requires.unpicked

pub returns-in-Some-clause-looks : goal.returns-in-Some-clause-looks
returns-in-Some-clause-looks g c =
    let arena = c.args.tree.now.nodes in
    let rows = c.args.table.now.rows.items in
    let levels = levels_at rows c.args.place - 1 in
    let to = subst (λ (o : Option ℕ). LeadsTo arena rows (placed_down arena levels c.args.element) o) c.in-Some.is c.element_into.ensures.leads in
    opens_led arena rows levels c.args.element c.in-Some.into _ _ _ to c.element_into.ensures.looks c.enter_at.ensures.looks

pub returns-in-None-clause-looks : goal.returns-in-None-clause-looks
returns-in-None-clause-looks g c = opens_void (placed_down c.args.tree.now.nodes (levels_at c.args.table.now.rows.items c.args.place - 1) c.args.element) _ _ c.element_into.ensures.looks
