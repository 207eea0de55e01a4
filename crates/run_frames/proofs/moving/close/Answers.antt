use Rattle.std.proofs.Common.{sym, subst}
use Rattle.frame_law.specs.Onward.{Done, onward}
use Rattle.tree_table.specs.Placed.{placed}
use Rattle.tree_table.specs.declared.row.Continuation.{Continuation}
use Rattle.run_frames.specs.Ways.{IsWay}
use Rattle.run_frames.proofs.WayLemmas.{way_at}
use Rattle.run_frames.proofs.CloseLemmas.{closed_by}
use Rattle.run_frames.proofs.moving.close.Goals as goal

pub go_on-requires-clause-way : goal.go_on-requires-clause-way
go_on-requires-clause-way g c =
    let arena = c.args.tree.now.nodes in
    let rows = c.args.table.now.rows.items in
    (onward (placed arena) Done c.args.place, subst (λ (k : Continuation). IsWay arena rows k (onward (placed arena) Done c.args.place)) (sym c.after_at.ensures) (way_at arena rows c.args.place c.requires.table c.requires.distinct c.requires.inside))

pub returns-clause-moved : goal.returns-clause-moved
returns-clause-moved g c =
    let arena = c.args.tree.now.nodes in
    let rows = c.args.table.now.rows.items in
    let way = subst (λ (k : Continuation). IsWay arena rows k (onward (placed arena) Done c.args.place)) (sym c.after_at.ensures) (way_at arena rows c.args.place c.requires.table c.requires.distinct c.requires.inside) in
    closed_by arena c.args.frames.now.cells c.go_on.new.frames.cells c.args.set.now.all c.remove.new.self.all c.go_on.new.set.all c.args.place c.remove.ensures.left (c.go_on.ensures.moved (onward (placed arena) Done c.args.place) way)

pub returns-clause-looks : goal.returns-clause-looks
returns-clause-looks g c =
    let arena = c.args.tree.now.nodes in
    let rows = c.args.table.now.rows.items in
    c.go_on.ensures.looks (onward (placed arena) Done c.args.place) (subst (λ (k : Continuation). IsWay arena rows k (onward (placed arena) Done c.args.place)) (sym c.after_at.ensures) (way_at arena rows c.args.place c.requires.table c.requires.distinct c.requires.inside))
