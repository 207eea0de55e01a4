use Rattle.trace_law.specs.Cells.{Cell, Over}
use Rattle.std.proofs.Common.{◌≤◌, ◌+◌, sym, subst, List}
use Rattle.std.specs.Prelude.{slice_set}
use Rattle.frame_law.specs.Looks.{way_looks}
use Rattle.frame_law.specs.Onward.{Done, onward}
use Rattle.tree_table.specs.Placed.{placed}
use Rattle.run_frames.specs.Frames.{cells_of}
use Rattle.run_frames.specs.Entered.{AreUnpickedIn}
use Rattle.run_frames.proofs.CloseLemmas.{closed_from}
use Rattle.run_frames.proofs.StepLemmas.{step_within, leaf_picks_not}
use Rattle.run_frames.proofs.WorkLemmas.{leaf_is_over, other_unpicked}
use Rattle.run_frames.proofs.LookLemmas.{leaf_looked}
use Rattle.run_frames.proofs.moving.move_leaf.Goals as goal

pub close-requires-clause-unpicked : goal.close-requires-clause-unpicked
close-requires-clause-unpicked g c =
    let arena = c.args.tree.now.nodes in
    let s = c.requires.moves.1 in
    let n = c.requires.node in
    let l = step_within arena c.args.frames.now.cells c.args.set.now.all c.requires.moves.0 c.args.place c.args.entry.now c.args.kind n.0 s n.1 in
    subst (λ (w : List Cell). AreUnpickedIn arena w) (sym c.put.ensures.cells) (other_unpicked arena c.args.frames.now.cells c.args.place Over c.args.kind n.0 l n.1 (leaf_picks_not c.args.kind c.requires.leaf) s.held.unpicked)

pub returns-clause-moved : goal.returns-clause-moved
returns-clause-moved g c = λ t s.
    let arena = c.args.tree.now.nodes in
    let n = c.requires.node in
    let l = step_within arena c.args.frames.now.cells c.args.set.now.all t c.args.place c.args.entry.now c.args.kind n.0 s n.1 in
    leaf_is_over arena c.args.table.now.rows.items c.args.frames.now.cells c.close.new.frames.cells c.args.set.now.all c.close.new.set.all t c.args.place c.args.entry.now c.args.kind n.0 c.requires.table c.requires.distinct n.1 c.requires.leaf l s
    (closed_from arena c.put.new.self.cells (slice_set c.args.frames.now.cells c.args.place Over) c.close.new.frames.cells c.args.set.now.all c.close.new.set.all c.args.place c.put.ensures.cells c.close.ensures.moved)

pub returns-clause-looks : goal.returns-clause-looks
returns-clause-looks g c = λ t s.
    let n = c.requires.node in
    leaf_looked c.args.tree.now.nodes c.args.table.now.rows.items c.args.frames.now.cells c.args.set.now.all t c.args.place Over c.args.entry.now c.args.kind n.0 _ _ c.requires.table c.requires.distinct n.1 c.requires.leaf s
    (subst (λ (w : List Cell). c.close.new.steps ≤ c.args.steps.now + way_looks (cells_of w) (onward (placed c.args.tree.now.nodes) Done c.args.place)) c.put.ensures.cells c.close.ensures.looks)
