use Rattle.std.proofs.Common.{◌≡◌, ◌≤◌, ◌+◌, ◌∙◌, ◌++◌, ◌∷◌, [], ap, sym, subst, List}
use Rattle.std.specs.Prelude.{slice_set}
use Rattle.exec_tree.specs.declared.kind.Kind.TheVariants as kind
use Rattle.frame_law.specs.Looks.{way_looks}
use Rattle.frame_law.specs.Onward.{Done, onward}
use Rattle.tree_table.specs.Placed.{placed}
use Rattle.run_frames.specs.Frames.{cells_of}
use Rattle.run_frames.specs.Renaming.{entry_at}
use Rattle.run_frames.specs.Entries.{cut}
use Rattle.run_frames.specs.Entered.{AreUnpickedIn}
use Rattle.run_frames.specs.Held.{IsHeld}
use Rattle.run_frames.proofs.StepLemmas.{step_within}
use Rattle.run_frames.proofs.CloseLemmas.{closed_from}
use Rattle.run_frames.proofs.WorkLemmas.{work_goes_on, work_is_over, work_unpicked}
use Rattle.run_frames.proofs.LookLemmas.{work_looked}
use Rattle.run_frames.proofs.moving.move_step.Goals as goal
use Rattle.trace_law.specs.Cells.{Cell}

pub close-requires-clause-unpicked : goal.close-requires-clause-unpicked
close-requires-clause-unpicked g c =
    let arena = c.args.tree.now.nodes in
    let is : c.put.new.self.cells ≡ slice_set c.args.frames.now.cells c.args.place (cut c.args.entry.now) = c.put.ensures.cells ∙ ap (slice_set c.args.frames.now.cells c.args.place) c.cut.ensures in
    let s = c.requires.moves.1 in
    let l = step_within arena c.args.frames.now.cells c.args.set.now.all c.requires.moves.0 c.args.place c.args.entry.now kind.Work c.args.elements.now s c.requires.node in
    subst (λ (w : List Cell). AreUnpickedIn arena w) (sym is) (work_unpicked arena c.args.frames.now.cells c.args.place (cut c.args.entry.now) c.args.elements.now l c.requires.node s.held.unpicked)

pub returns-then-ends-clause-moved : goal.returns-then-ends-clause-moved
returns-then-ends-clause-moved g c = λ t s.
    let arena = c.args.tree.now.nodes in
    let is : c.put.new.self.cells ≡ slice_set c.args.frames.now.cells c.args.place (cut c.args.entry.now) = c.put.ensures.cells ∙ ap (slice_set c.args.frames.now.cells c.args.place) c.cut.ensures in
    let l = step_within arena c.args.frames.now.cells c.args.set.now.all t c.args.place c.args.entry.now kind.Work c.args.elements.now s c.requires.node in
    work_is_over arena c.args.table.now.rows.items c.args.frames.now.cells c.close.new.frames.cells c.args.set.now.all c.close.new.set.all t c.args.place c.args.entry.now c.args.elements.now c.requires.table c.requires.distinct c.requires.node l (sym c.ends.ensures ∙ c.if-ends.true) s
    (closed_from arena c.put.new.self.cells (slice_set c.args.frames.now.cells c.args.place (cut c.args.entry.now)) c.close.new.frames.cells c.args.set.now.all c.close.new.set.all c.args.place is c.close.ensures.moved)

pub returns-else-ends-clause-moved : goal.returns-else-ends-clause-moved
returns-else-ends-clause-moved g c = λ t s.
    let arena = c.args.tree.now.nodes in
    let is : c.put.new.self.cells ≡ slice_set c.args.frames.now.cells c.args.place (cut c.args.entry.now) = c.put.ensures.cells ∙ ap (slice_set c.args.frames.now.cells c.args.place) c.cut.ensures in
    let l = step_within arena c.args.frames.now.cells c.args.set.now.all t c.args.place c.args.entry.now kind.Work c.args.elements.now s c.requires.node in
    subst (λ (w : List Cell). IsHeld arena w c.args.set.now.all (t ++ entry_at c.args.place c.args.entry.now ∷ [])) (sym is)
    (work_goes_on arena c.args.table.now.rows.items c.args.frames.now.cells c.args.set.now.all t c.args.place c.args.entry.now c.args.elements.now c.requires.table c.requires.distinct c.requires.node l (sym c.ends.ensures ∙ c.if-ends.false) s)

pub returns-then-ends-clause-looks : goal.returns-then-ends-clause-looks
returns-then-ends-clause-looks g c = λ t s.
    let arena = c.args.tree.now.nodes in
    let is : c.put.new.self.cells ≡ slice_set c.args.frames.now.cells c.args.place (cut c.args.entry.now) = c.put.ensures.cells ∙ ap (slice_set c.args.frames.now.cells c.args.place) c.cut.ensures in
    work_looked arena c.args.table.now.rows.items c.args.frames.now.cells c.args.set.now.all t c.args.place c.args.entry.now c.args.elements.now _ _ c.requires.table c.requires.distinct c.requires.node s (sym c.ends.ensures ∙ c.if-ends.true)
    (subst (λ (w : List Cell). c.close.new.steps ≤ c.args.steps.now + way_looks (cells_of w) (onward (placed arena) Done c.args.place)) is c.close.ensures.looks)
