use Rattle.std.proofs.Common.{◌≡◌, ◌∙◌, ◌<◌, ◌++◌, ◌∷◌, [], ap, sym, ℕ, List}
use Rattle.pick_set.specs.Picks.{made_at}
use Rattle.trace_law.specs.Frames.{left}
use Rattle.run_frames.specs.declared.frame.Frame.{Frame}
use Rattle.run_frames.specs.Frames.{cells_of}
use Rattle.run_frames.specs.Told.{NodeCells, frame_at, left_in}
use Rattle.run_frames.proofs.CellLemmas.{left_told, cell_is}
use Rattle.run_frames.proofs.cells.Cells.left.Goals as goal

pub returns : goal.returns
returns c =
    let s = c.self.inside in
    let frames = s.frames.items in
    let made = s.picks.made in
    let p = c.args.place in
    let frame = c.frame_at.ensures ∙ ap (λ (l : List Frame). frame_at l p) c.as_slice.ensures.value in
    c.left_in.ensures ∙ (ap left_in frame ∙ (left_told (frame_at frames p) (made_at made p) ∙ (ap left (sym (cell_is frames made p)) ∙ ap (λ (v : NodeCells). left (cells_of v.cells p)) c.self.view_is)))
