use Rattle.std.proofs.Common.{◌≡◌, ◌∙◌, ◌<◌, ◌++◌, ◌∷◌, [], ap, sym, ℕ, true, false, List, length}
use Rattle.trace_law.specs.Cells.{picked}
use Rattle.run_frames.specs.declared.frame.Frame.{Frame}
use Rattle.run_frames.specs.Frames.{cells_of}
use Rattle.run_frames.specs.Told.{NodeCells, frame_at, is_picks}
use Rattle.run_frames.proofs.CellLemmas.{picks_are, picks_none}
use Rattle.run_frames.proofs.cells.Cells.count.Goals as goal

pub returns-then-is_picks : goal.returns-then-is_picks
returns-then-is_picks c =
    let s = c.self.inside in
    let frames = s.frames.items in
    let made = s.picks.made in
    let p = c.args.place in
    let frame = c.frame_at.ensures ∙ ap (λ (l : List Frame). frame_at l p) c.as_slice.ensures.value in
    let yes : is_picks (frame_at frames p) ≡ true = sym (c.is_picks.ensures ∙ ap is_picks frame) ∙ c.if-is_picks.true in
    c.count.ensures ∙ (ap (λ (ks : List ℕ). length ks) (sym (picks_are frames made p yes)) ∙ ap (λ (v : NodeCells). length (picked (cells_of v.cells p))) c.self.view_is)

pub returns-else-is_picks : goal.returns-else-is_picks
returns-else-is_picks c =
    let s = c.self.inside in
    let frames = s.frames.items in
    let made = s.picks.made in
    let p = c.args.place in
    let frame = c.frame_at.ensures ∙ ap (λ (l : List Frame). frame_at l p) c.as_slice.ensures.value in
    let no : is_picks (frame_at frames p) ≡ false = sym (c.is_picks.ensures ∙ ap is_picks frame) ∙ c.if-is_picks.false in
    ap (λ (ks : List ℕ). length ks) (sym (picks_none frames made p no)) ∙ ap (λ (v : NodeCells). length (picked (cells_of v.cells p))) c.self.view_is
