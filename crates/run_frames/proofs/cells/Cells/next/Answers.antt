use Rattle.std.proofs.Common.{◌≡◌, ◌∙◌, ◌<◌, ◌++◌, ◌∷◌, [], ap, sym, subst, refl, arith, ℕ, true, false, List}
use Rattle.std.specs.Prelude.{slice_index}
use Rattle.pick_set.specs.Picks.{IsLeastLeft}
use Rattle.trace_law.specs.Cells.{picked}
use Rattle.trace_law.specs.Frames.{left}
use Rattle.run_frames.specs.declared.frame.Frame.{Frame}
use Rattle.run_frames.specs.Frames.{cells_of}
use Rattle.run_frames.specs.Told.{NodeCells, frame_at, is_picks}
use Rattle.run_frames.proofs.CellLemmas.{picks_are, picks_none}
use Rattle.run_frames.proofs.cells.Cells.next.Goals as goal

pub returns-then-is_picks : goal.returns-then-is_picks
returns-then-is_picks c =
    let s = c.self.inside in
    let frames = s.frames.items in
    let made = s.picks.made in
    let p = c.args.place in
    let frame = c.frame_at.ensures ∙ ap (λ (l : List Frame). frame_at l p) c.as_slice.ensures.value in
    let yes : is_picks (frame_at frames p) ≡ true = sym (c.is_picks.ensures ∙ ap is_picks frame) ∙ c.if-is_picks.true in
    subst (λ (v : NodeCells). IsLeastLeft (slice_index v.rooms p) (picked (cells_of v.cells p)) c.next.result) c.self.view_is
    (subst (λ (ks : List ℕ). IsLeastLeft (slice_index s.picks.rooms p) ks c.next.result) (sym (picks_are frames made p yes)) c.next.ensures)

pub returns-else-is_picks : goal.returns-else-is_picks
returns-else-is_picks c =
    let s = c.self.inside in
    let frames = s.frames.items in
    let made = s.picks.made in
    let p = c.args.place in
    let frame = c.frame_at.ensures ∙ ap (λ (l : List Frame). frame_at l p) c.as_slice.ensures.value in
    let no : is_picks (frame_at frames p) ≡ false = sym (c.is_picks.ensures ∙ ap is_picks frame) ∙ c.if-is_picks.false in
    subst (λ (v : NodeCells). IsLeastLeft (slice_index v.rooms p) (picked (cells_of v.cells p)) 0) c.self.view_is
    (subst (λ (ks : List ℕ). IsLeastLeft (slice_index s.picks.rooms p) ks 0) (sym (picks_none frames made p no)) (record { within = omega arith; before = λ j l. absurd (omega (arith, l)); left = λ l. refl }))
