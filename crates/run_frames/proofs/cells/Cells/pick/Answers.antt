use Rattle.std.proofs.Common.{◌≡◌, ◌∙◌, ◌<◌, ◌++◌, ◌∷◌, [], ap, sym, subst, arith, ℕ, true, false, List, length}
use Rattle.std.specs.Prelude.{slice_set}
use Rattle.std.proofs.lemmas.List.{length-set}
use Rattle.exec_tree.specs.Exec.{has}
use Rattle.run_frames.specs.declared.frame.Frame.TheVariants.{Picks}
use Rattle.pick_set.specs.Picks.{made_at, is_picked}
use Rattle.trace_law.specs.Cells.{Picked, picked}
use Rattle.trace_law.specs.Frames.{left}
use Rattle.run_frames.specs.declared.frame.Frame.{Frame}
use Rattle.run_frames.specs.Frames.{cells_of}
use Rattle.run_frames.specs.Told.{NodeCells, told_all, frame_at, is_picks}
use Rattle.run_frames.proofs.CellLemmas.{length_told, picks_are, pick_more, pick_first, left_first}
use Rattle.run_frames.proofs.cells.Cells.pick.Goals as goal

pub add-requires-clause-there : goal.add-requires-clause-there
add-requires-clause-there c =
    let s = c.self.inside in
    let frames = s.frames.items in
    let made = s.picks.made in
    let p = c.args.place in
    let inside : p < length (told_all frames made) = subst (λ (v : NodeCells). p < length v.cells) (sym c.self.view_is) c.requires.there in
    let long = length_told frames made in
    let same = c.self.invariant in
    let there : p < length made = omega (arith, inside, long, same) in
    there

pub add-requires-clause-left : goal.add-requires-clause-left
add-requires-clause-left c =
    let s = c.self.inside in
    let frames = s.frames.items in
    let made = s.picks.made in
    let p = c.args.place in
    let frame = c.frame_at.ensures ∙ ap (λ (l : List Frame). frame_at l p) c.as_slice.ensures.value in
    let yes : is_picks (frame_at frames p) ≡ true = sym (c.is_picks.ensures ∙ ap is_picks frame) ∙ c.if-is_picks.true in
    let left_now = ap (λ (v : NodeCells). has (picked (cells_of v.cells p)) c.args.index) c.self.view_is ∙ c.requires.left in
    ap (λ (ks : List ℕ). has ks c.args.index) (sym (picks_are frames made p yes)) ∙ left_now

pub returns-then-is_picks-clause-cells : goal.returns-then-is_picks-clause-cells
returns-then-is_picks-clause-cells c =
    let s = c.self.inside in
    let frames = s.frames.items in
    let made = s.picks.made in
    let p = c.args.place in
    let frame = c.frame_at.ensures ∙ ap (λ (l : List Frame). frame_at l p) c.as_slice.ensures.value in
    let yes : is_picks (frame_at frames p) ≡ true = sym (c.is_picks.ensures ∙ ap is_picks frame) ∙ c.if-is_picks.true in
    let inside : p < length (told_all frames made) = subst (λ (v : NodeCells). p < length v.cells) (sym c.self.view_is) c.requires.there in
    let long = length_told frames made in
    let same = c.self.invariant in
    let there : p < length made = omega (arith, inside, long, same) in
    ap (told_all frames) c.add.ensures.made ∙ (pick_more frames made p c.args.index there yes ∙ ap (λ (v : NodeCells). slice_set v.cells p (Picked (picked (cells_of v.cells p) ++ c.args.index ∷ []))) c.self.view_is)

pub index_mut-requires : goal.index_mut-requires
index_mut-requires c =
    let s = c.self.inside in
    let frames = s.frames.items in
    let made = s.picks.made in
    let p = c.args.place in
    let inside : p < length (told_all frames made) = subst (λ (v : NodeCells). p < length v.cells) (sym c.self.view_is) c.requires.there in
    let long = length_told frames made in
    let same = c.self.invariant in
    let there : p < length made = omega (arith, inside, long, same) in
    let len = s.frames.ok.0 in
    omega (arith, inside, long, len)

pub clear-requires : goal.clear-requires
clear-requires c =
    let s = c.self.inside in
    let frames = s.frames.items in
    let made = s.picks.made in
    let p = c.args.place in
    let inside : p < length (told_all frames made) = subst (λ (v : NodeCells). p < length v.cells) (sym c.self.view_is) c.requires.there in
    let long = length_told frames made in
    let same = c.self.invariant in
    let there : p < length made = omega (arith, inside, long, same) in
    there

pub add-requires-else-is_picks-clause-there : goal.add-requires-else-is_picks-clause-there
add-requires-else-is_picks-clause-there c =
    let s = c.self.inside in
    let frames = s.frames.items in
    let made = s.picks.made in
    let p = c.args.place in
    let inside : p < length (told_all frames made) = subst (λ (v : NodeCells). p < length v.cells) (sym c.self.view_is) c.requires.there in
    let long = length_told frames made in
    let same = c.self.invariant in
    let there : p < length made = omega (arith, inside, long, same) in
    let cleared = ap (λ (l : List (List ℕ)). length l) c.clear.ensures.made in
    let kept = length-set made p [] in
    omega (arith, there, cleared, kept)

pub add-requires-else-is_picks-clause-left : goal.add-requires-else-is_picks-clause-left
add-requires-else-is_picks-clause-left c =
    let s = c.self.inside in
    let frames = s.frames.items in
    let made = s.picks.made in
    let p = c.args.place in
    let inside : p < length (told_all frames made) = subst (λ (v : NodeCells). p < length v.cells) (sym c.self.view_is) c.requires.there in
    let long = length_told frames made in
    let same = c.self.invariant in
    let there : p < length made = omega (arith, inside, long, same) in
    ap (λ (l : List (List ℕ)). is_picked (made_at l p) c.args.index) c.clear.ensures.made ∙ left_first made p c.args.index there

pub returns-then-is_picks-clause-long : goal.returns-then-is_picks-clause-long
returns-then-is_picks-clause-long c =
    let s = c.self.inside in
    let frames = s.frames.items in
    let made = s.picks.made in
    let p = c.args.place in
    length_told _ _ ∙ (sym (length_told frames made) ∙ ap (λ (v : NodeCells). length v.cells) c.self.view_is)

pub returns-else-is_picks-clause-cells : goal.returns-else-is_picks-clause-cells
returns-else-is_picks-clause-cells c =
    let s = c.self.inside in
    let frames = s.frames.items in
    let made = s.picks.made in
    let p = c.args.place in
    let frame = c.frame_at.ensures ∙ ap (λ (l : List Frame). frame_at l p) c.as_slice.ensures.value in
    let no : is_picks (frame_at frames p) ≡ false = sym (c.is_picks.ensures ∙ ap is_picks frame) ∙ c.if-is_picks.false in
    let inside : p < length (told_all frames made) = subst (λ (v : NodeCells). p < length v.cells) (sym c.self.view_is) c.requires.there in
    let long = length_told frames made in
    let same = c.self.invariant in
    let there : p < length made = omega (arith, inside, long, same) in
    ap (told_all (slice_set frames p Picks)) (c.add-else-is_picks.ensures.made ∙ ap (λ (l : List (List ℕ)). slice_set l p (made_at l p ++ c.args.index ∷ [])) c.clear.ensures.made)
    ∙ (pick_first frames made p c.args.index there no ∙ ap (λ (v : NodeCells). slice_set v.cells p (Picked (picked (cells_of v.cells p) ++ c.args.index ∷ []))) c.self.view_is)

pub returns-else-is_picks-clause-long : goal.returns-else-is_picks-clause-long
returns-else-is_picks-clause-long c =
    let s = c.self.inside in
    let frames = s.frames.items in
    let made = s.picks.made in
    let p = c.args.place in
    length_told _ _ ∙ (length-set frames p Picks ∙ (sym (length_told frames made) ∙ ap (λ (v : NodeCells). length v.cells) c.self.view_is))
