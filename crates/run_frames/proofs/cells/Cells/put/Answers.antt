use Rattle.std.proofs.Common.{◌≡◌, ◌∙◌, ◌<◌, ◌++◌, ◌∷◌, [], ap, sym, subst, arith, ℕ, false, length}
use Rattle.std.specs.Prelude.{slice_set}
use Rattle.std.proofs.lemmas.List.{length-set}
use Rattle.run_frames.specs.Told.{NodeCells, told, told_all, is_picks}
use Rattle.run_frames.proofs.CellLemmas.{length_told, put_plain, put_both}
use Rattle.run_frames.proofs.cells.Cells.put.Goals as goal

pub index_mut-requires : goal.index_mut-requires
index_mut-requires c =
    let s = c.self.inside in
    let frames = s.frames.items in
    let made = s.picks.made in
    let p = c.args.place in
    let inside : p < length (told_all frames made) = subst (λ (v : NodeCells). p < length v.cells) (sym c.self.view_is) c.requires in
    let long = length_told frames made in
    let same = c.self.invariant in
    let there : p < length made = omega (arith, inside, long, same) in
    let len = s.frames.ok.0 in
    omega (arith, inside, long, len)

pub clear-requires : goal.clear-requires
clear-requires c =
    let s = c.self.inside in
    let frames = s.frames.items in
    let made = s.picks.made in
    let p = c.args.place in
    let inside : p < length (told_all frames made) = subst (λ (v : NodeCells). p < length v.cells) (sym c.self.view_is) c.requires in
    let long = length_told frames made in
    let same = c.self.invariant in
    let there : p < length made = omega (arith, inside, long, same) in
    there

pub returns-then-is_picks-clause-cells : goal.returns-then-is_picks-clause-cells
returns-then-is_picks-clause-cells c =
    let s = c.self.inside in
    let frames = s.frames.items in
    let made = s.picks.made in
    let p = c.args.place in
    let inside : p < length (told_all frames made) = subst (λ (v : NodeCells). p < length v.cells) (sym c.self.view_is) c.requires in
    let long = length_told frames made in
    let same = c.self.invariant in
    let there : p < length made = omega (arith, inside, long, same) in
    ap (told_all (slice_set frames p c.args.frame)) c.clear.ensures.made ∙ (put_both frames made p c.args.frame [] there ∙ ap (λ (v : NodeCells). slice_set v.cells p (told c.args.frame [])) c.self.view_is)

pub returns-then-is_picks-clause-long : goal.returns-then-is_picks-clause-long
returns-then-is_picks-clause-long c =
    let s = c.self.inside in
    let frames = s.frames.items in
    let made = s.picks.made in
    let p = c.args.place in
    length_told _ _ ∙ (length-set frames p c.args.frame ∙ (sym (length_told frames made) ∙ ap (λ (v : NodeCells). length v.cells) c.self.view_is))

pub returns-else-is_picks-clause-cells : goal.returns-else-is_picks-clause-cells
returns-else-is_picks-clause-cells c =
    let s = c.self.inside in
    let frames = s.frames.items in
    let made = s.picks.made in
    let p = c.args.place in
    put_plain frames made p c.args.frame (sym c.is_picks.ensures ∙ c.if-is_picks.false) ∙ ap (λ (v : NodeCells). slice_set v.cells p (told c.args.frame [])) c.self.view_is

pub returns-else-is_picks-clause-long : goal.returns-else-is_picks-clause-long
returns-else-is_picks-clause-long c =
    let s = c.self.inside in
    let frames = s.frames.items in
    let made = s.picks.made in
    let p = c.args.place in
    length_told _ _ ∙ (length-set frames p c.args.frame ∙ (sym (length_told frames made) ∙ ap (λ (v : NodeCells). length v.cells) c.self.view_is))
