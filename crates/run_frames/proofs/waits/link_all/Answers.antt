use Rattle.std.proofs.Common.{slice_index_or, ◌≡◌, ◌∙◌, ◌<◌, ◌-◌, ◌+◌, sym, subst, arith, ℕ, length}
use Rattle.std.specs.Prelude.{slice_set, Option, Some, None}
use Rattle.run_frames.specs.declared.waits.Link.{Link}
use Rattle.run_frames.specs.Waits.{link_to, AreLinkedFrom}
use Rattle.run_frames.proofs.WaitLemmas.{linked_more, mark_within, index_link}
use Rattle.run_frames.proofs.waits.link_all.Goals as goal

pub slice_copy_out-later : goal.slice_copy_out-later
slice_copy_out-later c = let l = mark_within c.args.tree.now (c.loop-k.k - 1) c.in-Some.mark (sym c.mark_at.ensures ∙ c.in-Some.is) in let long = c.loop-k.invariant.first_long in omega (arith, l, long)

pub bounds-first-mark : goal.bounds-first-mark
bounds-first-mark c = let l = mark_within c.args.tree.now (c.loop-k.k - 1) c.in-Some.mark (sym c.mark_at.ensures ∙ c.in-Some.is) in let long = c.loop-k.invariant.first_long in omega (arith, l, long)

pub loop-k-preserved-in-Some : goal.loop-k-preserved-in-Some
loop-k-preserved-in-Some c =
    let t = c.args.tree.now in
    let is = sym c.mark_at.ensures ∙ c.in-Some.is in
    let k : c.loop-k.k ≡ c.loop-k.k - 1 + 1 = omega (arith, c.loop-k-test.true) in
    let long = c.loop-k.invariant.later_long in
    let below : c.loop-k.k - 1 < length t.nodes = omega (arith, c.loop-k-test.true, c.loop-k.auto.k, long) in
    subst (λ (w : Link). AreLinkedFrom t (c.loop-k.k - 1) (slice_set c.loop-k.first c.in-Some.mark (Some w)) (slice_set c.loop-k.later (c.loop-k.k - 1) (slice_index_or c.loop-k.first c.in-Some.mark None))) (sym c.link_to.ensures)
    (subst (λ (o : Option Link). AreLinkedFrom t (c.loop-k.k - 1) (slice_set c.loop-k.first c.in-Some.mark (Some (link_to t.nodes (c.loop-k.k - 1)))) (slice_set c.loop-k.later (c.loop-k.k - 1) o)) (sym (index_link c.loop-k.first c.in-Some.mark))
    (linked_more t (c.loop-k.k - 1) c.in-Some.mark c.loop-k.first c.loop-k.later is below (mark_within t (c.loop-k.k - 1) c.in-Some.mark is) (subst (λ (j : ℕ). AreLinkedFrom t j c.loop-k.first c.loop-k.later) k c.loop-k.invariant)))
