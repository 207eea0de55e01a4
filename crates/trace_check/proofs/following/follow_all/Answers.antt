use Rattle.std.proofs.Common.{◌≡◌, ◌∙◌, ◌++◌, ◌∷◌, [], List, take, drop, suc, sym, ap, Some, slice_index_or}
use Rattle.trace_law.specs.Below.{tree_in}
use Rattle.trace_law.specs.Stray.{first_stray}
use Rattle.run_log.specs.declared.entry.Entry.{Entry}
use Rattle.run_log.specs.declared.entry.Entry.TheVariants.{Dispatch}
use Rattle.trace_check.proofs.StrayLemmas.{stray_there, cut_at, not_both, no_entry}
use Rattle.trace_check.proofs.following.follow_all.Goals as goal

pub returns-then-not-follow : goal.returns-then-not-follow
returns-then-not-follow g c =
    let e = tree_in c.args.tree.now in
    let t = c.args.t.now in
    let i = c.loop-i.i in
    let x : Entry = slice_index_or t i (Dispatch 0 0) in
    let law = λ (u : List Entry). c.strays_are_found.ensures.none e u c.nodes.ensures.distinct in
    let split : t ≡ take i t ++ x ∷ drop (suc i) t = cut_at t i (Dispatch 0 0) c.loop-i-test.true in
    let found : first_stray e [] (take i t ++ x ∷ drop (suc i) t) ≡ Some x =
    stray_there e law (take i t) (drop (suc i) t) x c.loop-i.invariant.so_far (λ p. not_both c.follow.result c.if-not-follow.true ((c.follow.ensures.follows (take i t) c.loop-i.invariant).1 p)) in
    record { strays = sym (ap (first_stray e []) split ∙ found); stands = λ n. absurd (no_entry x n) }
