use Rattle.std.proofs.Common.{◌≡◌, ◌<◌, ◌+◌, ap, sym, subst, ◌∙◌, ℕ, false, List, length}
use Rattle.place_set.specs.Words.{holds}
use Rattle.place_classes.specs.Classes.{set_at}
use Rattle.place_classes.proofs.SortedLemmas.{pushed_long, pushed_blank}
use Rattle.place_classes.proofs.sorted.blank_sets.Goals as goal

pub loop-k-preserved : goal.loop-k-preserved
loop-k-preserved c =
    let n = c.loop-k._k in
    let items = c.in_ok-push.ensures.items in (
      ap (λ (l : List (List ℕ)). length l) items ∙ pushed_long c.loop-k.sets.items c.new.result n c.loop-k.invariant.0,
      subst (λ (l : List (List ℕ)). (k q : ℕ) → k < n + 1 → holds (set_at l k) q ≡ false) (sym items) (pushed_blank c.loop-k.sets.items c.new.result n c.loop-k.invariant.0 c.loop-k.invariant.1 c.new.ensures),
    )
