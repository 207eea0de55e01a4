use Rattle.std.proofs.Common.{◌≡◌, ◌<◌, ℕ, false, length}
use Rattle.place_set.specs.Words.{holds}
use Rattle.place_classes.specs.Classes.{set_at}
use Rattle.place_classes.proofs.sorted.blank_sets.Given as goal

abbrev pub invariant-loop-k : goal.invariant-loop-k
invariant-loop-k l = (length l.sets.items ≡ l._k) × ((k q : ℕ) → k < l._k → holds (set_at l.sets.items k) q ≡ false)
