use Rattle.std.proofs.Common.{◌≡◌, ◌<◌, ℕ, false}
use Rattle.place_set.specs.Words.{holds}
use Rattle.place_classes.specs.Classes.{set_at}
use Rattle.place_classes.proofs.sorted.are_empty.Given as goal

abbrev pub invariant-loop-k : goal.invariant-loop-k
invariant-loop-k l = (j q : ℕ) → j < l.k → holds (set_at l.sets j) q ≡ false
