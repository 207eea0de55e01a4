use Rattle.std.proofs.Common.{arith, refl, false}
use Rattle.place_classes.proofs.SortedLemmas.{clash}
use Rattle.place_classes.proofs.sorted.are_empty.Goals as goal

pub returns-then-not-is_empty_at : goal.returns-then-not-is_empty_at
returns-then-not-is_empty_at c = (
  λ e. absurd (clash false e refl),
  λ h. absurd (clash c.is_empty_at.result (c.is_empty_at.ensures.1 (λ q. h c.loop-k.k q (omega (arith, c.loop-k-test.true)))) c.if-not-is_empty_at.true),
)
