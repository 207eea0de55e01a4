use Rattle.std.proofs.Common.{◌≡◌, ◌-◌, length}
use Rattle.std.specs.Option.{option_map_or}
use Rattle.run_frames.specs.Waits.{AreFreedTo}
use Rattle.run_frames.proofs.waits.Waits.free.Given as goal

abbrev pub invariant-loop-at : goal.invariant-loop-at
invariant-loop-at l = (l.set.all ≡ l.fn.set.all) × AreFreedTo l.tree l.mark l.at l.fn.set.classes l.set.classes

abbrev pub decreases-loop-at : goal.decreases-loop-at
decreases-loop-at l = option_map_or (λ w. length l.tree.nodes - w.place) l.at 0
