use Rattle.std.proofs.Common.{◌≡◌, ◌<◌, ℕ, length}
use Rattle.run_frames.specs.declared.frame.Frame.TheVariants.{Picks}
use Rattle.run_frames.specs.Told.{frame_at}
use Rattle.run_frames.proofs.cells.blank.Given as goal

abbrev pub invariant-loop-i : goal.invariant-loop-i
invariant-loop-i l = (length l.frames.items ≡ l._i) × ((p : ℕ) → p < l._i → frame_at l.frames.items p ≡ Picks)
