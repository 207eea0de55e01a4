use Rattle.std.proofs.Common.{◌≡◌, ◌∙◌, ◌<◌, ◌++◌, ◌∷◌, [], ap, ℕ}
use Rattle.pick_set.specs.Picks.{made_at}
use Rattle.trace_law.specs.Cells.{Picked}
use Rattle.run_frames.specs.declared.frame.Frame.{Frame}
use Rattle.run_frames.specs.Told.{told}
use Rattle.run_frames.proofs.CellLemmas.{length_told, cell_is}
use Rattle.run_frames.proofs.cells.Cells.new.Goals as goal

pub returns-clause-long : goal.returns-clause-long
returns-clause-long c =
    length_told _ _ ∙ c.in_ok-frames.ensures.long

pub returns-clause-none : goal.returns-clause-none
returns-clause-none c =
    λ p h. cell_is c.in_ok-frames.frames.items c.in_ok-picks.picks.made p ∙ (ap (λ (f : Frame). told f (made_at c.in_ok-picks.picks.made p)) (c.in_ok-frames.ensures.picks p h) ∙ ap Picked (c.in_ok-picks.ensures.none p))
