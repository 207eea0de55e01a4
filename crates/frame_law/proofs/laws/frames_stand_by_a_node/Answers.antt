use Rattle.frame_law.proofs.KindLemmas.{stands_after, comes_after}
use Rattle.frame_law.proofs.laws.frames_stand_by_a_node.Goals as goal

pub returns-clause-stands : goal.returns-clause-stands
returns-clause-stands g = λ e t x m c c' f v w. stands_after c c' e t x m f v w

pub returns-clause-came : goal.returns-clause-came
returns-clause-came g = λ e t x m c f. comes_after c e t x m f
