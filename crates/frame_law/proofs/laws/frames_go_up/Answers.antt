use Rattle.frame_law.proofs.KindLemmas.{goes_up}
use Rattle.frame_law.proofs.laws.frames_go_up.Goals as goal

pub returns : goal.returns
returns g = λ e t x m c c' f v w. goes_up c c' e t x m f v w
