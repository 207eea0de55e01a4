use Rattle.frame_law.proofs.BoundLemmas.{looks_bounded}
use Rattle.frame_law.proofs.looks.looks_are_bounded.Goals as goal

pub returns : goal.returns
returns g = λ e t x m c f v. looks_bounded c e t x m f v
