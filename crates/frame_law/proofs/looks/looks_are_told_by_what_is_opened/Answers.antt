use Rattle.frame_law.proofs.LookLemmas.{looks_few}
use Rattle.frame_law.proofs.looks.looks_are_told_by_what_is_opened.Goals as goal

pub returns : goal.returns
returns g = λ e x m c v. looks_few c e x m v
