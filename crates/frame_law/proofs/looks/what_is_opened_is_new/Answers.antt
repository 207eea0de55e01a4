use Rattle.frame_law.proofs.BoundLemmas.{opened_comes, opened_fresh, opened_few}
use Rattle.frame_law.proofs.looks.what_is_opened_is_new.Goals as goal

pub returns-clause-come : goal.returns-clause-come
returns-clause-come g = λ e t x m c q f h. opened_comes c e t x m q f h

pub returns-clause-fresh : goal.returns-clause-fresh
returns-clause-fresh g = λ e t x m c q f h. opened_fresh c e t x m q f h

pub returns-clause-number : goal.returns-clause-number
returns-clause-number g = λ e t x m c f. opened_few c e t x m f
