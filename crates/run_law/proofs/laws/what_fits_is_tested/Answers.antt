use Rattle.run_law.proofs.EndingLemmas.{tested_is}
use Rattle.run_law.proofs.laws.what_fits_is_tested.Goals as goal

pub returns : goal.returns
returns c = λ r t n x s l e. tested_is c.part_by_steps.ensures.none c.what_is_offered_follows.ensures.follows c.what_is_offered_follows.ensures.offered r t n x s l e
