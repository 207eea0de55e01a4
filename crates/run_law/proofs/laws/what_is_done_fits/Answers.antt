use Rattle.run_law.proofs.GrowthLemmas.{done_fits}
use Rattle.run_law.proofs.laws.what_is_done_fits.Goals as goal

pub returns : goal.returns
returns c = λ r t n x s l d h e m o v. done_fits c.part_by_steps.ensures.none c.what_is_offered_follows.ensures.follows r t n x s l d h e m o v
