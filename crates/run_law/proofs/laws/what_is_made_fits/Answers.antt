use Rattle.run_law.proofs.MadeLemmas.{made_fits}
use Rattle.run_law.proofs.laws.what_is_made_fits.Goals as goal

pub returns : goal.returns
returns c = λ r t n s l d h e. made_fits c.blocks_are_counted.ensures.follows c.what_can_go_on_is_open.ensures c.blocks_are_counted.ensures.offered c.part_by_steps.ensures.none c.what_is_offered_follows.ensures.follows r t n s l d h e
