use Rattle.frame_law.specs.Onward.{Done}
use Rattle.frame_law.proofs.ThroughLemmas.{through}
use Rattle.frame_law.proofs.tree.the_way_leads_through.Goals as goal

pub returns-clause-found : goal.returns-clause-found
returns-clause-found g = λ e n m d h. (through e Done n m d h).0

pub returns-clause-onward : goal.returns-clause-onward
returns-clause-onward g = λ e k n m d h. (through e k n m d h).1
