use Rattle.frame_law.proofs.StepUpLemmas.{own_found, own_onward}
use Rattle.frame_law.proofs.tree.the_root_is_found.Goals as goal

pub returns-clause-found : goal.returns-clause-found
returns-clause-found g = λ e n h. own_found e n h

pub returns-clause-onward : goal.returns-clause-onward
returns-clause-onward g = λ e k n h. own_onward e k n h
