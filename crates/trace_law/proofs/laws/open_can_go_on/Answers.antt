use Rattle.trace_law.proofs.StepLemmas.{apart}
use Rattle.trace_law.proofs.StayLemmas.{open_is_next}
use Rattle.trace_law.proofs.laws.open_can_go_on.Goals as goal

pub returns : goal.returns
returns c = λ e t n d w p o. open_is_next e n t (apart e d) w p o
