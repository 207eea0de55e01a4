use Rattle.trace_law.proofs.StepLemmas.{apart}
use Rattle.trace_law.proofs.StepForthLemmas.{step_of}
use Rattle.trace_law.proofs.StayLemmas.{stays}
use Rattle.trace_law.proofs.laws.what_can_go_on_stays.Goals as goal

pub returns : goal.returns
returns c = λ e t x m d q k h. let z = step_of e t x (apart e d) q in stays e t x m (apart e d) z.0 z.1 k h
