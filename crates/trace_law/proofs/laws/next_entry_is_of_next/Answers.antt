use Rattle.trace_law.proofs.StepLemmas.{apart, next_has}
use Rattle.trace_law.proofs.StepForthLemmas.{step_of}
use Rattle.trace_law.proofs.laws.next_entry_is_of_next.Goals as goal

pub returns : goal.returns
returns c = λ e t x d p q. next_has e t x p (step_of e t x (apart e d) q).1
