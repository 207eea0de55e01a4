use Rattle.trace_law.proofs.StepLemmas.{apart}
use Rattle.trace_law.proofs.StepForthLemmas.{step_of}
use Rattle.trace_law.proofs.StepBackLemmas.{part_nil, part_of_step}
use Rattle.trace_law.proofs.laws.part_by_steps.Goals as goal

pub returns-clause-none : goal.returns-clause-none
returns-clause-none c = λ e. part_nil e

pub returns-clause-more : goal.returns-clause-more
returns-clause-more c = λ e t x d. (λ q. step_of e t x (apart e d) q, λ z. part_of_step e t x (apart e d) z.0 z.1)
