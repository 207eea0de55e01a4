use Rattle.trace_law.proofs.StepLemmas.{apart, next_has}
use Rattle.trace_law.proofs.StepForthLemmas.{step_of}
use Rattle.trace_law.proofs.StepBackLemmas.{part_of_step}
use Rattle.trace_law.proofs.ContinueLemmas.{step_of_right}
use Rattle.trace_law.proofs.OfferLemmas.{continues}
use Rattle.trace_law.proofs.OfferExactLemmas.{offers}
use Rattle.trace_law.proofs.laws.what_is_offered_follows.Goals as goal

pub returns-clause-follows : goal.returns-clause-follows
returns-clause-follows c = λ e t x m d p n h q. part_of_step e t x (apart e d) p (step_of_right e t x (apart e d) p h (continues e t x m (apart e d) p n h q))

pub returns-clause-offered : goal.returns-clause-offered
returns-clause-offered c = λ e t x m d q n.
    let z = step_of e t x (apart e d) q in (next_has e t x z.0 z.1, offers e t x m (apart e d) z.0 z.1 n)
