use Rattle.trace_law.proofs.StepLemmas.{apart, next_has}
use Rattle.trace_law.proofs.StepForthLemmas.{step_of}
use Rattle.trace_law.proofs.StepBackLemmas.{part_of_step}
use Rattle.trace_law.proofs.ContinueLemmas.{right_of_step, step_of_right}
use Rattle.trace_law.proofs.laws.part_by_next.Goals as goal

pub returns : goal.returns
returns c =
    λ e t x d. (
      λ q. let z = step_of e t x (apart e d) q in (z.0, next_has e t x z.0 z.1, right_of_step e t x z.1),
      λ z. part_of_step e t x (apart e d) z.0 (step_of_right e t x (apart e d) z.0 z.1 z.2),
    )
