use Rattle.plan_window.proofs.OpenLemmas.{line_is, tells_steps, tells_next}
use Rattle.plan_window.proofs.laws.window_tells_the_steps_ahead.Goals as goal

pub returns-clause-steps : goal.returns-clause-steps
returns-clause-steps c = λ r t w is lines_are sent_are k low. tells_steps r t w is k low (lines_are k low) sent_are

pub returns-clause-next : goal.returns-clause-next
returns-clause-next c = λ r t w lines_are sent_are k low. tells_next r t w k (lines_are k low) sent_are

pub returns-clause-lines : goal.returns-clause-lines
returns-clause-lines c = line_is
