use Rattle.run_law.proofs.AgreeLemmas.{legal_with_more, legal_with_less}
use Rattle.run_law.proofs.laws.scripts_grow.Goals as goal

pub returns-clause-submit : goal.returns-clause-submit
returns-clause-submit c = λ r q at t s m l j e. legal_with_more c.what_is_offered_follows.ensures.offered c.legal_runs.ensures.front r q at t s m l j e

pub returns-clause-withdraw : goal.returns-clause-withdraw
returns-clause-withdraw c = λ r q at t m l j. legal_with_less r q at t m l j
