use Rattle.run_law.proofs.EndingLemmas.{done_is, blocked_is}
use Rattle.run_law.proofs.laws.endings_by_next.Goals as goal

pub returns-clause-done : goal.returns-clause-done
returns-clause-done c = λ r t s l. done_is c.whole_where_nothing_is_next.ensures r t (c.legal_runs.ensures.part r t s l)

pub returns-clause-blocked : goal.returns-clause-blocked
returns-clause-blocked c = λ r t s l. blocked_is c.whole_where_nothing_is_next.ensures r t (c.legal_runs.ensures.part r t s l)
