use Rattle.run_law.proofs.GrowthLemmas.{legal_none, legal_more, legal_part}
use Rattle.run_law.proofs.laws.legal_runs.Goals as goal

pub returns-clause-none : goal.returns-clause-none
returns-clause-none c = λ r. legal_none r

pub returns-clause-more : goal.returns-clause-more
returns-clause-more c = λ r t x l f. legal_more r t x l f

pub returns-clause-part : goal.returns-clause-part
returns-clause-part c = λ r t s l. legal_part c.part_by_steps.ensures.none r t s l
