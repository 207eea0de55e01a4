use Rattle.run_law.proofs.LengthLemmas.{at_most, fewer, legal_fewer}
use Rattle.run_law.proofs.laws.runs_are_short.Goals as goal

pub returns-clause-part : goal.returns-clause-part
returns-clause-part c = at_most c.part_of_own_nodes.ensures.whole

pub returns-clause-begun : goal.returns-clause-begun
returns-clause-begun c = fewer c.part_of_own_nodes.ensures.whole

pub returns-clause-legal : goal.returns-clause-legal
returns-clause-legal c = λ r t sound legal loop numbers there short. legal_fewer c.part_of_own_nodes.ensures.whole r t (c.legal_runs.ensures.part r t sound legal) legal loop numbers there short
