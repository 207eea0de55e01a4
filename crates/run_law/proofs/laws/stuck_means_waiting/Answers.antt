use Rattle.run_law.proofs.StuckLemmas.{waiting_where_stuck}
use Rattle.run_law.proofs.laws.stuck_means_waiting.Goals as goal

pub returns : goal.returns
returns c = λ r t n s l k h. waiting_where_stuck c.open_can_go_on.ensures c.legal_runs.ensures.part r t n s l k h
