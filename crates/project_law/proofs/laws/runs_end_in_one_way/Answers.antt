use Rattle.project_law.proofs.EndingLemmas.{one_ending}
use Rattle.project_law.proofs.laws.runs_end_in_one_way.Goals as goal

pub returns : goal.returns
returns c = one_ending
