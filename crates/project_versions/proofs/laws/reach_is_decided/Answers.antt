use Rattle.project_versions.proofs.LeadingLemmas.{decided}
use Rattle.project_versions.proofs.laws.reach_is_decided.Goals as goal

pub returns : goal.returns
returns c = λ store items n. decided store items n
