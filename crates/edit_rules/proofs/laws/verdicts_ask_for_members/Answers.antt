use Rattle.edit_rules.proofs.VerdictLemmas.{same_verdict}
use Rattle.edit_rules.proofs.laws.verdicts_ask_for_members.Goals as goal

pub returns : goal.returns
returns c = same_verdict
