use Rattle.edit_rules.proofs.JudgeLemmas.{spares_sent, defined}
use Rattle.edit_rules.proofs.laws.accepted_edits_are_safe.Goals as goal

pub returns-clause-sent : goal.returns-clause-sent
returns-clause-sent c = spares_sent

pub returns-clause-defined : goal.returns-clause-defined
returns-clause-defined c = defined
