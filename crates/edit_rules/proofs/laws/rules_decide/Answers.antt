use Rattle.edit_rules.proofs.JudgeLemmas.{none_applies, accepted, same_steps}
use Rattle.edit_rules.proofs.laws.rules_decide.Goals as goal

pub returns-clause-accepted : goal.returns-clause-accepted
returns-clause-accepted c = λ store steps sent items. (none_applies store steps sent items, accepted store steps sent items)

pub returns-clause-reached : goal.returns-clause-reached
returns-clause-reached c = same_steps
