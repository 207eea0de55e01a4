use Rattle.project_store.proofs.Least.{least_is, none_is}
use Rattle.project_store.proofs.laws.least_faults.Goals as goal

pub returns-clause-least : goal.returns-clause-least
returns-clause-least c = least_is

pub returns-clause-none : goal.returns-clause-none
returns-clause-none c = none_is
