use Rattle.frame_law.proofs.LedLemmas.{leads_numbered, leads_found, leads_found_in, behind_found_in}
use Rattle.frame_law.proofs.tree.where_it_leads_is_found.Goals as goal

pub returns-clause-within : goal.returns-clause-within
returns-clause-within g = λ e r d own. leads_found e r d own

pub returns-clause-tree : goal.returns-clause-tree
returns-clause-tree g = λ e p r d own. leads_found_in e p r d own

pub returns-clause-elements : goal.returns-clause-elements
returns-clause-elements g = λ e n p es i r d h own. behind_found_in e n p es i r d h own

pub returns-clause-number : goal.returns-clause-number
returns-clause-number g = λ e h. leads_numbered e h
