use Rattle.tree_table.proofs.OnwardLemmas.{same}
use Rattle.tree_table.proofs.laws.onward_is_after.Goals as goal

pub returns : goal.returns
returns c = λ e k m d h. same c.leads_opens.ensures.next e k m d h
