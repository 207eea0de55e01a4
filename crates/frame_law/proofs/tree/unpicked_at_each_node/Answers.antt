use Rattle.frame_law.proofs.UnpickedLemmas.{unpicked_by_node}
use Rattle.frame_law.proofs.tree.unpicked_at_each_node.Goals as goal

pub returns : goal.returns
returns g = λ e c d h. unpicked_by_node c e d h
