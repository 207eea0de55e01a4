use Rattle.frame_law.proofs.BringLemmas.{brought}
use Rattle.frame_law.proofs.laws.what_comes_in_at_a_node.Goals as goal

pub returns : goal.returns
returns g = λ e x k m c n. brought c e x k m n
