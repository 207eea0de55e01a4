use Rattle.std.proofs.Common.{refl}
use Rattle.exec_tree.specs.Exec.{Leaf}
use Rattle.frame_law.specs.Onward.{Done, onward}
use Rattle.frame_law.proofs.NodeLemmas.{leaf_writes}
use Rattle.frame_law.proofs.KindLemmas.{stands_as, comes_as}
use Rattle.frame_law.proofs.kinds.a_leaf_is_done.Goals as goal

pub returns-clause-stands : goal.returns-clause-stands
returns-clause-stands g = λ e t x m l c c' f v h s ran kept. stands_as c c' e t x m (Leaf m l) f v h (leaf_writes c c' m l x (onward e Done m) s ran kept)

pub returns-clause-came : goal.returns-clause-came
returns-clause-came g = λ e t x m l c f h. comes_as c e t x m (Leaf m l) _ f h refl
