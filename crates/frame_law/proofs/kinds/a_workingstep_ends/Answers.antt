use Rattle.exec_tree.specs.Exec.{Work}
use Rattle.frame_law.specs.Onward.{Done, onward, brings}
use Rattle.frame_law.proofs.NodeLemmas.{end_writes, low_comes}
use Rattle.frame_law.proofs.KindLemmas.{stands_as, comes_as}
use Rattle.frame_law.proofs.kinds.a_workingstep_ends.Goals as goal

pub returns-clause-stands : goal.returns-clause-stands
returns-clause-stands g = λ e t x m c c' f v h i s ran kept. stands_as c c' e t x m (Work m) f v h (end_writes c c' m x (onward e Done m) i s ran kept)

pub returns-clause-came : goal.returns-clause-came
returns-clause-came g = λ e t x m c f h i. comes_as c e t x m (Work m) _ f h (low_comes c m x (brings c (onward e Done m)) i)
