use Rattle.exec_tree.specs.Exec.{Work}
use Rattle.frame_law.specs.Onward.{Done, onward, brings}
use Rattle.frame_law.proofs.NodeLemmas.{on_writes, on_comes}
use Rattle.frame_law.proofs.KindLemmas.{stands_as, comes_as}
use Rattle.frame_law.proofs.kinds.a_workingstep_goes_on.Goals as goal

pub returns-clause-stands : goal.returns-clause-stands
returns-clause-stands g = λ e t x m j c c' f v h i s kept. stands_as c c' e t x m (Work m) f v h (on_writes c c' m j x (onward e Done m) i s kept)

pub returns-clause-came : goal.returns-clause-came
returns-clause-came g = λ e t x m j c f h i. comes_as c e t x m (Work m) _ f h (on_comes c m j x (brings c (onward e Done m)) i)
