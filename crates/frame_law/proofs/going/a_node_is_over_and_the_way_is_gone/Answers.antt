use Rattle.std.proofs.Common.{refl}
use Rattle.exec_tree.specs.Exec.{Work, Leaf}
use Rattle.frame_law.specs.Onward.{Done, onward, brings}
use Rattle.frame_law.proofs.NodeLemmas.{low_comes}
use Rattle.frame_law.proofs.GoingLemmas.{end_then_on, leaf_then_on, comes_then_on}
use Rattle.frame_law.proofs.going.a_node_is_over_and_the_way_is_gone.Goals as goal

pub returns-clause-workingstep : goal.returns-clause-workingstep
returns-clause-workingstep g = λ e t x m c d c' f v h i s kept j. end_then_on c d c' e t x m f v h i s kept j

pub returns-clause-workingstep_came : goal.returns-clause-workingstep_came
returns-clause-workingstep_came g = λ e t x m c d f h i kept. comes_then_on c d e t x m (Work m) f h kept (low_comes c m x (brings c (onward e Done m)) i)

pub returns-clause-leaf : goal.returns-clause-leaf
returns-clause-leaf g = λ e t x m kind c d c' f v h s kept j. leaf_then_on c d c' e t x m kind f v h s kept j

pub returns-clause-leaf_came : goal.returns-clause-leaf_came
returns-clause-leaf_came g = λ e t x m kind c d f h kept. comes_then_on c d e t x m (Leaf m kind) f h kept refl
