use Rattle.std.specs.Prelude.{false}
use Rattle.exec_tree.specs.Exec.{If, While}
use Rattle.run_log.specs.declared.entry.Entry.TheVariants.{Test}
use Rattle.frame_law.specs.Onward.{Done, onward, brings}
use Rattle.frame_law.proofs.NodeLemmas.{turn_comes}
use Rattle.frame_law.proofs.GoingLemmas.{branch_then_on, no_turn_then_on, comes_then_on, branch_is_over}
use Rattle.frame_law.proofs.going.a_test_is_over_and_the_way_is_gone.Goals as goal

pub returns-clause-branch : goal.returns-clause-branch
returns-clause-branch g = λ e t m a b ans c d c' f v h void s st kept j. branch_then_on c d c' e t m a b ans f v h void s st kept j

pub returns-clause-branch_came : goal.returns-clause-branch_came
returns-clause-branch_came g = λ e t m a b ans c d f h void kept. comes_then_on c d e t (Test m ans) m (If m a b) f h kept (branch_is_over c m a b ans (brings c (onward e Done m)) void)

pub returns-clause-turn : goal.returns-clause-turn
returns-clause-turn g = λ e t m a c d c' f v h s kept j. no_turn_then_on c d c' e t m a f v h s kept j

pub returns-clause-turn_came : goal.returns-clause-turn_came
returns-clause-turn_came g = λ e t m a c d f h kept. comes_then_on c d e t (Test m false) m (While m a) f h kept (turn_comes c m a false (brings c (onward e Done m)))
