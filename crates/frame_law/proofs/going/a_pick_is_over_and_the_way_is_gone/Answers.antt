use Rattle.exec_tree.specs.Exec.{NonSeq, Sel}
use Rattle.run_log.specs.declared.entry.Entry.TheVariants.{Pick}
use Rattle.frame_law.specs.Onward.{Done, onward, brings}
use Rattle.frame_law.proofs.GoingLemmas.{pick_then_on, choice_then_on, comes_then_on, pick_is_over, choice_is_over}
use Rattle.frame_law.proofs.going.a_pick_is_over_and_the_way_is_gone.Goals as goal

pub returns-clause-non_sequential : goal.returns-clause-non_sequential
returns-clause-non_sequential g = λ e t m es i c d c' f v h void whole s st kept j. pick_then_on c d c' e t m es i f v h void whole s st kept j

pub returns-clause-non_sequential_came : goal.returns-clause-non_sequential_came
returns-clause-non_sequential_came g = λ e t m es i c d f h void whole kept. comes_then_on c d e t (Pick m i) m (NonSeq m es) f h kept (pick_is_over c m es i (brings c (onward e Done m)) void whole)

pub returns-clause-selective : goal.returns-clause-selective
returns-clause-selective g = λ e t m es i c d c' f v h void s st kept j. choice_then_on c d c' e t m es i f v h void s st kept j

pub returns-clause-selective_came : goal.returns-clause-selective_came
returns-clause-selective_came g = λ e t m es i c d f h void kept. comes_then_on c d e t (Pick m i) m (Sel m es) f h kept (choice_is_over c m es i (brings c (onward e Done m)) void)
