use Rattle.std.specs.Prelude.{true, false}
use Rattle.exec_tree.specs.Exec.{While}
use Rattle.run_log.specs.declared.entry.Entry.TheVariants.{Test}
use Rattle.trace_law.proofs.StepLemmas.{apart}
use Rattle.frame_law.specs.Onward.{Done, onward, brings}
use Rattle.frame_law.proofs.NodeLemmas.{turn_writes, no_turn_writes, turn_comes}
use Rattle.frame_law.proofs.KindLemmas.{stands_as, comes_as, distinct_as}
use Rattle.frame_law.proofs.kinds.a_turn_is_tested.Goals as goal

pub returns-clause-turn : goal.returns-clause-turn
returns-clause-turn g = λ e t m a c c' f v h s st kept.
    let d = apart (While m a) (distinct_as c e t (Test m true) m (While m a) f h) in
    stands_as c c' e t (Test m true) m (While m a) f v h (turn_writes c c' m a (onward e Done m) d.1 s st kept)

pub returns-clause-over : goal.returns-clause-over
returns-clause-over g = λ e t m a c c' f v h s ran kept. stands_as c c' e t (Test m false) m (While m a) f v h (no_turn_writes c c' m a (onward e Done m) s ran kept)

pub returns-clause-came : goal.returns-clause-came
returns-clause-came g = λ e t m a ans c f h. comes_as c e t (Test m ans) m (While m a) _ f h (turn_comes c m a ans (brings c (onward e Done m)))
