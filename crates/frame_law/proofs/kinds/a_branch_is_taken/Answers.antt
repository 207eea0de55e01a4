use Rattle.exec_tree.specs.Exec.{If}
use Rattle.run_log.specs.declared.entry.Entry.TheVariants.{Test}
use Rattle.trace_law.proofs.StepLemmas.{apart}
use Rattle.frame_law.specs.Onward.{Done, onward, brings}
use Rattle.frame_law.proofs.NodeLemmas.{branch_writes, branch_comes}
use Rattle.frame_law.proofs.KindLemmas.{stands_as, comes_as, distinct_as}
use Rattle.frame_law.proofs.kinds.a_branch_is_taken.Goals as goal

pub returns-clause-stands : goal.returns-clause-stands
returns-clause-stands g = λ e t m a b ans c c' f v h s st ran kept.
    let d = apart (If m a b) (distinct_as c e t (Test m ans) m (If m a b) f h) in
    stands_as c c' e t (Test m ans) m (If m a b) f v h (branch_writes c c' m a b ans (onward e Done m) d.1 d.2 s st ran kept)

pub returns-clause-came : goal.returns-clause-came
returns-clause-came g = λ e t m a b ans c f h. comes_as c e t (Test m ans) m (If m a b) _ f h (branch_comes c m a b ans (brings c (onward e Done m)))
