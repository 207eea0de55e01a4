use Rattle.exec_tree.specs.Exec.{Sel}
use Rattle.run_log.specs.declared.entry.Entry.TheVariants.{Pick}
use Rattle.trace_law.proofs.StepLemmas.{apart_all}
use Rattle.frame_law.specs.Onward.{Done, onward, brings}
use Rattle.frame_law.proofs.NodeLemmas.{sel_writes, sel_comes}
use Rattle.frame_law.proofs.KindLemmas.{stands_as, comes_as, distinct_as, unchosen_as}
use Rattle.frame_law.proofs.kinds.an_element_is_chosen.Goals as goal

pub returns-clause-stands : goal.returns-clause-stands
returns-clause-stands g = λ e t m es i c c' f v h s st ran kept.
    let d = distinct_as c e t (Pick m i) m (Sel m es) f h in
    let none = unchosen_as c e t (Pick m i) m es f h in
    stands_as c c' e t (Pick m i) m (Sel m es) f v h (sel_writes c c' m es i (onward e Done m) (apart_all es d.1) none s st ran kept)

pub returns-clause-came : goal.returns-clause-came
returns-clause-came g = λ e t m es i c f h. comes_as c e t (Pick m i) m (Sel m es) _ f h (sel_comes c m es i (brings c (onward e Done m)))
