use Rattle.exec_tree.specs.Exec.{If}
use Rattle.trace_law.proofs.StepLemmas.{apart, apart_all}
use Rattle.frame_law.proofs.NodeLemmas.{over_next, cutting_next, leaf_next, picks_next, sel_next, branch_next_by, turn_next, no_turn_next}
use Rattle.frame_law.proofs.kinds.a_node_tells_whether_it_is_over.Goals as goal

pub returns-clause-workingstep_over : goal.returns-clause-workingstep_over
returns-clause-workingstep_over g = λ m c s. over_next c m s

pub returns-clause-workingstep_on : goal.returns-clause-workingstep_on
returns-clause-workingstep_on g = λ m o c s. cutting_next c m o s

pub returns-clause-leaf : goal.returns-clause-leaf
returns-clause-leaf g = λ m kind c s. leaf_next c m kind s

pub returns-clause-non_sequential : goal.returns-clause-non_sequential
returns-clause-non_sequential g = λ m es i c c' d s st. picks_next c c' m es i (apart_all es d.1) s st

pub returns-clause-selective : goal.returns-clause-selective
returns-clause-selective g = λ m es i c d s st. sel_next c m es i (apart_all es d.1) s st

pub returns-clause-branch : goal.returns-clause-branch
returns-clause-branch g = λ m a b ans c d s st. let z = apart (If m a b) d in branch_next_by c m a b ans z.1 z.2 s st

pub returns-clause-turn : goal.returns-clause-turn
returns-clause-turn g = λ m a c d s st. turn_next c m a (apart a d.1) s st

pub returns-clause-no_turn : goal.returns-clause-no_turn
returns-clause-no_turn g = λ m a c s. no_turn_next c m a s
