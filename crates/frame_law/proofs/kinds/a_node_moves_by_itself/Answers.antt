use Rattle.frame_law.proofs.NodeLemmas.{pick_goes, sel_goes, branch_goes, turn_goes, no_turn_goes}
use Rattle.frame_law.proofs.kinds.a_node_moves_by_itself.Goals as goal

pub returns-clause-workingstep : goal.returns-clause-workingstep
returns-clause-workingstep g = λ x m c c' s. s

pub returns-clause-leaf : goal.returns-clause-leaf
returns-clause-leaf g = λ x m kind c c' s. s

pub returns-clause-non_sequential : goal.returns-clause-non_sequential
returns-clause-non_sequential g = λ m es i c c' s st. pick_goes c c' m es i s st

pub returns-clause-selective : goal.returns-clause-selective
returns-clause-selective g = λ m es i c c' none s st. sel_goes c c' m es i none s st

pub returns-clause-branch : goal.returns-clause-branch
returns-clause-branch g = λ m a b ans c c' s st. branch_goes c c' m a b ans s st

pub returns-clause-turn : goal.returns-clause-turn
returns-clause-turn g = λ m a c c' s st. turn_goes c c' m a s st

pub returns-clause-no_turn : goal.returns-clause-no_turn
returns-clause-no_turn g = λ m a c c' s. no_turn_goes c c' m a s
