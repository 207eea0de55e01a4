use Rattle.frame_law.proofs.OpenedLemmas.{unpicked_found, unpicked_element, unpicked_behind}
use Rattle.frame_law.proofs.ReachLemmas.{unpicked_elements}
use Rattle.frame_law.proofs.tree.unpicked_within.Goals as goal

pub returns-clause-found : goal.returns-clause-found
returns-clause-found g = λ e m c v. unpicked_found c e m v

pub returns-clause-elements : goal.returns-clause-elements
returns-clause-elements g = λ n es c v. unpicked_elements c n es v

pub returns-clause-element : goal.returns-clause-element
returns-clause-element g = λ es i c v. unpicked_element c es i v

pub returns-clause-behind : goal.returns-clause-behind
returns-clause-behind g = λ es i c v. unpicked_behind c es i v
