use Rattle.frame_law.proofs.OpenedLemmas.{element_next, element_stands, element_within}
use Rattle.frame_law.proofs.tree.an_element_is_opened.Goals as goal

pub returns-clause-next : goal.returns-clause-next
returns-clause-next g = λ es i. element_next es i

pub returns-clause-stands : goal.returns-clause-stands
returns-clause-stands g = λ es i c s. element_stands c es i s

pub returns-clause-within : goal.returns-clause-within
returns-clause-within g = λ es i q h. element_within es i q h
