use Rattle.frame_law.proofs.KindLemmas.{next_there, offers_there}
use Rattle.frame_law.proofs.laws.a_node_does_what_its_frame_says.Goals as goal

pub returns-clause-next : goal.returns-clause-next
returns-clause-next g = λ e t m c d p s h. next_there c e t m d p s h

pub returns-clause-offer : goal.returns-clause-offer
returns-clause-offer g = λ e t m c d p s h. offers_there c e t m d p s h
