use Rattle.trace_law.proofs.StepLemmas.{apart}
use Rattle.trace_law.proofs.OpenOfferLemmas.{opens}
use Rattle.trace_law.proofs.laws.what_can_go_on_is_open.Goals as goal

pub returns : goal.returns
returns c = λ e t m d k p h. opens e t m (apart e d) k p h
