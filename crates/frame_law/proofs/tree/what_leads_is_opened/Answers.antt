use Rattle.trace_law.proofs.LeadLemmas.{leads_stands}
use Rattle.frame_law.proofs.ReachLemmas.{unpicked}
use Rattle.frame_law.proofs.OpenedLemmas.{leads_within, gone_leads}
use Rattle.frame_law.proofs.tree.what_leads_is_opened.Goals as goal

pub returns-clause-stands : goal.returns-clause-stands
returns-clause-stands g = λ e c v s. leads_stands c e (unpicked c e v) s

pub returns-clause-within : goal.returns-clause-within
returns-clause-within g = λ e q h. leads_within e q h

pub returns-clause-elements : goal.returns-clause-elements
returns-clause-elements g = λ es c c' v s kept. gone_leads c c' es v s kept
