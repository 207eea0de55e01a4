use Rattle.trace_law.proofs.LeadLemmas.{leads_next, leads_stands}
use Rattle.trace_law.proofs.laws.leads_opens.Goals as goal

pub returns-clause-next : goal.returns-clause-next
returns-clause-next c = λ e. leads_next e

pub returns-clause-stands : goal.returns-clause-stands
returns-clause-stands g = λ e c v s. leads_stands c e v s
