use Rattle.controller.proofs.RefusalLemmas.{joined}
use Rattle.controller.proofs.refusal.put_reason.Goals as goal

pub returns-in-Definition-clause-items : goal.returns-in-Definition-clause-items
returns-in-Definition-clause-items c = rw c.in-Definition.is (joined _ _ _ _ _ _ _ c.put_one.ensures.items c.put-in-Definition.ensures.items c.put_fault.ensures.items)
