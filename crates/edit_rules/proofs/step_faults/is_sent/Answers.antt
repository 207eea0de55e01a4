use Rattle.edit_rules.proofs.VerdictLemmas.{decides}
use Rattle.edit_rules.proofs.step_faults.is_sent.Goals as goal

pub returns : goal.returns
returns c = decides c.has.result c.args.sent.now.members c.args.step c.has.ensures
