use Rattle.plan_window.proofs.NumberLemmas.{decides}
use Rattle.plan_window.proofs.coming.is_sent.Goals as goal

pub returns : goal.returns
returns c = decides c.has.result c.args.sent.now.members c.args.step c.has.ensures
