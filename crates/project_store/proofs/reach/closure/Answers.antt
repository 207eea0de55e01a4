use Rattle.project_store.proofs.Reaching.{closed}
use Rattle.project_store.proofs.reach.closure.Goals as goal

pub returns : goal.returns
returns g c = closed (g.E.Entities.entities c.args.entities.now) c.args.n c.in_ok-set.set.keys c.listed.result c.in_ok-set.ensures c.listed.ensures.list c.listed.ensures.rising
