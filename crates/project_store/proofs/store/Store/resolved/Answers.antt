use Rattle.std.proofs.Common.{subst}
use Rattle.project_store.specs.Resolved.{IsResolved}
use Rattle.project_store.proofs.Sound.{resolved}
use Rattle.project_store.proofs.store.Store.resolved.Goals as goal

pub returns : goal.returns
returns c = subst IsResolved c.self.view_is (resolved c.self.inside.index c.self.invariant)
