use Rattle.plan_store.proofs.ChannelLemmas.{windows_in_a_row}
use Rattle.plan_store.proofs.StoreLemmas.{rows_of}
use Rattle.plan_store.proofs.store.PlanStore.tickets.Goals as goal

pub returns-clause-by_channel : goal.returns-clause-by_channel
returns-clause-by_channel c = windows_in_a_row c.args.self.now (rows_of _ _ _ c.self.invariant c.self.view_is).windows
