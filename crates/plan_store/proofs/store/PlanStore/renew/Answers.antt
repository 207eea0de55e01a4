use Rattle.std.proofs.Common.{◌∙◌}
use Rattle.plan_store.proofs.StoreLemmas.{step_of_ticket, step_found}
use Rattle.plan_store.specs.Stage.{Wanted}
use Rattle.plan_store.specs.StepAhead.{told}
use Rattle.plan_store.proofs.StepLemmas.{changed_at}
use Rattle.plan_store.proofs.store.PlanStore.renew.Goals as goal

pub returns : goal.returns
returns c =
    let a = step_of_ticket c.args.step c.args.self.now c.requires in
    let at = c.seek-index.ensures.there ∙ a.1 in
    c.put.ensures a.0 at
    ∙ changed_at c.args.step (told c.args.version Wanted) c.args.self.now c.seek-index.result a.0 (c.seek-index.ensures.windows.once c.args.step) at (step_found c.args.step c.args.self.now a.0 a.1)
