use Rattle.std.proofs.Common.{ℕ, set, sym, ◌∙◌, ap}
use Rattle.plan_store.proofs.StoreLemmas.{step_and, step_found}
use Rattle.plan_store.specs.Stage.{Held}
use Rattle.plan_store.specs.StepAhead.{told, with_plan}
use Rattle.plan_store.proofs.StepLemmas.{changed_at}
use Rattle.plan_store.proofs.store.PlanStore.keep.Goals as goal

pub returns : goal.returns
returns c =
    let a = step_and c.args.made.step c.args.self.now _ c.requires in
    let at = c.seek-index.ensures.there ∙ a.1 in
    c.put.ensures a.0 at
    ∙ ap (λ (v : ℕ). set c.args.self.now c.seek-index.result (told v (Held c.args.made.plan) a.0)) (sym a.2.0)
    ∙ changed_at c.args.made.step (with_plan c.args.made.plan) c.args.self.now c.seek-index.result a.0 (c.seek-index.ensures.windows.once c.args.made.step) at (step_found c.args.made.step c.args.self.now a.0 a.1)
