use Rattle.std.proofs.Common.{◌∙◌}
use Rattle.project_versions.proofs.BackwardLemmas.{is_step}
use Rattle.project_versions.proofs.step_order.StepOrder.has.Goals as goal

pub returns : goal.returns
returns c =
    c.is_some.ensures ∙ is_step c.args.self.now.steps c.args.self.now.order c.args.n c.place_of.result c.place_of.ensures.is_order c.place_of.ensures.found c.place_of.ensures.none
