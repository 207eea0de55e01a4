use Rattle.std.proofs.Common.{true, set, subst}
use Rattle.project_versions.specs.StepSet.{SomeSteps, Adds, marked}
use Rattle.project_versions.proofs.StepLemmas.{marked_more}
use Rattle.project_versions.proofs.step_set.StepSet.add.Goals as goal

pub returns-in-Some : goal.returns-in-Some
returns-in-Some c =
    let inside = c.self.inside in
    subst (λ (old : SomeSteps). Adds old (record { steps = inside.order.steps; members = marked inside.order.order (set inside.marks.items c.in-Some.i true) }) c.args.step) c.self.view_is
    (marked_more inside.order.steps inside.order.order inside.marks.items c.args.step c.in-Some.i c.in-Some.ensures.found c.self.invariant)
