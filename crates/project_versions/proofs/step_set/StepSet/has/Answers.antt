use Rattle.std.proofs.Common.{◌≡◌, ◌<◌, ◌↔◌, false, length, Some, IsTrue, Contains, sym, ap, ◌∙◌, subst, arith}
use Rattle.std.specs.Prelude.{slice_get}
use Rattle.std.proofs.lemmas.Option.{slice_get-get_or, slice_get_within}
use Rattle.project_versions.specs.StepSet.{SomeSteps}
use Rattle.project_versions.proofs.StepLemmas.{mark_tells, none_marked}
use Rattle.project_versions.proofs.step_set.StepSet.has.Goals as goal

pub returns-in-Some : goal.returns-in-Some
returns-in-Some c =
    let inside = c.self.inside in
    let within : c.in-Some.i < length inside.marks.items = let at = slice_get_within inside.order.order c.in-Some.i c.args.step c.in-Some.ensures.found in omega (arith, at, c.self.invariant) in
    let mark : slice_get inside.marks.items c.in-Some.i ≡ Some c.index.result.now = slice_get-get_or inside.marks.items c.in-Some.i c.index.result.now within ∙ ap Some (sym c.index.ensures) in
    subst (λ (v : SomeSteps). IsTrue c.index.result.now ↔ Contains v.members c.args.step) c.self.view_is
    (mark_tells inside.order.steps inside.order.order inside.marks.items c.args.step c.in-Some.i c.index.result.now c.in-Some.ensures.is_order c.in-Some.ensures.found mark)

pub returns-in-None : goal.returns-in-None
returns-in-None c =
    let inside = c.self.inside in
    subst (λ (v : SomeSteps). IsTrue false ↔ Contains v.members c.args.step) c.self.view_is
    (λ h. absurd (let f : ⊥ = cc in f), λ h. absurd (none_marked inside.order.steps inside.order.order inside.marks.items c.args.step c.in-None.ensures.is_order c.in-None.ensures.none h))
