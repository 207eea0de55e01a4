use Rattle.std.proofs.Common.{◌≡◌, ◌∙◌, subst, ap, ℕ}
use Rattle.std.specs.Prelude.{slice_get, is_none}
use Rattle.run_law.specs.Fits.{judged}
use Rattle.project_law.specs.ProjectRules.{rules_of}
use Rattle.run_state.specs.Kept.{State}
use Rattle.run_state.proofs.EditLemmas.{judged_is}
use Rattle.run_state.proofs.state.RunState.are_judged.Goals as goal

pub returns : goal.returns
returns c =
    let p = c.self.inside.store in
    let s = c.self.inside.edits.script in
    subst (λ (v : State). c.are_judged.result ≡ is_none (slice_get (rules_of v.project v.script).edits (judged v.list))) c.self.view_is
    (c.are_judged.ensures ∙ (judged_is p s c.self.inside.edits.judged ∙ ap (λ (i : ℕ). is_none (slice_get (rules_of p s).edits i)) c.self.invariant.1.count))
