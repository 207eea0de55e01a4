use Rattle.std.proofs.Common.{◌≡◌, ◌∙◌, subst, sym, ap, ℕ}
use Rattle.std.specs.Prelude.{slice_get}
use Rattle.std.specs.List.{list_all}
use Rattle.run_law.specs.Fits.{is_due, is_stuck, next_of}
use Rattle.run_law.specs.Endings.{waits}
use Rattle.project_law.specs.ProjectRules.{rules_of}
use Rattle.run_state.specs.Kept.{State}
use Rattle.run_state.specs.Edits.{due_by}
use Rattle.run_state.proofs.EditLemmas.{due_is, stuck_is}
use Rattle.run_state.proofs.state.RunState.is_due.Goals as goal

pub returns : goal.returns
returns c =
    let p = c.self.inside.store in
    let s = c.self.inside.edits.script in
    let t = c.self.inside.journal.list in
    let k = c.self.invariant.0 in
    let waiting : c.args.waiting ≡ list_all (waits (rules_of p s) t) (next_of (rules_of p s) t) =
    subst (λ (v : State). c.args.waiting ≡ list_all (waits (rules_of v.project v.script) v.list) (next_of (rules_of v.project v.script) v.list)) (sym c.self.view_is) c.requires in
    let stuck : c.args.waiting ≡ is_stuck (rules_of p s) t = waiting ∙ stuck_is (rules_of p s) t (λ n e f. c.stuck_project_waits.ensures p s t n k.tree_is.no_fault k.legal e f) in
    subst (λ (v : State). c.are_due.result ≡ is_due (rules_of v.project v.script) v.list) c.self.view_is
    (c.are_due.ensures ∙ (ap (λ (count : ℕ). due_by (slice_get s c.self.inside.edits.judged) count c.args.waiting) c.len.ensures ∙ due_is p s t c.self.inside.edits.judged c.args.waiting c.self.invariant.1.count stuck))
