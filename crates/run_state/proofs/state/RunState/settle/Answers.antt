use Rattle.std.proofs.Common.{◌≡◌, ◌∙◌, subst, sym, ap, refl, [], ◌∷◌, ◌++◌, List, true}
use Rattle.entity_types.specs.declared.edit.Edit.{Edit as ScriptEdit}
use Rattle.run_log.specs.declared.entry.Entry.{Entry}
use Rattle.run_log.specs.declared.entry.Entry.TheVariants.{Edit}
use Rattle.run_law.specs.Fits.{FitsEdit, is_due, judged}
use Rattle.project_law.specs.ProjectRules.{rules_of, verdict_after}
use Rattle.run_state.specs.Pages.{Pages}
use Rattle.run_state.specs.Kept.{State, IsState}
use Rattle.run_state.specs.Edits.{AreKept}
use Rattle.run_state.proofs.StateLemmas.{edit_follows}
use Rattle.run_state.proofs.state.RunState.settle.Goals as goal

pub invariant_of-self-2 : goal.invariant_of-self-2
invariant_of-self-2 c =
    let p = c.self.inside.store in
    let s = c.self.inside.edits.script in
    let t = c.self.inside.journal.list in
    let i = c.self.inside.edits.judged in
    let w = c.args.verdict in
    let k = c.self.invariant.0 in
    let e = c.self.invariant.1 in
    let due : is_due (rules_of p s) t ≡ true = subst (λ (v : State). is_due (rules_of v.project v.script) v.list ≡ true) (sym c.self.view_is) c.requires.due in
    let told : w ≡ verdict_after s p t (judged t) = subst (λ (v : State). w ≡ verdict_after v.script v.project v.list (judged v.list)) (sym c.self.view_is) c.requires.verdict in
    let own : w ≡ verdict_after s p t i = told ∙ ap (verdict_after s p t) (sym e.count) in
    let fits : FitsEdit (rules_of p s) t i w = record { due = due; next_one = e.count; verdict = own } in
    let legal = c.legal_runs.ensures.more (rules_of p s) t (Edit i w) k.legal fits in
    let later = t ++ Edit i w ∷ [] in
    let kept = edit_follows p s c.self.inside.tree c.self.inside.frames t c.self.inside.marks c.self.inside.vars c.self.inside.steps i w k legal (c.logs_move.ensures.edit t i w).0 (c.logs_move.ensures.marks t (Edit i w))
    (λ v. c.project_rules_move.ensures.vars p s t (Edit i w) v) (λ n. c.logs_move.ensures.stage t (Edit i w) n) (λ n. c.project_rules_move.ensures.kept p s t (Edit i w) n refl) in
    let logged : c.take.new.self.list ≡ later = ap (λ (v : Pages). v.list) c.take.ensures in (
      subst (λ (r : List ScriptEdit). IsState p r c.self.inside.tree c.self.inside.frames c.take.new.self.list c.self.inside.marks c.self.inside.vars c.self.inside.steps) (sym c.in_ok-settle.ensures.script)
          (subst (λ (u : List Entry). IsState p s c.self.inside.tree c.self.inside.frames u c.self.inside.marks c.self.inside.vars c.self.inside.steps) (sym logged) kept),
      subst (λ (u : List Entry). AreKept p u c.settle.new.self) (sym logged) (c.in_ok-settle.ensures.kept p t e own),
    )
