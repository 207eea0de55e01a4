use Rattle.std.proofs.Common.{◌≡◌, ◌∙◌, subst, sym, ap, ℕ, List, true}
use Rattle.std.specs.List.{list_all}
use Rattle.entity_types.specs.declared.entity.Entity.{Entity}
use Rattle.project_store.specs.Entities.{entity_at}
use Rattle.step_def.specs.Condition.{is_workingstep}
use Rattle.exec_tree.specs.Built.{steps_in}
use Rattle.edit_rules.specs.Judge.{judge}
use Rattle.project_law.specs.Script.{store_after}
use Rattle.project_law.specs.ProjectRules.{store_steps, verdict_after}
use Rattle.run_state.proofs.EditLemmas.{all_pass, if_ok, kept_of, store_of, verdict_is}
use Rattle.run_state.proofs.edits.Edits.judge.Goals as goal

pub judge-requires-clause-workingsteps : goal.judge-requires-clause-workingsteps
judge-requires-clause-workingsteps g c =
    let k = c.requires.kept in
    let s = c.args.self.now.script in
    let e = c.in-Some.editing in
    subst (λ (ns : List ℕ). list_all (is_workingstep (entity_at e.versions.store)) ns ≡ true) (sym k.3)
    (subst (λ (store : List Entity). list_all (is_workingstep (entity_at store)) (store_steps k.0) ≡ true) (sym (store_of k.0 k.1 c.args.self.now e k.2 c.in-Some.is)) (all_pass (is_workingstep (entity_at (store_after s k.0 k.1))) (store_steps k.0) k.2.steps_are))

pub returns-clause-verdict : goal.returns-clause-verdict
returns-clause-verdict g c = λ project t k steps.
    let s = c.args.self.now.script in
    let e = c.in-Some.editing in
    let it = c.at-edit.result.now in
    let own = kept_of project t c.args.self.now e k c.in-Some.is in
    if_ok c.judge.result (λ v. v ≡ judge e.versions.store (steps_in c.args.tree.now.nodes) e.sent.members it.items) (λ v. v ≡ verdict_after s project t c.args.self.now.judged) c.judge.ensures.verdict
    (λ v h. h ∙ (ap (λ (store : List Entity). judge store (steps_in c.args.tree.now.nodes) e.sent.members it.items) (store_of project t c.args.self.now e k c.in-Some.is)
    ∙ (ap (λ (ns : List ℕ). judge (store_after s project t) ns e.sent.members it.items) steps
    ∙ verdict_is project s t c.args.self.now.judged it e.sent.members c.at-edit.ensures own.sent_are)))
