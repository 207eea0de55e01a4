use Rattle.std.proofs.Common.{◌≡◌, ◌∙◌, subst, sym, true}
use Rattle.exec_tree.specs.Exec.{has}
use Rattle.project_law.specs.ProjectRules.{store_steps, version_after}
use Rattle.run_state.specs.Kept.{State}
use Rattle.run_state.proofs.EditLemmas.{step_has_version}
use Rattle.run_state.proofs.state.RunState.version.Goals as goal

pub version-requires : goal.version-requires
version-requires c =
    step_has_version c.self.inside.store c.self.inside.journal.list c.self.inside.edits c.args.step c.self.invariant.1
    (subst (λ (v : State). has (store_steps v.project) c.args.step ≡ true) (sym c.self.view_is) c.requires)

pub returns : goal.returns
returns c =
    subst (λ (v : State). c.version.result ≡ version_after v.script v.project v.list c.args.step) c.self.view_is
    (c.version.ensures ∙ c.self.invariant.1.versions_are c.args.step (subst (λ (v : State). has (store_steps v.project) c.args.step ≡ true) (sym c.self.view_is) c.requires))
