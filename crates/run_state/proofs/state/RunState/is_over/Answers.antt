use Rattle.std.proofs.Common.{◌≡◌, ◌∙◌, subst, ap}
use Rattle.exec_tree.specs.Exec.{Exec}
use Rattle.trace_law.specs.Next.{next}
use Rattle.run_law.specs.Fits.{next_of, plain}
use Rattle.project_law.specs.ProjectRules.{rules_of}
use Rattle.run_frames.specs.Ready.{is_empty}
use Rattle.run_state.specs.Kept.{State}
use Rattle.run_state.proofs.state.RunState.is_over.Goals as goal

pub is_empty-requires : goal.is_empty-requires
is_empty-requires c = (plain c.self.inside.journal.list, c.self.invariant.0.at)

pub returns : goal.returns
returns c =
    let u = plain c.self.inside.journal.list in
    let k = c.self.invariant.0 in
    subst (λ (v : State). c.is_empty.result ≡ is_empty (next_of (rules_of v.project v.script) v.list)) c.self.view_is
    (c.is_empty.ensures u k.at ∙ ap (λ (e : Exec). is_empty (next e u)) k.tree_is.held)
