use Rattle.std.proofs.Common.{◌∙◌, sym}
use Rattle.std.proofs.lemmas.Bool.{eq-eqb}
use Rattle.project_store.proofs.PutLemmas.{differ}
use Rattle.project_store.proofs.Sound.{project_found, project_not_yet}
use Rattle.project_store.proofs.index.Index.project.Goals as goal

pub returns-then-code-eq1 : goal.returns-then-code-eq1
returns-then-code-eq1 c =
    project_found c.args.self.now c.loop-i.i c.at-entity.result.now c.requires c.at-entity.ensures
    (eq-eqb _ 1 (sym c.code.ensures ∙ c.if-code-eq1.true)) c.loop-i.invariant

pub loop-i-preserved : goal.loop-i-preserved
loop-i-preserved c =
    project_not_yet c.args.self.now c.loop-i.i c.at-entity.result.now c.at-entity.ensures
    (differ _ 1 (λ e. c.if-code-eq1.false (c.code.ensures ∙ e))) c.loop-i.invariant
