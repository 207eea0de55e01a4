use Rattle.std.proofs.Common.{◌≡◌, List, true, subst}
use Rattle.std.specs.List.{list_all}
use Rattle.entity_types.specs.declared.entity.Entity.{Entity}
use Rattle.edit_rules.specs.Faults.{has_def}
use Rattle.edit_rules.specs.Project.{project_steps}
use Rattle.edit_rules.proofs.StepLemmas.{sound}
use Rattle.edit_rules.proofs.project.Project.steps.Goals as goal

pub returns-clause-defined : goal.returns-clause-defined
returns-clause-defined c =
    subst (λ (es : List Entity). list_all (has_def es) (project_steps es) ≡ true) c.self.view_is (sound c.self.inside.store c.self.inside.tree c.self.inside.steps.items c.self.inside.indices c.self.invariant).defined
