use Rattle.std.proofs.Common.{List, subst}
use Rattle.entity_types.specs.declared.entity.Entity.{Entity}
use Rattle.edit_rules.specs.Project.{IsSound}
use Rattle.edit_rules.proofs.StepLemmas.{sound}
use Rattle.edit_rules.proofs.project.Project.sound.Goals as goal

pub returns : goal.returns
returns c = subst (λ (es : List Entity). IsSound es) c.self.view_is (sound c.self.inside.store c.self.inside.tree c.self.inside.steps.items c.self.inside.indices c.self.invariant)
