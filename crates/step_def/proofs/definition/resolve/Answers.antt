use Rattle.step_def.proofs.Unique.{is_def_of}
use Rattle.step_def.proofs.definition.resolve.Goals as goal

pub returns-clause-exact : goal.returns-clause-exact
returns-clause-exact g c = is_def_of _ _ _ c.checked.ensures
