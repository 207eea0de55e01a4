use Rattle.project_versions.proofs.UnreachedLemmas.{kept}
use Rattle.project_versions.proofs.laws.unreached_keeps_its_definition.Goals as goal

pub returns : goal.returns
returns c = λ store items n out. kept c.definition_is_local.ensures store items n out
