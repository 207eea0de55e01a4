use Rattle.std.proofs.Common.{arith}
use Rattle.project_versions.proofs.KeptLemmas.{all_few}
use Rattle.project_versions.proofs.laws.few_are_new.Goals as goal

pub returns : goal.returns
returns c = λ store items. omega (arith, all_few store items)
