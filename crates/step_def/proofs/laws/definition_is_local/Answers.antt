use Rattle.step_def.proofs.Looking.{definition_same}
use Rattle.step_def.proofs.laws.definition_is_local.Goals as goal

pub returns : goal.returns
returns c = λ e f n agree. definition_same e f n agree
