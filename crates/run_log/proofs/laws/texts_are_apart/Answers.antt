use Rattle.std.specs.Prelude.{[]}
use Rattle.run_log.proofs.TextsLemmas.{one_text}
use Rattle.run_log.proofs.laws.texts_are_apart.Goals as goal

pub returns : goal.returns
returns c = λ line last t u d e l q. one_text line last l [] t u d e q
