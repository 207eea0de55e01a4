use Rattle.log_check.proofs.AnswerLemmas.{one_answer}
use Rattle.log_check.proofs.laws.a_log_has_one_answer.Goals as goal

pub returns : goal.returns
returns c = one_answer
