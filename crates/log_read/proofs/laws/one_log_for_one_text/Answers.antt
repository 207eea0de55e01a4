use Rattle.log_read.proofs.Answering.{one_log}
use Rattle.log_read.proofs.laws.one_log_for_one_text.Goals as goal

pub returns : goal.returns
returns c = λ t u d e in_range in_range_too is. one_log t u d e in_range in_range_too is
