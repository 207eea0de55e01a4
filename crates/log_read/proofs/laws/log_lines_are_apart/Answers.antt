use Rattle.log_read.proofs.Answering.{log_lines_apart}
use Rattle.log_read.proofs.laws.log_lines_are_apart.Goals as goal

pub returns : goal.returns
returns c = log_lines_apart
