use Rattle.log_read.proofs.Answering.{gives_text, gives_refusal}
use Rattle.log_read.proofs.reading.read.Goals as goal

pub returns-clause-only : goal.returns-clause-only
returns-clause-only c = λ t ending is. gives_text c.args.bytes.now c.log_in.result t ending c.log_in.ensures is

pub returns-clause-refuses : goal.returns-clause-refuses
returns-clause-refuses c = λ e is. gives_refusal c.args.bytes.now c.log_in.result e c.log_in.ensures is
