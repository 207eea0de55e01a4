use Rattle.log_read.proofs.OneReading.{one, apart, single}
use Rattle.log_read.proofs.laws.log_laws.Goals as goal

pub returns-clause-one : goal.returns-clause-one
returns-clause-one c = one

pub returns-clause-apart : goal.returns-clause-apart
returns-clause-apart c = apart

pub returns-clause-single : goal.returns-clause-single
returns-clause-single c = single
