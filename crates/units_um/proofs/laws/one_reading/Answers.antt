use Rattle.units_um.proofs.OneReading.{read_again, read_takes, same_number}
use Rattle.units_um.proofs.laws.one_reading.Goals as goal

pub returns-clause-read : goal.returns-clause-read
returns-clause-read c = λ text n. (read_again text n, read_takes text n)

pub returns-clause-single : goal.returns-clause-single
returns-clause-single c = same_number
