use Rattle.number_laws.proofs.Grammars.{int_is, real_is, same_digits, refused_is}
use Rattle.number_laws.proofs.laws.number_laws.Goals as goal

pub returns : goal.returns
returns c = record { int = int_is; real = real_is; digits = same_digits; refused = refused_is }
