use Rattle.units_um.proofs.Scale.{nearest_law}
use Rattle.units_um.proofs.laws.half_up.Goals as goal

pub returns : goal.returns
returns c = nearest_law
