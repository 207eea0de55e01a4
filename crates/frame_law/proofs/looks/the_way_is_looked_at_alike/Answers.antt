use Rattle.frame_law.proofs.WayLookLemmas.{looks_after}
use Rattle.frame_law.proofs.looks.the_way_is_looked_at_alike.Goals as goal

pub returns : goal.returns
returns g = λ c c' e m a kept. looks_after c c' e m a kept
