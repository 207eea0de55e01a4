use Rattle.frame_law.proofs.WayLookLemmas.{opening_led}
use Rattle.frame_law.proofs.looks.where_it_leads_is_opened_as_soon.Goals as goal

pub returns : goal.returns
returns g = λ e. opening_led e
