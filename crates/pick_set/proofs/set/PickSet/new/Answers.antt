use Rattle.pick_set.proofs.LayoutLemmas.{laid_none}
use Rattle.pick_set.proofs.set.PickSet.new.Goals as goal

pub returns-clause-none : goal.returns-clause-none
returns-clause-none c = λ p. laid_none c.args.rooms.now c.in_ok-rows.rows.items c.in_ok-rows.slots _ c.in_ok-rows.ensures p
