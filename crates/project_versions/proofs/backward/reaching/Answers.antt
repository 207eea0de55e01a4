use Rattle.project_versions.proofs.BackwardLemmas.{reached_steps}
use Rattle.project_versions.proofs.backward.reaching.Goals as goal

pub returns : goal.returns
returns c =
    reached_steps c.args.store.now c.args.order.now.steps c.args.items.now c.in_ok-numbers.numbers.keys c.steps_among.result c.in_ok-numbers.ensures c.steps_among.ensures.list c.steps_among.ensures.rising
