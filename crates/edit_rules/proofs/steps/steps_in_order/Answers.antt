use Rattle.std.proofs.Common.{get_or, sym, refl}
use Rattle.edit_rules.proofs.FaultLemmas.{with_step}
use Rattle.edit_rules.proofs.steps.steps_in_order.Goals as goal

pub loop-n-preserved : goal.loop-n-preserved
loop-n-preserved g c =
    rw c.in_ok-push-in-Ok.ensures.items (with_step c.args.store.now c.args.numbers.now c.loop-n.n-index c.loop-n.steps.items (record { number = get_or c.args.numbers.now c.loop-n.n-index 0; def = c.in-Ok.def }) c.loop-n-test.true refl
    (sym c.in-Ok.ensures.exact) c.loop-n.invariant)
