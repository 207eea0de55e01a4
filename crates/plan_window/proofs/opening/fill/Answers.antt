use Rattle.plan_window.proofs.OpenLemmas.{filled_new, filled_joined, others_stay, opening_stays}
use Rattle.plan_window.proofs.opening.fill.Goals as goal

pub come_in-next-requires-clause-new : goal.come_in-next-requires-clause-new
come_in-next-requires-clause-new c = λ m comes.
    filled_new c.args.store.now c.loop-turn.store c.args.channel c.args.sent.now.members c.args.line.now c.loop-turn.next c.loop-turn._turn m c.tickets.ensures.windows c.loop-turn.invariant.1 c.requires.distinct c.requires.new c.loop-turn.invariant.0 comes

pub loop-turn-preserved : goal.loop-turn-preserved
loop-turn-preserved c =
    let old = c.loop-turn.invariant in
    let joins = c.come_in-next.ensures.joined in (
      filled_joined (λ m. 0) c.loop-turn.store c.come_in-next.new.store c.args.channel c.args.sent.now.members c.args.line.now c.loop-turn.next c.come_in-next.result c.loop-turn._turn joins c.come_in-next.ensures.rest old.0,
      others_stay (λ m. 0) c.args.store.now c.loop-turn.store c.come_in-next.new.store c.args.channel _ c.tickets.ensures.windows joins old.1,
      λ h. opening_stays c.loop-turn.store c.come_in-next.new.store c.args.channel _ joins (old.2 h),
    )
