use Rattle.std.proofs.Common.{◌≡◌, ◌+◌, [], ℕ, List, true, sym, ◌∙◌, subst, arith}
use Rattle.std.proofs.lemmas.List.{get_or_read}
use Rattle.exec_tree.specs.Exec.{has}
use Rattle.plan_store.specs.declared.limits.TheConstants.{MAX_WINDOW}
use Rattle.plan_window.specs.Window.{line}
use Rattle.plan_window.specs.Kept.{IsFilled, IsOpened}
use Rattle.plan_window.proofs.OpenLemmas.{opened_new, opened_more}
use Rattle.plan_window.proofs.opening.fill_all.Goals as goal

pub fill-next-requires-clause-new : goal.fill-next-requires-clause-new
fill-next-requires-clause-new c = λ m own.
    let lines = c.args.lines.now.items in
    let here : c.as_slice.result.now ≡ line lines c.loop-channel.channel = c.as_slice.ensures ∙ get_or_read lines c.loop-channel.channel c.index.result.now (omega (arith, c.loop-channel-test.true, c.requires.lines.channels)) c.index.ensures [] in
    opened_new c.loop-channel.store lines c.args.sent.now.steps c.args.sent.now.members c.loop-channel.nexts.items c.loop-channel.channel m c.tickets.ensures.windows c.requires.lines c.loop-channel.invariant.0
    (subst (λ (ns : List ℕ). has ns m ≡ true) here own)

pub loop-channel-preserved : goal.loop-channel-preserved
loop-channel-preserved c =
    let lines = c.args.lines.now.items in
    let k = c.loop-channel.channel in
    let here : c.as_slice.result.now ≡ line lines k = c.as_slice.ensures ∙ get_or_read lines k c.index.result.now (omega (arith, c.loop-channel-test.true, c.requires.lines.channels)) c.index.ensures [] in
    let filled = subst (λ (ns : List ℕ). IsFilled c.fill-next.new.store k c.args.sent.now.members ns c.fill-next.result MAX_WINDOW) here c.fill-next.ensures.filled in (
      subst (λ (nexts : List ℕ). IsOpened c.fill-next.new.store lines c.args.sent.now.members nexts (k + 1)) (sym c.in_ok-push.ensures.items)
          (opened_more c.loop-channel.store c.fill-next.new.store lines c.args.sent.now.members c.loop-channel.nexts.items k c.fill-next.result c.loop-channel.invariant.0 filled c.fill-next.ensures.others),
      c.fill-next.ensures.opening c.loop-channel.invariant.1,
    )
