use Rattle.plan_window.specs.Window.{AreOpening}
use Rattle.plan_window.specs.Kept.{IsOpened}
use Rattle.plan_window.proofs.opening.fill_all.Given as goal

-- the windows of the channels so far are filled
abbrev pub invariant-loop-channel : goal.invariant-loop-channel
invariant-loop-channel l = IsOpened l.store l.lines.items l.sent.members l.nexts.items l.channel × AreOpening l.store
