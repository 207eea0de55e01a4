use Rattle.plan_window.specs.Window.{AreOpening}
use Rattle.plan_window.specs.Kept.{IsFilled, StayBut}
use Rattle.plan_window.proofs.opening.fill.Given as goal

-- so many tickets are placed, or all that there are
abbrev pub invariant-loop-turn : goal.invariant-loop-turn
invariant-loop-turn l = IsFilled l.store l.channel l.sent.members l.line l.next l._turn × StayBut l.channel l.initial.store l.store × (AreOpening l.initial.store → AreOpening l.store)
