use Rattle.std.proofs.Common.{◌≡◌, ◌-◌, length}
use Rattle.plan_window.specs.Kept.{coming}
use Rattle.plan_window.proofs.coming.first_unsent.Given as goal

-- those passed over so far were dispatched
abbrev pub invariant-loop-index : goal.invariant-loop-index
invariant-loop-index l = coming l.sent.members l.line l.index ≡ coming l.sent.members l.line l.next

abbrev pub decreases-loop-index : goal.decreases-loop-index
decreases-loop-index l = length l.line - l.index
