use Rattle.std.proofs.Common.{◌≡◌, ◌-◌, ◌<◌, ◌≤◌, ℕ, true}
use Rattle.pick_set.specs.Picks.{is_picked}
use Rattle.pick_set.specs.Rows.{picks_of}
use Rattle.pick_set.proofs.row.next_left.Given as goal

abbrev pub invariant-loop-next : goal.invariant-loop-next
invariant-loop-next l = record { within : l.next ≤ l.row.room; before : (j : ℕ) → j < l.next → is_picked (picks_of l.row l.order) j ≡ true }

abbrev pub decreases-loop-next : goal.decreases-loop-next
decreases-loop-next l = l.row.room - l.next
