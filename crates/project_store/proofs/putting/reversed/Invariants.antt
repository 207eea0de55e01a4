use Rattle.std.proofs.Common.{◌≡◌, ◌+◌, ◌≤◌, ◌++◌, length, reverse, vec_len, vec_capacity}
use Rattle.project_store.proofs.putting.reversed.Given as goal

-- the items so far, and behind them those that are left, from the last to the first; there is room for these
abbrev pub invariant-loop-item : goal.invariant-loop-item
invariant-loop-item l = record {
  same : l.room.items ++ reverse l.items ≡ reverse l.fn.items;
  reserved : vec_len l.room + length l.items ≤ vec_capacity l.room;
}

abbrev pub decreases-loop-item : goal.decreases-loop-item
decreases-loop-item l = length l.items
