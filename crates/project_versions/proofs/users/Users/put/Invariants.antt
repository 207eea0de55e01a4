use Rattle.std.proofs.Common.{◌+◌, ◌≤◌, length, take, drop, vec_len}
use Rattle.std.specs.Prelude.{vec_capacity}
use Rattle.project_versions.specs.Users.{rows_of, HasRows, PutsRows, uses_count}
use Rattle.project_versions.proofs.users.Users.put.Given as goal

-- the rows of the items so far are set, and there is room for the others
abbrev pub invariant-loop-item : goal.invariant-loop-item
invariant-loop-item l = record {
  puts : PutsRows l.store (rows_of l.initial.self) (rows_of l.self) (take l.item-index l.items);
  rows : HasRows (length l.store) (rows_of l.self);
  len : vec_len l.self.edges + uses_count (drop l.item-index l.items) ≤ vec_capacity l.self.edges;
}
