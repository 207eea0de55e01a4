use Rattle.std.proofs.Common.{◌≡◌, ◌-◌, ◌^◌, vec_len}
use Rattle.std.specs.Prelude.{vec_capacity}
use Rattle.project_versions.specs.Users.{rows_of, Spares}
use Rattle.project_versions.proofs.users.Users.unlink_row.Given as goal

-- the rows that were right are so still
abbrev pub invariant-loop-k : goal.invariant-loop-k
invariant-loop-k l = record {
  spares : Spares l.store (rows_of l.initial.self) (rows_of l.self);
  len : vec_len l.self.edges ≡ vec_len l.initial.self.edges;
  capacity : vec_capacity l.self.edges ≡ vec_capacity l.initial.self.edges;
}

abbrev pub decreases-loop-k : goal.decreases-loop-k
decreases-loop-k l = 2 ^ 64 - l.k
