use Rattle.std.proofs.Common.{◌≡◌, ◌+◌, ◌≤◌, length, take, vec_len}
use Rattle.std.specs.Prelude.{vec_capacity}
use Rattle.project_versions.specs.Users.{rows_of, HasRows, Links}
use Rattle.project_versions.proofs.users.Users.link_all.Given as goal

-- the edges of the references so far are there, and there is room for the others
abbrev pub invariant-loop-reference : goal.invariant-loop-reference
invariant-loop-reference l = record {
  links : Links l.store (rows_of l.initial.self) (rows_of l.self) l.user (take l.reference-index l.references);
  rows : HasRows (length l.store) (rows_of l.self);
  len : vec_len l.self.edges ≤ vec_len l.initial.self.edges + l.reference-index;
  capacity : vec_capacity l.self.edges ≡ vec_capacity l.initial.self.edges;
}
