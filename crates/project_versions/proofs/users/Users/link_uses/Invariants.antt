use Rattle.std.proofs.Common.{◌≡◌, ◌+◌, ◌≤◌, length, take, drop, vec_len}
use Rattle.std.specs.Prelude.{vec_capacity, flat_map}
use Rattle.entity_types.specs.Entity.{references_of}
use Rattle.project_versions.specs.Users.{rows_of, HasRows, Links}
use Rattle.project_versions.proofs.users.Users.link_uses.Given as goal

-- the edges of the fields so far are there, and there is room for the others
abbrev pub invariant-loop-field : goal.invariant-loop-field
invariant-loop-field l = record {
  links : Links l.store (rows_of l.initial.self) (rows_of l.self) l.user (flat_map references_of (take l.field-index l.field-items));
  rows : HasRows (length l.store) (rows_of l.self);
  len : vec_len l.self.edges + length (flat_map references_of (drop l.field-index l.field-items)) ≤ vec_len l.initial.self.edges + length (flat_map references_of l.field-items);
  capacity : vec_capacity l.self.edges ≡ vec_capacity l.initial.self.edges;
}
