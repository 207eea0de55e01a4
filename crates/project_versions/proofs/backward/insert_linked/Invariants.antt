use Rattle.std.proofs.Common.{◌≤◌, length}
use Rattle.project_store.specs.Inserts.{AreMembers}
use Rattle.project_versions.specs.Users.{rows_of, AddsLinked}
use Rattle.project_versions.proofs.backward.insert_linked.Given as goal

-- the users so far are in, and the others are linked from here
abbrev pub invariant-loop-link : goal.invariant-loop-link
invariant-loop-link l = record {
  adds : AddsLinked l.store (rows_of l.users) l.head l.link l.initial.set.order.items l.set.order.items;
  members : AreMembers l.set.order.items l.set.members;
  within : l.link ≤ length l.users.edges.items;
}

-- links lead back
abbrev pub decreases-loop-link : goal.decreases-loop-link
decreases-loop-link l = l.link
