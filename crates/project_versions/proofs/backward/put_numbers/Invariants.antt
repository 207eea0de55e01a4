use Rattle.std.proofs.Common.{take, []}
use Rattle.project_store.specs.Entities.{numbers_of}
use Rattle.project_store.specs.Inserts.{AreMembers}
use Rattle.project_versions.specs.Users.{Grown}
use Rattle.project_versions.proofs.backward.put_numbers.Given as goal

-- the numbers of the items so far are in
abbrev pub invariant-loop-item : goal.invariant-loop-item
invariant-loop-item l = record {
  order : Grown [] l.set.order.items (numbers_of (take l.item-index l.items));
  members : AreMembers l.set.order.items l.set.members;
}
