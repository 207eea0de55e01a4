use Rattle.std.proofs.Common.{◌≡◌, ◌++◌, take}
use Rattle.project_store.specs.Entities.{numbers_of}
use Rattle.project_store.specs.Inserts.{AreMembers}
use Rattle.project_store.specs.Put.{put_items}
use Rattle.project_store.proofs.putting.new_numbers.Given as goal

-- the numbers that the items so far bring
abbrev pub invariant-loop-item : goal.invariant-loop-item
invariant-loop-item l = record {
  numbers : numbers_of (put_items l.index (take l.item-index l.items)) ≡ numbers_of l.index ++ l.numbers.order.items;
  members : AreMembers l.numbers.order.items l.numbers.members;
}
