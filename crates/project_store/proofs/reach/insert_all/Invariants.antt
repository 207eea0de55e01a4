use Rattle.std.proofs.Common.{◌≡◌, drop}
use Rattle.project_store.specs.Inserts.{insert_all, AreMembers}
use Rattle.project_store.proofs.reach.insert_all.Given as goal

abbrev pub invariant-loop-number : goal.invariant-loop-number
invariant-loop-number l = record {
  order : insert_all l.set.order.items (drop l.number-index l.numbers) ≡ insert_all l.initial.set.order.items l.numbers;
  members : AreMembers l.set.order.items l.set.members;
}
