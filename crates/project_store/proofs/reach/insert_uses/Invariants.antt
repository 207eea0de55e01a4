use Rattle.std.proofs.Common.{◌≡◌, drop}
use Rattle.std.specs.Prelude.{flat_map}
use Rattle.entity_types.specs.Entity.{references_of}
use Rattle.project_store.specs.Inserts.{insert_all, AreMembers}
use Rattle.project_store.proofs.reach.insert_uses.Given as goal

abbrev pub invariant-loop-field : goal.invariant-loop-field
invariant-loop-field l = record {
  order : insert_all l.set.order.items (flat_map references_of (drop l.field-index l.field-items)) ≡ insert_all l.initial.set.order.items (flat_map references_of l.field-items);
  members : AreMembers l.set.order.items l.set.members;
}
