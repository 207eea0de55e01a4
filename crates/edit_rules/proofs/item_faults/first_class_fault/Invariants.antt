use Rattle.std.proofs.Common.{◌≡◌, drop}
use Rattle.project_store.specs.Entities.{entity_at}
use Rattle.edit_rules.specs.Judge.{first_given, class_fault}
use Rattle.edit_rules.proofs.item_faults.first_class_fault.Given as goal

abbrev pub invariant-loop-item : goal.invariant-loop-item
invariant-loop-item l = first_given (class_fault (entity_at l.store)) (drop l.item-index l.items) ≡ first_given (class_fault (entity_at l.store)) l.items
