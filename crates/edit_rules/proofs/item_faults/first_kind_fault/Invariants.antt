use Rattle.std.proofs.Common.{◌≡◌, drop}
use Rattle.edit_rules.specs.Judge.{first_given, kind_fault}
use Rattle.edit_rules.proofs.item_faults.first_kind_fault.Given as goal

abbrev pub invariant-loop-item : goal.invariant-loop-item
invariant-loop-item g l = first_given (kind_fault (g.E.Entities.entities l.entities)) (drop l.item-index l.items) ≡ first_given (kind_fault (g.E.Entities.entities l.entities)) l.items
