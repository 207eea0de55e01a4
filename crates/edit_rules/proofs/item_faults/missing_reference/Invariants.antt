use Rattle.std.proofs.Common.{◌≡◌, drop}
use Rattle.edit_rules.specs.Judge.{missing_reference}
use Rattle.edit_rules.proofs.item_faults.missing_reference.Given as goal

abbrev pub invariant-loop-field : goal.invariant-loop-field
invariant-loop-field g l = missing_reference (g.E.Entities.entities l.entities) (drop l.field-index l.fields) ≡ missing_reference (g.E.Entities.entities l.entities) l.fields
