use Rattle.std.proofs.Common.{◌≡◌, drop}
use Rattle.edit_rules.specs.Judge.{missing_among}
use Rattle.edit_rules.proofs.item_faults.missing_among.Given as goal

abbrev pub invariant-loop-reference : goal.invariant-loop-reference
invariant-loop-reference g l = missing_among (g.E.Entities.entities l.entities) (drop l.reference-index l.references) ≡ missing_among (g.E.Entities.entities l.entities) l.references
