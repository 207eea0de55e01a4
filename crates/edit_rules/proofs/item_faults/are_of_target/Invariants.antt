use Rattle.std.proofs.Common.{◌≡◌, drop}
use Rattle.std.specs.List.{list_all}
use Rattle.edit_rules.specs.Judge.{is_of_target}
use Rattle.edit_rules.proofs.item_faults.are_of_target.Given as goal

abbrev pub invariant-loop-reference : goal.invariant-loop-reference
invariant-loop-reference g l = list_all (is_of_target (g.E.Entities.entities l.entities) l.target) (drop l.reference-index l.references) ≡ list_all (is_of_target (g.E.Entities.entities l.entities) l.target) l.references
