use Rattle.std.proofs.Common.{◌≡◌, drop}
use Rattle.std.specs.List.{list_all}
use Rattle.project_store.specs.Build.{is_of_target}
use Rattle.project_store.proofs.build.are_of_target.Given as goal

abbrev pub invariant-loop-reference : goal.invariant-loop-reference
invariant-loop-reference l = list_all (is_of_target l.index l.target) (drop l.reference-index l.references) ≡ list_all (is_of_target l.index l.target) l.references
