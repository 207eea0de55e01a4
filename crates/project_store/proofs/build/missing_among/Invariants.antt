use Rattle.std.proofs.Common.{◌≡◌, drop}
use Rattle.project_store.specs.Build.{missing_among}
use Rattle.project_store.proofs.build.missing_among.Given as goal

abbrev pub invariant-loop-reference : goal.invariant-loop-reference
invariant-loop-reference l = missing_among l.index (drop l.reference-index l.references) ≡ missing_among l.index l.references
