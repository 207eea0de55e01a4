use Rattle.std.proofs.Common.{◌≡◌, drop}
use Rattle.std.specs.Prelude.{flat_map}
use Rattle.entity_types.specs.Entity.{references_of}
use Rattle.project_store.specs.Build.{missing_among}
use Rattle.project_store.proofs.build.missing_reference.Given as goal

abbrev pub invariant-loop-field : goal.invariant-loop-field
invariant-loop-field l = missing_among l.index (flat_map references_of (drop l.field-index l.field-items)) ≡ missing_among l.index (flat_map references_of l.field-items)
