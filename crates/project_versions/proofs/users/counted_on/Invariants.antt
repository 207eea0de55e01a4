use Rattle.std.proofs.Common.{◌≡◌, ◌+◌, length, drop}
use Rattle.std.specs.Prelude.{flat_map}
use Rattle.entity_types.specs.Entity.{references_of}
use Rattle.project_versions.proofs.users.counted_on.Given as goal

-- what is counted and what is left are all
abbrev pub invariant-loop-field : goal.invariant-loop-field
invariant-loop-field l = l.count + length (flat_map references_of (drop l.field-index l.field-items)) ≡ l.before + length (flat_map references_of l.field-items)
