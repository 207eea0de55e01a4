use Rattle.std.proofs.Common.{◌≡◌, ◌++◌, drop}
use Rattle.std.specs.Prelude.{flat_map}
use Rattle.entity_types.specs.Entity.{references_of}
use Rattle.entity_types.proofs.entity.Entity.uses.Given as goal

-- the references so far and those of the fields that are left are those of all
abbrev pub invariant-loop-field : goal.invariant-loop-field
invariant-loop-field l = l.numbers ++ flat_map references_of (drop l.field-index l.field-items) ≡ flat_map references_of l.field-items
