use Rattle.std.proofs.Common.{◌≡◌, ℕ, ◌<◌, Some}
use Rattle.std.specs.Prelude.{slice_get}
use Rattle.entity_types.specs.declared.entity.Entity.{Entity}
use Rattle.definition_tests.proofs.CanPutLemmas.{FitsIn}
use Rattle.definition_tests.proofs.putting.can_be_put.Given as goal

-- the items so far fit
abbrev pub invariant-loop-i : goal.invariant-loop-i
invariant-loop-i l = (k : ℕ) (x : Entity) → k < l.i → slice_get l.items k ≡ Some x → FitsIn l.store x
