-- The store and the versions, with one more event.
use Rattle.std.specs.Prelude.{◌≡◌, ℕ, ◌+◌, List, [], ◌∷◌, ◌++◌}
use Rattle.std.proofs.Common.{refl, arith}
use Rattle.entity_types.specs.declared.entity.Entity.{Entity}
use Rattle.entity_types.specs.declared.edit.Edit.{Edit}
use Rattle.project_versions.specs.Versions.{Event, store_by, rises_by, store_from, version_from}

pub store_more : (script : List Edit) (store : List Entity) (t : List Event) (x : Event) → store_from script store (t ++ x ∷ []) ≡ store_by script (store_from script store t) x
store_more script store [] x = refl
store_more script store (y ∷ t) x = store_more script (store_by script store y) t x

pub version_more : (script : List Edit) (store : List Entity) (t : List Event) (x : Event) (n : ℕ) → version_from script store n (t ++ x ∷ []) ≡ version_from script store n t + rises_by script (store_from script store t) n x
version_more script store [] x n = omega arith
version_more script store (y ∷ t) x n = omega (arith, version_more script (store_by script store y) t x n)
