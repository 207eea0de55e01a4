use Rattle.std.proofs.Common.{◌≡◌, ℕ, List, None, subst}
use Rattle.std.specs.Prelude.{Contains}
use Rattle.entity_types.specs.declared.entity.Entity.{Entity}
use Rattle.project_store.specs.Entities.{entity_at}
use Rattle.project_store.specs.Inserts.{uses_at}
use Rattle.project_store.proofs.Sound.{closed}
use Rattle.project_store.proofs.store.Store.closed.Goals as goal

pub returns : goal.returns
returns c =
    subst (λ (all : List Entity). (n r : ℕ) → Contains (uses_at (entity_at all) n) r → entity_at all r ≡ None → ⊥) c.self.view_is (closed c.self.inside.index c.self.invariant)
