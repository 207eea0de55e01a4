-- Two stores that agree on what a step reaches.
use Rattle.std.specs.Prelude.{◌≡◌, ℕ, Option}
use Rattle.entity_types.specs.declared.entity.Entity.{Entity}
use Rattle.project_store.specs.Reach.{Reaches}

-- they agree on each number that is reached from n in the first
abbrev pub Agree : (ℕ → Option Entity) → (ℕ → Option Entity) → ℕ → Type 0
Agree e f n = (m : ℕ) → Reaches e n m → e m ≡ f m
