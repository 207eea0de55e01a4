-- A store that edits are put into, with the version of each workingstep.
use Rattle.std.specs.Prelude.{◌≡◌, ◌↔◌, ℕ, ◌-◌, ◌==◌, if◌then◌else◌, true, List, [], ◌∷◌, length, Contains}
use Rattle.std.specs.List.Sorted.{IsStrictlyIncreasing}
use Rattle.entity_types.specs.declared.entity.Entity.{Entity}
use Rattle.project_store.specs.Put.{put_items}
use Rattle.project_versions.specs.Reach.{is_reached}

-- what contracts see of Versions: the entities of the store, the workingsteps, each with its version in order of number, and how many
-- further instances there is room for
pub record Versioned : Type 0 where
  pub store : List Entity
  pub steps : List ℕ
  pub versions : List (ℕ × ℕ)
  pub spare : ℕ

-- the version of a workingstep
abbrev pub version_of : List (ℕ × ℕ) → ℕ → ℕ
version_of [] n = 0
version_of (x ∷ versions) n = if x.0 == n then x.1 else version_of versions n

-- each number with its count
abbrev pub counted : List ℕ → List ℕ → List (ℕ × ℕ)
counted [] counts = []
counted (n ∷ ns) [] = []
counted (n ∷ ns) (count ∷ counts) = (n, count) ∷ counted ns counts

-- how many instances are new in the store with these items put
abbrev pub new_instances : List Entity → List Entity → ℕ
new_instances store items = length (put_items store items) - length store

-- the workingsteps that an edit reaches, in order of number
pub record AreReached (store : List Entity) (steps : List ℕ) (items : List Entity) (numbers : List ℕ) : Type 0 where
  pub rising : IsStrictlyIncreasing numbers
  pub members : (n : ℕ) → Contains numbers n ↔ (Contains steps n × (is_reached store items n ≡ true))
