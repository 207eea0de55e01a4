-- Where the last item of each number stands.
use Rattle.std.specs.Prelude.{◌≡◌, ℕ, suc, ◌==◌, if◌then◌else◌, List, [], ◌∷◌, Option, Some, None}
use Rattle.std.specs.Option.{option_or}
use Rattle.std.specs.Ordering.{nat_cmp}
use Rattle.std.specs.BTreeMap.{BTreeMap, get}
use Rattle.entity_types.specs.declared.entity.Entity.{Entity}

-- the place of the last item of this number, where the first item stands at this index
abbrev pub last_place : ℕ → List Entity → ℕ → Option ℕ
last_place index [] n = None
last_place index (item ∷ items) n = option_or (last_place (suc index) items n) (if n == item.number then Some index else None)

-- the map has the place of the last item of each number, and nothing else
abbrev pub AreLasts : List Entity → BTreeMap ℕ ℕ → Type 0
AreLasts items lasts = (n : ℕ) → get nat_cmp lasts n ≡ last_place 0 items n
