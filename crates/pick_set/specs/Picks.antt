-- The picks of the elements of nodes.
use Rattle.std.specs.Prelude.{◌≡◌, ◌<◌, ◌≤◌, ◌==◌, ℕ, Bool, true, false, List, [], get_or}
use Rattle.std.specs.List.{list_any}

-- the index is among these
abbrev pub is_picked : List ℕ → ℕ → Bool
is_picked ks k = list_any (λ j. j == k) ks

-- of each node, by place, its picks in the order in which they were made, and how many elements it has
pub record PicksMade : Type 0 where
  pub made : List (List ℕ)
  pub rooms : List ℕ

-- the picks of the node at a place
abbrev pub made_at : List (List ℕ) → ℕ → List ℕ
made_at made p = get_or made p []

-- k is the least index of so many that isn't among the picks, or their number where all are
pub record IsLeastLeft (room : ℕ) (ks : List ℕ) (k : ℕ) : Type 0 where
  pub within : k ≤ room
  pub before : (j : ℕ) → j < k → is_picked ks j ≡ true
  pub left : k < room → is_picked ks k ≡ false
