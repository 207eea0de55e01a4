-- What a journal shows of a run's entries.
use Rattle.std.specs.Prelude.{◌≡◌, ◌<◌, ℕ, List, [], ◌∷◌, length}
use Rattle.run_log.specs.declared.entry.Entry.{Entry}

-- the entries so far, those of a log that are still to be followed, and how many entries there is room for
pub record Pages : Type 0 where
  pub list : List Entry
  pub coming : List Entry
  pub room : ℕ

-- the entry is the first of those to be followed, or where there is none there is room for one more
abbrev pub IsFirstOf : List Entry → List Entry → ℕ → Entry → Type 0
IsFirstOf [] list room x = length list < room
IsFirstOf (y ∷ coming) list room x = y ≡ x

-- the entry comes next
abbrev pub ComesNext : Pages → Entry → Type 0
ComesNext pages x = IsFirstOf pages.coming pages.list pages.room x
