-- What words mean.
use Rattle.std.specs.Prelude.{◌≡◌, ℕ, true, List}
use Rattle.controller.specs.Words.{help_line, version_line, is_line, IsReplay, IsPath, IsBig, IsCheck, AreBadAt}

-- a command with what it names, or the place at which words are bad
pub data Meaning : Type 0 where
  Replay : List ℕ → List ℕ → List ℕ → ℕ → Meaning
  Path : List ℕ → ℕ → Meaning
  Big : ℕ → ℕ → Meaning
  Check : List ℕ → List ℕ → List ℕ → Meaning
  Help : Meaning
  Version : Meaning
  Bad : ℕ → Meaning

-- the words mean this
abbrev pub Mean : List (List ℕ) → Meaning → Type 0
Mean ws (Replay project script schedule limit) = IsReplay ws project script schedule limit
Mean ws (Path project step) = IsPath ws project step
Mean ws (Big steps start) = IsBig ws steps start
Mean ws (Check project script log) = IsCheck ws project script log
Mean ws Help = is_line ws help_line ≡ true
Mean ws Version = is_line ws version_line ≡ true
Mean ws (Bad place) = AreBadAt ws place
