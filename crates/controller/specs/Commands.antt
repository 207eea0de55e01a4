-- What the words of a command ask for, read word by word.
use Rattle.std.specs.Prelude.{◌≡◌, ℕ, Bool, true, false, List, slice_get, Option, Some, None, Result, Ok, Err}
use Rattle.controller.specs.declared.command.Command.{Command}
use Rattle.controller.specs.declared.command.Command.TheVariants.{Replay, Path, Big, Check, Help, Version}
use Rattle.controller.specs.Words.{Form, help_line, version_line, is_line, IsReplay, IsPath, IsBig, IsCheck, AreBadAt}

-- a word stands there, and it is of the form
abbrev pub is_some_of : Form → Option (List ℕ) → Bool
is_some_of form None = false
is_some_of form (Some w) = form w

-- a word of the form stands at the place
abbrev pub has_word : List (List ℕ) → ℕ → Form → Bool
has_word ws place form = is_some_of form (slice_get ws place)

-- this word stands at the place, and it is of the form
abbrev pub HasWord : List (List ℕ) → ℕ → Form → List ℕ → Type 0
HasWord ws place form w = (slice_get ws place ≡ Some w) × (form w ≡ true)

-- the words ask for the command, or are bad at a place
abbrev pub Ask : List (List ℕ) → Result Command ℕ → Type 0
Ask ws (Ok (Replay project script schedule limit)) = IsReplay ws project.now script.now schedule.now limit
Ask ws (Ok (Path project step)) = IsPath ws project.now step
Ask ws (Ok (Big steps start)) = IsBig ws steps start
Ask ws (Ok (Check project script log)) = IsCheck ws project.now script.now log.now
Ask ws (Ok Help) = is_line ws help_line ≡ true
Ask ws (Ok Version) = is_line ws version_line ≡ true
Ask ws (Err place) = AreBadAt ws place
