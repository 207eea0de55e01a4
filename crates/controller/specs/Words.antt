-- The words of a command, after this profile.
use Rattle.std.specs.Prelude.{◌≡◌, ◌⊎◌, ℕ, ◌+◌, ◌<◌, ◌≤◌, Bool, true, false, ◌&&◌, ◌==◌, nat_lt, List, [], ◌∷◌, length, take, codes}
use Rattle.std.specs.List.{list_any}
use Rattle.std.specs.Str.{bytes_eq}
use Rattle.nc_base.specs.declared.numbers.TheConstants.{MAX_NUMBER}
use Rattle.big_case.specs.declared.workplans.TheConstants.{MAX_STEPS}
use Rattle.controller.specs.declared.command.TheConstants.{LIMIT_DIGITS, NUMBER_DIGITS, CASE_DIGITS, MAX_START}
use Rattle.run_log.specs.declared.entry.TheConstants.{MAX_ENTRIES}
use Rattle.controller.specs.Numerals.{value_of, is_count, is_upto}

-- what a word of a command may be
abbrev pub Form : Type 0
Form = List ℕ → Bool

-- a limit of entries
abbrev pub is_limit : Form
is_limit w = is_count LIMIT_DIGITS MAX_ENTRIES w

-- the number of an instance
abbrev pub is_step : Form
is_step w = is_count NUMBER_DIGITS MAX_NUMBER w

-- how many workingsteps a large case has
abbrev pub is_steps : Form
is_steps w = is_count CASE_DIGITS MAX_STEPS w

-- the number from which on a large case is drawn
abbrev pub is_start : Form
is_start w = is_upto CASE_DIGITS MAX_START w

-- a file name: at least one byte
abbrev pub is_name : Form
is_name w = nat_lt 0 (length w)

-- the word that stands for no file
abbrev pub is_hyphen : Form
is_hyphen w = bytes_eq (codes "-") w

-- the lines of the table
abbrev pub replay_line : List Form
replay_line = bytes_eq (codes "replay") ∷ is_name ∷ is_name ∷ is_name ∷ is_limit ∷ []

abbrev pub path_line : List Form
path_line = bytes_eq (codes "path") ∷ is_name ∷ is_step ∷ []

abbrev pub big_line : List Form
big_line = bytes_eq (codes "big") ∷ is_steps ∷ is_start ∷ []

abbrev pub check_line : List Form
check_line = bytes_eq (codes "check") ∷ is_name ∷ is_name ∷ is_name ∷ []

abbrev pub help_line : List Form
help_line = bytes_eq (codes "--help") ∷ []

abbrev pub version_line : List Form
version_line = bytes_eq (codes "--version") ∷ []

abbrev pub table : List (List Form)
table = replay_line ∷ path_line ∷ big_line ∷ check_line ∷ help_line ∷ version_line ∷ []

-- the words begin the line
abbrev pub begins : List (List ℕ) → List Form → Bool
begins [] forms = true
begins (w ∷ ws) [] = false
begins (w ∷ ws) (form ∷ forms) = form w && begins ws forms

-- the words are the line
abbrev pub is_line : List (List ℕ) → List Form → Bool
is_line ws forms = begins ws forms && (length ws == length forms)

-- the words begin some line of the table, or are one
abbrev pub begins_some : List (List ℕ) → Bool
begins_some ws = list_any (begins ws) table

abbrev pub is_some_line : List (List ℕ) → Bool
is_some_line ws = list_any (is_line ws) table

-- The words aren't a line of the table, and i is the least place such that words 0 to i don't begin one; where the words end too early, i is
-- their number.
pub record AreBadAt (ws : List (List ℕ)) (i : ℕ) : Type 0 where
  pub no_line : is_some_line ws ≡ false
  pub within : i ≤ length ws
  pub begun : begins_some (take i ws) ≡ true
  pub ended : i < length ws → begins_some (take (i + 1) ws) ≡ false

-- the words are those of a replay of this project file with these words for its script and its schedule and with this limit
abbrev pub IsReplay : List (List ℕ) → List ℕ → List ℕ → List ℕ → ℕ → Type 0
IsReplay (w0 ∷ w1 ∷ w2 ∷ w3 ∷ w4 ∷ []) name script schedule limit =
    (is_line (w0 ∷ w1 ∷ w2 ∷ w3 ∷ w4 ∷ []) replay_line ≡ true) × (w1 ≡ name) × (w2 ≡ script) × (w3 ≡ schedule) × (value_of w4 ≡ limit)
IsReplay _ name script schedule limit = ⊥

-- the words are those of the path of this workingstep of this project file
abbrev pub IsPath : List (List ℕ) → List ℕ → ℕ → Type 0
IsPath (w0 ∷ project ∷ w2 ∷ []) name n = (is_line (w0 ∷ project ∷ w2 ∷ []) path_line ≡ true) × (project ≡ name) × (value_of w2 ≡ n)
IsPath _ name n = ⊥

-- the words are those of the large case of so many workingsteps, drawn from this start on
abbrev pub IsBig : List (List ℕ) → ℕ → ℕ → Type 0
IsBig (w0 ∷ w1 ∷ w2 ∷ []) steps start = (is_line (w0 ∷ w1 ∷ w2 ∷ []) big_line ≡ true) × (value_of w1 ≡ steps) × (value_of w2 ≡ start)
IsBig _ steps start = ⊥

-- the words are those of a check of the log in this file, by this project file and this word for its script
abbrev pub IsCheck : List (List ℕ) → List ℕ → List ℕ → List ℕ → Type 0
IsCheck (w0 ∷ w1 ∷ w2 ∷ w3 ∷ []) name script log = (is_line (w0 ∷ w1 ∷ w2 ∷ w3 ∷ []) check_line ≡ true) × (w1 ≡ name) × (w2 ≡ script) × (w3 ≡ log)
IsCheck _ name script log = ⊥

-- the words name this project file to read
abbrev pub NamesProject : List (List ℕ) → List ℕ → Type 0
NamesProject ws name =
    ((script schedule : List ℕ) × (limit : ℕ) × IsReplay ws name script schedule limit) ⊎ (((n : ℕ) × IsPath ws name n) ⊎ ((script log : List ℕ) × IsCheck ws name script log))

-- the words name this script file to read
abbrev pub NamesScript : List (List ℕ) → List ℕ → Type 0
NamesScript ws name =
    ((project schedule : List ℕ) × (limit : ℕ) × IsReplay ws project name schedule limit × (is_hyphen name ≡ false))
    ⊎ ((project log : List ℕ) × IsCheck ws project name log × (is_hyphen name ≡ false))

-- the words name this schedule file to read
abbrev pub NamesSchedule : List (List ℕ) → List ℕ → Type 0
NamesSchedule ws name = (project script : List ℕ) × (limit : ℕ) × IsReplay ws project script name limit × (is_hyphen name ≡ false)

-- the words name this file of a log to read
abbrev pub NamesLog : List (List ℕ) → List ℕ → Type 0
NamesLog ws name = (project script : List ℕ) × IsCheck ws project script name

-- the words name this file to read
abbrev pub Names : List (List ℕ) → List ℕ → Type 0
Names ws name = NamesProject ws name ⊎ (NamesScript ws name ⊎ (NamesSchedule ws name ⊎ NamesLog ws name))

-- the words name no file to read
abbrev pub NameNoFile : List (List ℕ) → Type 0
NameNoFile ws = (name : List ℕ) → Names ws name → ⊥
