-- The log that a text is of, or why it is of none.
use Rattle.std.specs.Prelude.{◌≡◌, ℕ, ◌≤◌, nat_lt, true, ◌&&◌, List, length, Result, Ok, Err}
use Rattle.std.specs.List.{list_all}
use Rattle.run_log.specs.declared.entry.TheConstants.{MAX_ENTRIES}
use Rattle.run_log.specs.declared.entry.Entry.{Entry}
use Rattle.run_log.specs.declared.entry.Ending.{Ending}
use Rattle.run_log.specs.LogText.{first_line, line_after, last_line, text_of}
use Rattle.log_read.specs.declared.error.LogErr.{LogErr}
use Rattle.log_read.specs.declared.error.LogErr.TheVariants.{BadLine, NoEnd, NoMemory}
use Rattle.log_read.specs.Format.{Format, HasNoEnd, IsBadLine}
use Rattle.log_read.specs.Range.{is_in_range}

-- the format of log texts: an entry may stand where there is room for one more and its numbers are in their ranges
abbrev pub log_format : Format Entry Ending
log_format = record {
  first = first_line;
  line = line_after;
  last = λ before ending. last_line ending (length before);
  allows = λ before x. nat_lt (length before) MAX_ENTRIES && is_in_range x;
}

-- the bytes are the text of this log with this ending: there are not too many entries, and each number is in its range
pub record IsTextOf (bytes : List ℕ) (t : List Entry) (ending : Ending) : Type 0 where
  pub text : bytes ≡ text_of t ending
  pub few : length t ≤ MAX_ENTRIES
  pub in_range : list_all is_in_range t ≡ true

-- why the bytes are the text of no log. Want of memory is no such reason.
abbrev pub IsRefused : List ℕ → LogErr → Type 0
IsRefused bytes (BadLine l) = IsBadLine log_format bytes l
IsRefused bytes NoEnd = HasNoEnd log_format bytes
IsRefused bytes NoMemory = ⊥

-- the log whose text the bytes are, or why there is none, unless memory ran out
abbrev pub Reads : List ℕ → Result (List Entry × Ending) LogErr → Type 0
Reads bytes (Ok read) = IsTextOf bytes read.0 read.1
Reads bytes (Err NoMemory) = Unit {0}
Reads bytes (Err fault) = IsRefused bytes fault

-- the answer is this one, unless memory ran out
abbrev pub Gives : Result (List Entry × Ending) LogErr → Result (List Entry × Ending) LogErr → Type 0
Gives (Err NoMemory) said = Unit {0}
Gives (Err fault) said = said ≡ Err fault
Gives (Ok read) said = said ≡ Ok read
