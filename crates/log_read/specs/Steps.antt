-- One line of a log that is being read.
use Rattle.std.specs.Prelude.{◌≡◌, ℕ, ◌<◌, true, List, [], ◌++◌, length, Result, Ok, Err}
use Rattle.run_log.specs.declared.entry.TheConstants.{MAX_ENTRIES}
use Rattle.run_log.specs.declared.entry.Entry.{Entry}
use Rattle.run_log.specs.LinesFrom.{lines_from}
use Rattle.run_log.specs.LogText.{first_line, entry_line, line_after, last_line}
use Rattle.log_read.specs.declared.error.LogErr.{LogErr}
use Rattle.log_read.specs.declared.reading.Step.{Step}
use Rattle.log_read.specs.declared.reading.Step.TheVariants.{Next, Closed}
use Rattle.log_read.specs.Format.{allows_all}
use Rattle.log_read.specs.Range.{is_in_range}
use Rattle.log_read.specs.LogReads.{log_format, IsRefused}

-- the bytes are the first line, the lines of these entries, each of which may stand in its place, and this rest
pub record IsReadTo (bytes : List ℕ) (t : List Entry) (rest : List ℕ) : Type 0 where
  pub text : bytes ≡ first_line ++ (lines_from line_after [] t ++ rest)
  pub good : allows_all log_format.allows [] t ≡ true

-- what the rest behind so many entries begins with: the line of an entry that may stand there, or a last line with nothing behind it, or a line
-- that isn't in its place
abbrev pub StepsTo : ℕ → List ℕ → Result Step LogErr → Type 0
StepsTo count rest (Ok (Next x behind)) = (count < MAX_ENTRIES) × (is_in_range x ≡ true) × (rest ≡ entry_line x ++ behind.now)
StepsTo count rest (Ok (Closed ending)) = rest ≡ last_line ending count
StepsTo count rest (Err e) = (bytes : List ℕ) (t : List Entry) → length t ≡ count → IsReadTo bytes t rest → IsRefused bytes e
