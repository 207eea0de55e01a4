-- The log that a file holds.
use Rattle.std.specs.Prelude.{ℕ, ◌<◌, ◌≤◌, List, length, Option, IfSome}
use Rattle.run_log.specs.declared.entry.Entry.{Entry}
use Rattle.run_log.specs.declared.entry.Ending.{Ending}
use Rattle.log_read.specs.declared.limits.TheConstants.{MAX_LOG_BYTES}
use Rattle.log_read.specs.declared.error.LogErr.TheVariants as logs
use Rattle.log_read.specs.LogReads.{IsTextOf, IsRefused}
use Rattle.controller.specs.declared.status.LogReason.{LogReason}
use Rattle.controller.specs.declared.status.LogReason.TheVariants.{TooLong, BadLine, NoEnd}

-- the bytes are the text of this log and the ending that it names, and they are no more than a file may have
pub record IsLogText (bytes : List ℕ) (t : List Entry) (ending : Ending) : Type 0 where
  pub short : length bytes ≤ MAX_LOG_BYTES
  pub text : IsTextOf bytes t ending

-- the bytes are the text of none, for this reason
abbrev pub RefusesLog : List ℕ → LogReason → Type 0
RefusesLog bytes TooLong = MAX_LOG_BYTES < length bytes
RefusesLog bytes (BadLine l) = (length bytes ≤ MAX_LOG_BYTES) × IsRefused bytes (logs.BadLine l)
RefusesLog bytes NoEnd = (length bytes ≤ MAX_LOG_BYTES) × IsRefused bytes logs.NoEnd

-- a file holds this log with this ending, where it is told what it holds
abbrev pub HoldsLog : Option (List ℕ) → List Entry → Ending → Type 0
HoldsLog held t ending = IfSome held (λ bytes. IsLogText bytes t ending)

-- a file holds no log, for this reason
abbrev pub HoldsNoLog : Option (List ℕ) → LogReason → Type 0
HoldsNoLog held reason = IfSome held (λ bytes. RefusesLog bytes reason)
