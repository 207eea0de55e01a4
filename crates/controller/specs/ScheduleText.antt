-- The schedule that a word of a command names.
use Rattle.std.specs.Prelude.{◌≡◌, ℕ, ◌<◌, ◌≤◌, Bool, true, false, List, [], length, Option, Some, None, IfSome}
use Rattle.run_schedule.specs.declared.reading.TheConstants.{MAX_SCHEDULE_BYTES}
use Rattle.run_schedule.specs.Schedule.{channels_in, first_bad}
use Rattle.controller.specs.declared.status.ScriptReason.{ScriptReason}
use Rattle.controller.specs.declared.status.ScriptReason.TheVariants.{TooLong, Script, Schedule}
use Rattle.controller.specs.Words.{is_hyphen}

-- the bytes are a schedule that gives these channels a turn each, in this order
pub record IsSchedule (bytes channels : List ℕ) : Type 0 where
  pub short : length bytes ≤ MAX_SCHEDULE_BYTES
  pub allowed : first_bad bytes ≡ None
  pub channels_are : channels ≡ channels_in bytes

-- the bytes are none, for this reason
abbrev pub RefusesSchedule : List ℕ → ScriptReason → Type 0
RefusesSchedule bytes TooLong = MAX_SCHEDULE_BYTES < length bytes
RefusesSchedule bytes (Script fault) = ⊥
RefusesSchedule bytes (Schedule place) = (length bytes ≤ MAX_SCHEDULE_BYTES) × (first_bad bytes ≡ Some place)

-- the channels of a schedule's word: none for a hyphen, and else those of the file of that name, of which `held` is told
abbrev pub ScheduledBy : Bool → Option (List ℕ) → List ℕ → Type 0
ScheduledBy true held channels = channels ≡ []
ScheduledBy false held channels = IfSome held (λ bytes. IsSchedule bytes channels)

abbrev pub IsScheduled : (List ℕ → Option (List ℕ)) → List ℕ → List ℕ → Type 0
IsScheduled holds word channels = ScheduledBy (is_hyphen word) (holds word) channels

-- the word names a file whose bytes are no schedule, for this reason
pub record IsUnscheduled (holds : List ℕ → Option (List ℕ)) (word : List ℕ) (reason : ScriptReason) : Type 0 where
  pub named : is_hyphen word ≡ false
  pub refused : IfSome (holds word) (λ bytes. RefusesSchedule bytes reason)
