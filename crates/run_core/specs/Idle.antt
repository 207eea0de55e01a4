-- Channels that have nothing to do.
use Rattle.std.specs.Prelude.{◌≡◌, ℕ, Bool, true, List, None}
use Rattle.run_log.specs.declared.entry.Entry.{Entry}
use Rattle.run_law.specs.Rules.{Rules}
use Rattle.run_law.specs.Replay.{turn}
use Rattle.run_state.specs.State.{flag_at}

-- a turn of each channel that has its flag makes nothing
abbrev pub AreIdle : Rules → ℕ → List Entry → List Bool → Type 0
AreIdle r limit t flags = (c : ℕ) → flag_at flags c ≡ true → turn r limit t c ≡ None
