-- Where a run stands.
use Rattle.std.specs.Prelude.{ℕ, Bool, true, false, ◌&&◌, is_none, nat_le, List, length, slice_get}
use Rattle.std.specs.List.{list_all}
use Rattle.run_log.specs.declared.entry.Entry.{Entry}
use Rattle.run_law.specs.Rules.{Rules}
use Rattle.run_law.specs.Fits.{judged, next_of, is_due}
use Rattle.run_law.specs.Endings.{waits}
use Rattle.run_frames.specs.Ready.{is_empty}
use Rattle.run_core.specs.declared.standings.Standing.{Standing}
use Rattle.run_core.specs.declared.standings.Standing.TheVariants.{Done, Blocked, Limit, EditDue, Ready}

-- the first that applies: every edit is judged and no node can go on; every edit is judged and each node that can go on waits for an
-- unset mark; all entries are there; the next edit is due
abbrev pub standing_by : Bool → Bool → Bool → Bool → Standing
standing_by true waiting full due = Done
standing_by false true full due = Blocked
standing_by false false true due = Limit
standing_by false false false true = EditDue
standing_by false false false false = Ready

abbrev pub standing_of : Rules → ℕ → List Entry → Standing
standing_of r limit t =
    standing_by (is_none (slice_get r.edits (judged t)) && is_empty (next_of r t)) (is_none (slice_get r.edits (judged t)) && list_all (waits r t) (next_of r t))
    (nat_le limit (length t)) (is_due r t)

-- the run has ended
abbrev pub is_over : Standing → Bool
is_over Done = true
is_over Blocked = true
is_over Limit = true
is_over EditDue = false
is_over Ready = false
