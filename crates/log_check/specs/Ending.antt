-- The ending of a log of a run, whatever the limit under which it was made.
use Rattle.std.specs.Prelude.{◌<◌, ◌&&◌, not, Bool, ℕ, List, length}
use Rattle.run_log.specs.declared.entry.Entry.{Entry}
use Rattle.run_log.specs.declared.entry.Ending.{Ending}
use Rattle.run_log.specs.declared.entry.Ending.TheVariants as endings
use Rattle.run_law.specs.Rules.{Rules}
use Rattle.run_law.specs.Endings.{IsDone, IsBlocked}

-- neither done nor blocked, and with an entry: some limit ended the run there
pub record IsCutOff (r : Rules) (t : List Entry) : Type 0 where
  pub not_done : IsDone r t → ⊥
  pub not_blocked : IsBlocked r t → ⊥
  pub some : 0 < length t

-- the ending is the log's own
abbrev pub EndsOwn : Rules → List Entry → Ending → Type 0
EndsOwn r t endings.Done = IsDone r t
EndsOwn r t endings.Blocked = IsBlocked r t
EndsOwn r t endings.Limit = IsCutOff r t

-- whether an ending is a log's own, by whether each edit is judged, the run can go on nowhere, it waits wherever it can, and there is an entry
abbrev pub is_own : Bool → Bool → Bool → Bool → Ending → Bool
is_own judged over waiting some endings.Done = judged && over
is_own judged over waiting some endings.Blocked = judged && (not over && waiting)
is_own judged over waiting some endings.Limit = not (judged && over) && (not (judged && (not over && waiting)) && some)
