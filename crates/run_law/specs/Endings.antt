-- How a legal run ends.
use Rattle.std.specs.Prelude.{◌≡◌, ℕ, Bool, true, false, not, List, length, slice_get, None}
use Rattle.std.specs.List.{list_all}
use Rattle.exec_tree.specs.Exec.{has}
use Rattle.trace_law.specs.Whole.{Whole}
use Rattle.trace_law.specs.State.{marks}
use Rattle.run_log.specs.declared.entry.Entry.{Entry}
use Rattle.exec_tree.specs.declared.role.Role.{Role}
use Rattle.exec_tree.specs.declared.role.Role.TheVariants.{Cutting, Waiting, Free}
use Rattle.run_law.specs.Rules.{Rules}
use Rattle.run_law.specs.Fits.{plain, judged, next_of}
use Rattle.run_log.specs.declared.entry.Ending.{Ending}
use Rattle.run_log.specs.declared.entry.Ending.TheVariants as endings

-- every edit is judged
abbrev pub AllJudged : Rules → List Entry → Type 0
AllJudged r t = slice_get r.edits (judged t) ≡ None

-- the node waits for a mark that isn't set
abbrev pub waits_by : List Entry → Role → Bool
waits_by t Cutting = false
waits_by t (Waiting m) = not (has (marks t) m)
waits_by t Free = false

-- node n waits for a mark that is not set
abbrev pub waits : Rules → List Entry → ℕ → Bool
waits r t n = waits_by t (r.role t n)

-- the tree ran whole
pub record IsDone (r : Rules) (t : List Entry) : Type 0 where
  pub whole : Whole (r.tree t) (plain t)
  pub judged_all : AllJudged r t

-- it didn't, and every node where it could go on waits for a mark that isn't set
pub record IsBlocked (r : Rules) (t : List Entry) : Type 0 where
  pub not_whole : Whole (r.tree t) (plain t) → ⊥
  pub waiting : list_all (waits r t) (next_of r t) ≡ true
  pub judged_all : AllJudged r t

-- neither, and the run has as many entries as it may have
pub record IsAtLimit (r : Rules) (limit : ℕ) (t : List Entry) : Type 0 where
  pub not_done : IsDone r t → ⊥
  pub not_blocked : IsBlocked r t → ⊥
  pub full : length t ≡ limit

-- the ending is the run's own under this limit
abbrev pub EndsSo : Rules → ℕ → List Entry → Ending → Type 0
EndsSo r limit t endings.Done = IsDone r t
EndsSo r limit t endings.Blocked = IsBlocked r t
EndsSo r limit t endings.Limit = IsAtLimit r limit t
