-- What has to be told for words to have one answer, and what a replay has done where nothing failed.
use Rattle.std.specs.Prelude.{◌≡◌, ◌⊎◌, ℕ, List, Option, Some}
use Rattle.nc_outside.specs.Outside.{Rose}
use Rattle.project_read.specs.Holds.{Project}
use Rattle.project_law.specs.Run.{IsRun}
use Rattle.run_log.specs.declared.entry.Ending.{Ending}
use Rattle.run_log.specs.LogText.{text_of}
use Rattle.controller.specs.declared.status.Status.{Status}
use Rattle.controller.specs.declared.status.Status.TheVariants.{NoMemory}
use Rattle.controller.specs.Words.{Names, IsReplay}
use Rattle.controller.specs.Outside.{Outside, Writes}
use Rattle.controller.specs.Asked.{HoldsProject, replayed}
use Rattle.controller.specs.Answer.{ending_status}
use Rattle.entity_types.specs.declared.edit.Edit.{Edit}
use Rattle.controller.specs.ScriptText.{IsScripted}
use Rattle.controller.specs.ScheduleText.{IsScheduled}

-- it is told what each file holds that the words name to read; of words that name none this says nothing
abbrev pub IsTold : List (List ℕ) → (List ℕ → Option (List ℕ)) → Type 0
IsTold words holds = (name : List ℕ) → Names words name → (bytes : List ℕ) × (holds name ≡ Some bytes)

-- no count of faults rose
pub record NoneFailed {F : Type 0} (before after : Outside F) : Type 0 where
  pub reads : (name : List ℕ) → Rose (before.read_faults name) (after.read_faults name) → ⊥
  pub puts : Rose before.put_faults after.put_faults → ⊥

-- the log of the run of the project and a script of these edits under a schedule of these channels is written, it is a legal run of the two, and the
-- status says how it ends
pub record Completes {F : Type 0} (p : Project) (edits : List Edit) (channels : List ℕ) (limit : ℕ) (before after : Outside F) (status : Status) : Type 0 where
  pub ending : Ending
  pub says : status ≡ ending_status ending
  pub run : IsRun p.entities edits limit (replayed p edits channels limit) ending
  pub written : Writes before after (text_of (replayed p edits channels limit) ending)

-- Where the words ask for a replay, it is told that the files that they name hold a project, a script and a schedule, and nothing failed, the run is
-- written, or memory ran out.
abbrev pub IsComplete : {F : Type 0} → List (List ℕ) → Outside F → Outside F → Status → Type 0
IsComplete words before after status =
    (name script schedule channels : List ℕ) (limit : ℕ) (p : Project) (edits : List Edit) → IsTold words before.holds → IsReplay words name script schedule limit → HoldsProject before.holds name p
    → IsScripted before.holds script edits → IsScheduled before.holds schedule channels → NoneFailed before after → (status ≡ NoMemory) ⊎ Completes p edits channels limit before after status
