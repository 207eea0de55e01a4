-- What comes of a project's file, of its script's and of its schedule's, read one after the other.
use Rattle.std.proofs.Common.{◌≡◌, ℕ, ◌≤◌, Bool, List, Option, Some, None, Result, Ok, Err, subst, arith, inl, inr}
use Rattle.std.specs.Prelude.{IfSome}
use Rattle.std.specs.Global.{Vec}
use Rattle.nc_outside.specs.Outside.{Rose}
use Rattle.entity_types.specs.declared.entity.Entity.{Entity}
use Rattle.entity_types.specs.declared.edit.Edit.{Edit}
use Rattle.project_read.specs.Holds.{Holds}
use Rattle.project_read.specs.Reads.{model_of}
use Rattle.project_law.specs.Run.{IsRun}
use Rattle.run_log.specs.declared.entry.Entry.{Entry}
use Rattle.run_log.specs.declared.entry.Ending.{Ending}
use Rattle.controller.specs.declared.answer.Answer.{Answer}
use Rattle.controller.specs.declared.answer.Answer.TheVariants as answers
use Rattle.controller.specs.declared.answer.Stop.{Stop}
use Rattle.controller.specs.declared.answer.Stop.TheVariants as stops
use Rattle.controller.specs.declared.unheld.Unheld.{Unheld}
use Rattle.controller.specs.declared.unheld.Unheld.TheVariants as unheld
use Rattle.controller.specs.Words.{is_hyphen}
use Rattle.controller.specs.ScriptText.{ScriptedBy, RefusesScript}
use Rattle.controller.specs.ScheduleText.{ScheduledBy, RefusesSchedule}
use Rattle.controller.specs.LogFile.{HoldsNoLog}
use Rattle.controller.specs.Asked.{replayed}
use Rattle.controller.specs.Case.{case_project, case_script}
use Rattle.controller.specs.Calls.{ReadsFile, ReadsProject, ReadsEdits, ReadsScript, ReadsSchedule, OrRunStops, Runs, OrReplayStops, Replays, CountsCase, OrNoMemory, OrStops, ReadsLog, Judges, OrCheckStops, Checks, answer_without}

-- a count that rose behind stretches in which it didn't fall rose over the whole
rose_later : (a b c : ℕ) → a ≤ b → Rose b c → Rose a c
rose_later a b c le rose = omega (arith, rose)

le_later : (a b c : ℕ) → a ≤ b → b ≤ c → a ≤ c
le_later a b c le more = omega arith

held_project : (held : Option (List ℕ)) (before now : ℕ) (p : List Entity) → ReadsFile held before now (Ok p) → IfSome held (λ bytes. Holds bytes (model_of p))
held_project None before now p is = tt
held_project (Some told) before now p is = subst (λ (bytes : List ℕ). Holds bytes (model_of p)) is.1 is.2

-- a run of the project and the edits under the schedule
pub ran_so : (holds : List ℕ → Option (List ℕ)) (before now : ℕ) (schedule : List ℕ) (limit : ℕ) (p : List Entity) (edits : List Edit) (channels : Vec ℕ) (t : List Entry) (ending : Ending)
    → ReadsSchedule holds schedule before now (Ok channels) → t ≡ replayed (model_of p) edits channels.items limit → IsRun p edits limit t ending → Runs holds (model_of p) edits schedule limit (answers.Ran t ending)
ran_so holds before now schedule limit p edits channels t ending scheduled log run = (channels.items, scheduled, run, log)

-- no run, for want of a schedule
pub unscheduled : (holds : List ℕ → Option (List ℕ)) (before now : ℕ) (schedule : List ℕ) (limit : ℕ) (p : List Entity) (edits : List Edit) (why : Unheld) → ReadsSchedule holds schedule before now (Err why)
    → OrRunStops schedule before now (Runs holds (model_of p) edits schedule limit) (answer_without why)
unscheduled holds before now schedule limit p edits (unheld.Refused reason) is = absurd is
unscheduled holds before now schedule limit p edits (unheld.ScriptRefused reason) is = is
unscheduled holds before now schedule limit p edits (unheld.LogRefused reason) is = absurd is
unscheduled holds before now schedule limit p edits (unheld.Stopped stop) is = is

-- the names hold behind the reads what they held before them
scheduled_before : (held holds : Option (List ℕ)) (hyphen : Bool) (channels : List ℕ) → held ≡ holds → ScheduledBy hyphen held channels → ScheduledBy hyphen holds channels
scheduled_before held holds hyphen channels kept is = subst (λ (o : Option (List ℕ)). ScheduledBy hyphen o channels) kept is

scripted_before : (held holds : Option (List ℕ)) (hyphen : Bool) (edits : List Edit) → held ≡ holds → ScriptedBy hyphen held edits → ScriptedBy hyphen holds edits
scripted_before held holds hyphen edits kept is = subst (λ (o : Option (List ℕ)). ScriptedBy hyphen o edits) kept is

-- what came of the run came of the replay, where the project and the script were read before it
pub run_of_files : (holds read held : List ℕ → Option (List ℕ)) (before mid late now : List ℕ → ℕ) (name script schedule : List ℕ) (limit : ℕ) (p : List Entity) (edits : List Edit) (r : Result Answer Stop)
    → ReadsFile (holds name) (before name) (mid name) (Ok p) → read script ≡ holds script → ReadsScript read script (mid script) (late script) (Ok edits)
    → held schedule ≡ holds schedule → before schedule ≤ mid schedule → mid schedule ≤ late schedule → OrRunStops schedule (late schedule) (now schedule) (Runs held (model_of p) edits schedule limit) r
    → OrReplayStops name script schedule before now (Replays holds name script schedule limit) r
run_of_files holds read held before mid late now name script schedule limit p edits (Ok (answers.Ran t ending)) file kept scripted same first second is = (
  model_of p,
  held_project (holds name) (before name) (mid name) p file,
  edits,
  scripted_before (read script) (holds script) (is_hyphen script) edits kept scripted,
  (is.0, scheduled_before (held schedule) (holds schedule) (is_hyphen schedule) is.0 same is.1, is.2, is.3),
)
run_of_files holds read held before mid late now name script schedule limit p edits (Ok (answers.ScriptRefused reason)) file kept scripted same first second is = (
  model_of p,
  held_project (holds name) (before name) (mid name) p file,
  inr (
    edits,
    scripted_before (read script) (holds script) (is_hyphen script) edits kept scripted,
    record { named = is.named; refused = subst (λ (o : Option (List ℕ)). IfSome o (λ bytes. RefusesSchedule bytes reason)) same is.refused },
  ),
)
run_of_files holds read held before mid late now name script schedule limit p edits (Ok (answers.BadWords place)) file kept scripted same first second is = absurd is
run_of_files holds read held before mid late now name script schedule limit p edits (Ok answers.Help) file kept scripted same first second is = absurd is
run_of_files holds read held before mid late now name script schedule limit p edits (Ok answers.Version) file kept scripted same first second is = absurd is
run_of_files holds read held before mid late now name script schedule limit p edits (Ok (answers.Refused reason)) file kept scripted same first second is = absurd is
run_of_files holds read held before mid late now name script schedule limit p edits (Ok (answers.Shown d)) file kept scripted same first second is = absurd is
run_of_files holds read held before mid late now name script schedule limit p edits (Ok (answers.Counted n from ending counts)) file kept scripted same first second is = absurd is
run_of_files holds read held before mid late now name script schedule limit p edits (Ok (answers.Legal ending)) file kept scripted same first second is = absurd is
run_of_files holds read held before mid late now name script schedule limit p edits (Ok (answers.Illegal place)) file kept scripted same first second is = absurd is
run_of_files holds read held before mid late now name script schedule limit p edits (Ok (answers.LogRefused reason)) file kept scripted same first second is = absurd is
run_of_files holds read held before mid late now name script schedule limit p edits (Err stops.ReadFault) file kept scripted same first second is =
    inr (inr (is.0, rose_later (before schedule) (late schedule) (now schedule) (le_later (before schedule) (mid schedule) (late schedule) first second) is.1))
run_of_files holds read held before mid late now name script schedule limit p edits (Err stops.NoMemory) file kept scripted same first second is = tt

-- no replay, for want of a script
pub unscripted : (holds read : List ℕ → Option (List ℕ)) (before mid now : List ℕ → ℕ) (name script schedule : List ℕ) (limit : ℕ) (p : List Entity) (why : Unheld)
    → ReadsFile (holds name) (before name) (mid name) (Ok p) → read script ≡ holds script → before script ≤ mid script → ReadsScript read script (mid script) (now script) (Err why)
    → OrReplayStops name script schedule before now (Replays holds name script schedule limit) (answer_without why)
unscripted holds read before mid now name script schedule limit p (unheld.Refused reason) file kept counted is = absurd is
unscripted holds read before mid now name script schedule limit p (unheld.ScriptRefused reason) file kept counted is = (
  model_of p,
  held_project (holds name) (before name) (mid name) p file,
  inl (record { named = is.named; refused = subst (λ (o : Option (List ℕ)). IfSome o (λ bytes. RefusesScript bytes reason)) kept is.refused }),
)
unscripted holds read before mid now name script schedule limit p (unheld.LogRefused reason) file kept counted is = absurd is
unscripted holds read before mid now name script schedule limit p (unheld.Stopped stops.ReadFault) file kept counted is =
    inr (inl (is.0, rose_later (before script) (mid script) (now script) counted is.1))
unscripted holds read before mid now name script schedule limit p (unheld.Stopped stops.NoMemory) file kept counted is = tt

-- no large case, for want of a script
pub case_unscripted : (steps start : ℕ) (text script : List ℕ) (p : List Entity) (why : Unheld) → text ≡ case_project steps start → ReadsProject text (Ok p) → script ≡ case_script steps start → ReadsEdits script (Err why)
    → OrNoMemory (CountsCase steps start) (answer_without why)
case_unscripted steps start text script p (unheld.Refused reason) made is written refused = absurd refused
case_unscripted steps start text script p (unheld.ScriptRefused reason) made is written refused = (
  model_of p,
  subst (λ (bytes : List ℕ). Holds bytes (model_of p)) made is,
  subst (λ (bytes : List ℕ). RefusesScript bytes reason) written refused,
)
case_unscripted steps start text script p (unheld.LogRefused reason) made is written refused = absurd refused
case_unscripted steps start text script p (unheld.Stopped stops.ReadFault) made is written refused = absurd refused
case_unscripted steps start text script p (unheld.Stopped stops.NoMemory) made is written refused = tt

-- no judgement, for want of a log
pub unlogged : (held : Option (List ℕ)) (before now : ℕ) (p : List Entity) (edits : List Edit) (why : Unheld) → ReadsLog held before now (Err why) → OrStops before now (Judges held (model_of p) edits) (answer_without why)
unlogged held before now p edits (unheld.Refused reason) is = absurd is
unlogged held before now p edits (unheld.ScriptRefused reason) is = absurd is
unlogged held before now p edits (unheld.LogRefused reason) is = is
unlogged held before now p edits (unheld.Stopped stop) is = is

-- what came of the log came of the check, where the project and the script were read before it
pub check_of_files : (holds read held : List ℕ → Option (List ℕ)) (before mid late now : List ℕ → ℕ) (name script log : List ℕ) (p : List Entity) (edits : List Edit) (r : Result Answer Stop)
    → ReadsFile (holds name) (before name) (mid name) (Ok p) → read script ≡ holds script → ReadsScript read script (mid script) (late script) (Ok edits)
    → held log ≡ holds log → before log ≤ mid log → mid log ≤ late log → OrStops (late log) (now log) (Judges (held log) (model_of p) edits) r
    → OrCheckStops name script log before now (Checks holds name script log) r
check_of_files holds read held before mid late now name script log p edits (Ok (answers.Legal ending)) file kept scripted same first second is = (
  model_of p,
  held_project (holds name) (before name) (mid name) p file,
  edits,
  scripted_before (read script) (holds script) (is_hyphen script) edits kept scripted,
  subst (λ (o : Option (List ℕ)). Judges o (model_of p) edits (answers.Legal ending)) same is,
)
check_of_files holds read held before mid late now name script log p edits (Ok (answers.Illegal place)) file kept scripted same first second is = (
  model_of p,
  held_project (holds name) (before name) (mid name) p file,
  edits,
  scripted_before (read script) (holds script) (is_hyphen script) edits kept scripted,
  subst (λ (o : Option (List ℕ)). Judges o (model_of p) edits (answers.Illegal place)) same is,
)
check_of_files holds read held before mid late now name script log p edits (Ok (answers.LogRefused reason)) file kept scripted same first second is = (
  model_of p,
  held_project (holds name) (before name) (mid name) p file,
  edits,
  scripted_before (read script) (holds script) (is_hyphen script) edits kept scripted,
  subst (λ (o : Option (List ℕ)). HoldsNoLog o reason) same is,
)
check_of_files holds read held before mid late now name script log p edits (Ok (answers.BadWords place)) file kept scripted same first second is = absurd is
check_of_files holds read held before mid late now name script log p edits (Ok answers.Help) file kept scripted same first second is = absurd is
check_of_files holds read held before mid late now name script log p edits (Ok answers.Version) file kept scripted same first second is = absurd is
check_of_files holds read held before mid late now name script log p edits (Ok (answers.Refused reason)) file kept scripted same first second is = absurd is
check_of_files holds read held before mid late now name script log p edits (Ok (answers.ScriptRefused reason)) file kept scripted same first second is = absurd is
check_of_files holds read held before mid late now name script log p edits (Ok (answers.Ran t ending)) file kept scripted same first second is = absurd is
check_of_files holds read held before mid late now name script log p edits (Ok (answers.Shown d)) file kept scripted same first second is = absurd is
check_of_files holds read held before mid late now name script log p edits (Ok (answers.Counted n from ending counts)) file kept scripted same first second is = absurd is
check_of_files holds read held before mid late now name script log p edits (Err stops.ReadFault) file kept scripted same first second is =
    inr (inr (rose_later (before log) (late log) (now log) (le_later (before log) (mid log) (late log) first second) is))
check_of_files holds read held before mid late now name script log p edits (Err stops.NoMemory) file kept scripted same first second is = tt

-- no check, for want of a script
pub check_unscripted : (holds read : List ℕ → Option (List ℕ)) (before mid now : List ℕ → ℕ) (name script log : List ℕ) (p : List Entity) (why : Unheld)
    → ReadsFile (holds name) (before name) (mid name) (Ok p) → read script ≡ holds script → before script ≤ mid script → ReadsScript read script (mid script) (now script) (Err why)
    → OrCheckStops name script log before now (Checks holds name script log) (answer_without why)
check_unscripted holds read before mid now name script log p (unheld.Refused reason) file kept counted is = absurd is
check_unscripted holds read before mid now name script log p (unheld.ScriptRefused reason) file kept counted is = (
  model_of p,
  held_project (holds name) (before name) (mid name) p file,
  record { named = is.named; refused = subst (λ (o : Option (List ℕ)). IfSome o (λ bytes. RefusesScript bytes reason)) kept is.refused },
)
check_unscripted holds read before mid now name script log p (unheld.LogRefused reason) file kept counted is = absurd is
check_unscripted holds read before mid now name script log p (unheld.Stopped stops.ReadFault) file kept counted is =
    inr (inl (is.0, rose_later (before script) (mid script) (now script) counted is.1))
check_unscripted holds read before mid now name script log p (unheld.Stopped stops.NoMemory) file kept counted is = tt
