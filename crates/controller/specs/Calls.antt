-- What the calls beneath the top calls answer.
use Rattle.std.specs.Prelude.{◌≡◌, ◌⊎◌, ℕ, false, List, [], Option, Result, Ok, Err, IfSome}
use Rattle.std.specs.Global.{Vec}
use Rattle.nc_outside.specs.Outside.{Rose, Appends, AppendsFront}
use Rattle.entity_types.specs.declared.entity.Entity.{Entity}
use Rattle.project_read.specs.declared.reason.ProjectReason.{ProjectReason}
use Rattle.project_read.specs.declared.reason.ProjectReason.TheVariants.{NoStep}
use Rattle.edit_rules.specs.Faults.{is_among}
use Rattle.project_read.specs.Holds.{Project, Holds}
use Rattle.project_read.specs.Refuses.{Refuses}
use Rattle.project_read.specs.Reads.{Reads}
use Rattle.project_law.specs.Run.{IsRun}
use Rattle.controller.specs.declared.answer.Answer.{Answer}
use Rattle.controller.specs.declared.answer.Answer.TheVariants.{Refused, ScriptRefused, Ran, Shown, Counted, Legal, Illegal, LogRefused}
use Rattle.controller.specs.declared.answer.Stop.{Stop}
use Rattle.controller.specs.declared.answer.Stop.TheVariants as stops
use Rattle.controller.specs.declared.unheld.Unheld.{Unheld}
use Rattle.controller.specs.declared.unheld.Unheld.TheVariants as unheld
use Rattle.controller.specs.declared.status.Status.{Status}
use Rattle.controller.specs.declared.status.Status.TheVariants.{WriteFault}
use Rattle.controller.specs.Words.{Names, is_hyphen}
use Rattle.entity_types.specs.declared.edit.Edit.{Edit}
use Rattle.controller.specs.ScriptText.{IsScript, RefusesScript, IsScripted, IsUnscripted}
use Rattle.controller.specs.ScheduleText.{IsScheduled, IsUnscheduled}
use Rattle.run_log.specs.declared.entry.Entry.{Entry}
use Rattle.run_log.specs.declared.entry.Ending.{Ending}
use Rattle.project_law.specs.ProjectRules.{rules_of}
use Rattle.log_check.specs.Checked.{IsFirstMisfit, IsEndedWrong, IsLegalSo}
use Rattle.controller.specs.LogFile.{IsLogText, RefusesLog, HoldsLog, HoldsNoLog}
use Rattle.controller.specs.Counts.{counts_of}
use Rattle.controller.specs.Case.{case_project, case_script, case_limit}
use Rattle.controller.specs.Asked.{HoldsProject, IsStep, IsRight, replayed}
use Rattle.controller.specs.Answer.{answer_status, answer_text}

-- these are the file's bytes, where they are told
abbrev pub AreBytesOf : Option (List ℕ) → List ℕ → Type 0
AreBytesOf held bytes = IfSome held (λ told. bytes ≡ told)

-- a reason that lies in the file alone
abbrev pub IsOfFile : ProjectReason → Type 0
IsOfFile (NoStep n) = ⊥
IsOfFile reason = Unit {0}

-- the file's bytes hold no project, for this reason
abbrev pub IsRefusedFile : Option (List ℕ) → ProjectReason → Type 0
IsRefusedFile held reason = IfSome held (λ bytes. Refuses bytes reason) × IsOfFile reason

-- why a file gave nothing: the count of its faults rose, or memory ran out
abbrev pub IsStopOf : ℕ → ℕ → Stop → Type 0
IsStopOf before now stops.ReadFault = Rose before now
IsStopOf before now stops.NoMemory = Unit {0}

-- the project that bytes hold, or why they hold none, unless memory ran out
abbrev pub ReadsProject : List ℕ → Result (List Entity) Unheld → Type 0
ReadsProject bytes (Ok p) = Reads bytes (Ok p)
ReadsProject bytes (Err (unheld.Refused reason)) = Refuses bytes reason
ReadsProject bytes (Err (unheld.ScriptRefused reason)) = ⊥
ReadsProject bytes (Err (unheld.LogRefused reason)) = ⊥
ReadsProject bytes (Err (unheld.Stopped stops.ReadFault)) = ⊥
ReadsProject bytes (Err (unheld.Stopped stops.NoMemory)) = Unit {0}

-- the edits of the script that bytes are, or why they are none, unless memory ran out
abbrev pub ReadsEdits : List ℕ → Result (List Edit) Unheld → Type 0
ReadsEdits bytes (Ok edits) = IsScript bytes edits
ReadsEdits bytes (Err (unheld.Refused reason)) = ⊥
ReadsEdits bytes (Err (unheld.ScriptRefused reason)) = RefusesScript bytes reason
ReadsEdits bytes (Err (unheld.LogRefused reason)) = ⊥
ReadsEdits bytes (Err (unheld.Stopped stops.ReadFault)) = ⊥
ReadsEdits bytes (Err (unheld.Stopped stops.NoMemory)) = Unit {0}

-- the project that a file holds, or why it gave none
abbrev pub ReadsFile : Option (List ℕ) → ℕ → ℕ → Result (List Entity) Unheld → Type 0
ReadsFile held before now (Ok p) = (bytes : List ℕ) × AreBytesOf held bytes × Reads bytes (Ok p)
ReadsFile held before now (Err (unheld.Refused reason)) = IsRefusedFile held reason
ReadsFile held before now (Err (unheld.ScriptRefused reason)) = ⊥
ReadsFile held before now (Err (unheld.LogRefused reason)) = ⊥
ReadsFile held before now (Err (unheld.Stopped stop)) = IsStopOf before now stop

-- why the script or the schedule of this word gave nothing: it names a file, and the count of its faults rose, or memory ran out
abbrev pub IsWordStop : List ℕ → ℕ → ℕ → Stop → Type 0
IsWordStop word before now stops.ReadFault = (is_hyphen word ≡ false) × Rose before now
IsWordStop word before now stops.NoMemory = Unit {0}

-- the edits of the script that a word names, or why it gave none
abbrev pub ReadsScript : (List ℕ → Option (List ℕ)) → List ℕ → ℕ → ℕ → Result (List Edit) Unheld → Type 0
ReadsScript holds word before now (Ok edits) = IsScripted holds word edits
ReadsScript holds word before now (Err (unheld.Refused reason)) = ⊥
ReadsScript holds word before now (Err (unheld.ScriptRefused reason)) = IsUnscripted holds word reason
ReadsScript holds word before now (Err (unheld.LogRefused reason)) = ⊥
ReadsScript holds word before now (Err (unheld.Stopped stop)) = IsWordStop word before now stop

-- the channels of the schedule that a word names, or why it gave none
abbrev pub ReadsSchedule : (List ℕ → Option (List ℕ)) → List ℕ → ℕ → ℕ → Result (Vec ℕ) Unheld → Type 0
ReadsSchedule holds word before now (Ok channels) = IsScheduled holds word channels.items
ReadsSchedule holds word before now (Err (unheld.Refused reason)) = ⊥
ReadsSchedule holds word before now (Err (unheld.ScriptRefused reason)) = IsUnscheduled holds word reason
ReadsSchedule holds word before now (Err (unheld.LogRefused reason)) = ⊥
ReadsSchedule holds word before now (Err (unheld.Stopped stop)) = IsWordStop word before now stop

-- the log that bytes are the text of, or why they are that of none, unless memory ran out
abbrev pub ReadsLines : List ℕ → Result (List Entry × Ending) Unheld → Type 0
ReadsLines bytes (Ok read) = IsLogText bytes read.0 read.1
ReadsLines bytes (Err (unheld.Refused reason)) = ⊥
ReadsLines bytes (Err (unheld.ScriptRefused reason)) = ⊥
ReadsLines bytes (Err (unheld.LogRefused reason)) = RefusesLog bytes reason
ReadsLines bytes (Err (unheld.Stopped stops.ReadFault)) = ⊥
ReadsLines bytes (Err (unheld.Stopped stops.NoMemory)) = Unit {0}

-- the log that a file holds, or why it gave none
abbrev pub ReadsLog : Option (List ℕ) → ℕ → ℕ → Result (List Entry × Ending) Unheld → Type 0
ReadsLog held before now (Ok read) = HoldsLog held read.0 read.1
ReadsLog held before now (Err (unheld.Refused reason)) = ⊥
ReadsLog held before now (Err (unheld.ScriptRefused reason)) = ⊥
ReadsLog held before now (Err (unheld.LogRefused reason)) = HoldsNoLog held reason
ReadsLog held before now (Err (unheld.Stopped stop)) = IsStopOf before now stop

-- the answer where a file gave nothing
abbrev pub answer_without : Unheld → Result Answer Stop
answer_without (unheld.Refused reason) = Ok (Refused reason)
answer_without (unheld.ScriptRefused reason) = Ok (ScriptRefused reason)
answer_without (unheld.LogRefused reason) = Ok (LogRefused reason)
answer_without (unheld.Stopped stop) = Err stop

-- the definition of workingstep n of the project, or that it has none such
abbrev pub ShowsStep : Project → ℕ → Answer → Type 0
ShowsStep p n (Refused (NoStep m)) = (m ≡ n) × (is_among p.steps n ≡ false)
ShowsStep p n (Shown d) = IsStep p n d
ShowsStep p n _ = ⊥

-- what comes of a run of the project and these edits under the schedule that a word names
abbrev pub Runs : (List ℕ → Option (List ℕ)) → Project → List Edit → List ℕ → ℕ → Answer → Type 0
Runs holds p edits schedule limit (ScriptRefused reason) = IsUnscheduled holds schedule reason
Runs holds p edits schedule limit (Ran t ending) = (channels : List ℕ) × IsScheduled holds schedule channels × IsRun p.entities edits limit t ending × (t ≡ replayed p edits channels limit)
Runs holds p edits schedule limit _ = ⊥

-- or why nothing does: the schedule's file failed, or memory ran out
abbrev pub OrRunStops : List ℕ → ℕ → ℕ → (Answer → Type 0) → Result Answer Stop → Type 0
OrRunStops schedule before now Is (Ok a) = Is a
OrRunStops schedule before now Is (Err stop) = IsWordStop schedule before now stop

-- what comes of a replay of the project in the file of this name and of the script that a word names, under the schedule that a word names
abbrev pub Replays : (List ℕ → Option (List ℕ)) → List ℕ → List ℕ → List ℕ → ℕ → Answer → Type 0
Replays holds name script schedule limit (Refused reason) = IsRefusedFile (holds name) reason
Replays holds name script schedule limit (ScriptRefused reason) =
    (p : Project) × HoldsProject holds name p × (IsUnscripted holds script reason ⊎ ((edits : List Edit) × IsScripted holds script edits × IsUnscheduled holds schedule reason))
Replays holds name script schedule limit (Ran t ending) =
    (p : Project) × HoldsProject holds name p × (edits : List Edit) × IsScripted holds script edits × Runs holds p edits schedule limit (Ran t ending)
Replays holds name script schedule limit _ = ⊥

-- or why nothing does: one of the three files failed, or memory ran out
abbrev pub OrReplayStops : List ℕ → List ℕ → List ℕ → (List ℕ → ℕ) → (List ℕ → ℕ) → (Answer → Type 0) → Result Answer Stop → Type 0
OrReplayStops name script schedule before now Is (Ok a) = Is a
OrReplayStops name script schedule before now Is (Err stops.ReadFault) =
    Rose (before name) (now name) ⊎ (((is_hyphen script ≡ false) × Rose (before script) (now script)) ⊎ ((is_hyphen schedule ≡ false) × Rose (before schedule) (now schedule)))
OrReplayStops name script schedule before now Is (Err stops.NoMemory) = Unit {0}

-- what is found of the log in a file, by the project and these edits
abbrev pub Judges : Option (List ℕ) → Project → List Edit → Answer → Type 0
Judges held p edits (LogRefused reason) = HoldsNoLog held reason
Judges held p edits (Legal ending) = (t : List Entry) × HoldsLog held t ending × IsLegalSo (rules_of p.entities edits) t ending
Judges held p edits (Illegal place) =
    (t : List Entry) × (ending : Ending) × HoldsLog held t ending × (IsFirstMisfit (rules_of p.entities edits) t place ⊎ IsEndedWrong (rules_of p.entities edits) t ending place)
Judges held p edits _ = ⊥

-- what comes of a check by the project in the file of this name and the script that a word names, of the log in the file of another name
abbrev pub Checks : (List ℕ → Option (List ℕ)) → List ℕ → List ℕ → List ℕ → Answer → Type 0
Checks holds name script log (Refused reason) = IsRefusedFile (holds name) reason
Checks holds name script log (ScriptRefused reason) = (p : Project) × HoldsProject holds name p × IsUnscripted holds script reason
Checks holds name script log (LogRefused reason) = (p : Project) × HoldsProject holds name p × (edits : List Edit) × IsScripted holds script edits × Judges (holds log) p edits (LogRefused reason)
Checks holds name script log (Legal ending) = (p : Project) × HoldsProject holds name p × (edits : List Edit) × IsScripted holds script edits × Judges (holds log) p edits (Legal ending)
Checks holds name script log (Illegal place) = (p : Project) × HoldsProject holds name p × (edits : List Edit) × IsScripted holds script edits × Judges (holds log) p edits (Illegal place)
Checks holds name script log _ = ⊥

-- or why nothing does: one of the three files failed, or memory ran out
abbrev pub OrCheckStops : List ℕ → List ℕ → List ℕ → (List ℕ → ℕ) → (List ℕ → ℕ) → (Answer → Type 0) → Result Answer Stop → Type 0
OrCheckStops name script log before now Is (Ok a) = Is a
OrCheckStops name script log before now Is (Err stops.ReadFault) =
    Rose (before name) (now name) ⊎ (((is_hyphen script ≡ false) × Rose (before script) (now script)) ⊎ Rose (before log) (now log))
OrCheckStops name script log before now Is (Err stops.NoMemory) = Unit {0}

-- what comes of the path of workingstep n in a file
abbrev pub Shows : Option (List ℕ) → ℕ → Answer → Type 0
Shows held n (Refused (NoStep m)) = (m ≡ n) × IfSome held (λ bytes. (p : Project) × Holds bytes p × (is_among p.steps n ≡ false))
Shows held n (Refused reason) = IsRefusedFile held reason
Shows held n (Shown d) = (p : Project) × IfSome held (λ bytes. Holds bytes p) × IsStep p n d
Shows held n _ = ⊥

-- what comes of a file, or why nothing does
abbrev pub OrStops : ℕ → ℕ → (Answer → Type 0) → Result Answer Stop → Type 0
OrStops before now Is (Ok a) = Is a
OrStops before now Is (Err stop) = IsStopOf before now stop

-- what comes of the run of the project and these edits of a large case of these two numbers, under the empty schedule
abbrev pub CountsRun : Project → List Edit → ℕ → ℕ → Answer → Type 0
CountsRun p edits steps start (Counted n from ending counts) =
    (n ≡ steps) × (from ≡ start) × IsRun p.entities edits case_limit (replayed p edits [] case_limit) ending × (counts ≡ counts_of (replayed p edits [] case_limit))
CountsRun p edits steps start _ = ⊥

-- what comes of the large case of these two numbers
abbrev pub CountsCase : ℕ → ℕ → Answer → Type 0
CountsCase steps start (Refused reason) = Refuses (case_project steps start) reason
CountsCase steps start (ScriptRefused reason) = (p : Project) × Holds (case_project steps start) p × RefusesScript (case_script steps start) reason
CountsCase steps start (Counted n from ending counts) =
    (p : Project) × Holds (case_project steps start) p × (edits : List Edit) × IsScript (case_script steps start) edits × CountsRun p edits steps start (Counted n from ending counts)
CountsCase steps start _ = ⊥

-- or nothing does, since memory ran out
abbrev pub OrNoMemory : (Answer → Type 0) → Result Answer Stop → Type 0
OrNoMemory Is (Ok a) = Is a
OrNoMemory Is (Err stops.ReadFault) = ⊥
OrNoMemory Is (Err stops.NoMemory) = Unit {0}

-- the answer is right for the words
abbrev pub IsAnswer : List (List ℕ) → (List ℕ → Option (List ℕ)) → Answer → Type 0
IsAnswer ws holds a = IsRight ws holds (answer_status a) (answer_text a)

-- why there is no answer to the words: a file failed that they name to read, or memory ran out
abbrev pub IsStop : List (List ℕ) → (List ℕ → ℕ) → (List ℕ → ℕ) → Stop → Type 0
IsStop ws before now stops.ReadFault = (name : List ℕ) × Names ws name × Rose (before name) (now name)
IsStop ws before now stops.NoMemory = Unit {0}

-- the answer to the words, or why there is none
abbrev pub AnswersOrStops : List (List ℕ) → (List ℕ → Option (List ℕ)) → (List ℕ → ℕ) → (List ℕ → ℕ) → Result Answer Stop → Type 0
AnswersOrStops ws holds before now (Ok a) = IsAnswer ws holds a
AnswersOrStops ws holds before now (Err stop) = IsStop ws before now stop

-- What a sink has become: the answer's text is put, or a front of it where the sink failed.
abbrev pub IsPut : Option (List ℕ) → Option (List ℕ) → ℕ → ℕ → Answer → Status → Type 0
IsPut old new before now a WriteFault = Rose before now × AppendsFront old new (answer_text a)
IsPut old new before now a status = (answer_status a ≡ status) × Appends old new (answer_text a)
