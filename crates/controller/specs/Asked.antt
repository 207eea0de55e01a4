-- What the words ask for, and the status and the text that are right for it.
use Rattle.std.specs.Prelude.{◌≡◌, ◌⊎◌, ℕ, true, false, List, [], Option, Ok, IfSome}
use Rattle.path_blocks.specs.declared.def.Def.{Def}
use Rattle.path_blocks.specs.Path.{path_of}
use Rattle.project_store.specs.Entities.{entity_at}
use Rattle.step_def.specs.DefOf.{def_of}
use Rattle.project_read.specs.declared.reason.ProjectReason.{ProjectReason}
use Rattle.project_read.specs.declared.reason.ProjectReason.TheVariants.{NoStep}
use Rattle.edit_rules.specs.Faults.{is_among}
use Rattle.project_read.specs.Holds.{Project, Holds}
use Rattle.project_read.specs.Refuses.{Refuses}
use Rattle.run_law.specs.Replay.{replay}
use Rattle.project_law.specs.ProjectRules.{rules_of, channel_numbers}
use Rattle.project_law.specs.Run.{IsRun}
use Rattle.run_log.specs.declared.entry.Entry.{Entry}
use Rattle.run_log.specs.declared.entry.Ending.{Ending}
use Rattle.run_log.specs.declared.entry.Ending.TheVariants as endings
use Rattle.run_log.specs.LogText.{text_of}
use Rattle.run_log.specs.BlocksText.{blocks_text}
use Rattle.controller.specs.declared.status.Status.{Status}
use Rattle.controller.specs.declared.status.Status.TheVariants.{Done, Blocked, RunLimit, Written, BadWords, ProjectRefused, ScriptRefused, Illegal, LogRefused, ReadFault, WriteFault, NoMemory}
use Rattle.controller.specs.Words.{help_line, version_line, is_line, IsReplay, IsPath, IsBig, IsCheck, NamesProject, AreBadAt}
use Rattle.controller.specs.Texts.{bad_words_line, legal_line, illegal_line, help_text, version_text}
use Rattle.controller.specs.Refusal.{refusal_line, script_line, log_line}
use Rattle.controller.specs.declared.status.ScriptReason.{ScriptReason}
use Rattle.controller.specs.declared.status.LogReason.{LogReason}
use Rattle.entity_types.specs.declared.edit.Edit.{Edit}
use Rattle.controller.specs.ScriptText.{IsScript, RefusesScript, IsScripted, IsUnscripted}
use Rattle.controller.specs.ScheduleText.{IsScheduled, IsUnscheduled}
use Rattle.controller.specs.LogFile.{HoldsLog, HoldsNoLog}
use Rattle.log_check.specs.Checked.{IsFirstMisfit, IsEndedWrong, IsLegalSo}
use Rattle.controller.specs.Counts.{counts_of, counts_line}
use Rattle.controller.specs.Case.{case_project, case_script, case_limit}

-- the file of this name holds the project, where it is told what it holds
abbrev pub HoldsProject : (List ℕ → Option (List ℕ)) → List ℕ → Project → Type 0
HoldsProject holds name p = IfSome (holds name) (λ bytes. Holds bytes p)

-- n is a workingstep of the project, with this definition
pub record IsStep (p : Project) (n : ℕ) (d : Def) : Type 0 where
  pub among : is_among p.steps n ≡ true
  pub defined : def_of (entity_at p.entities) n ≡ Ok d

-- the run of the project and a script of these edits under a schedule of these channels
abbrev pub replayed : Project → List Edit → List ℕ → ℕ → List Entry
replayed p edits channels limit = replay (rules_of p.entities edits) (channel_numbers p.entities) channels limit

-- The words ask for a replay, and t is the log of the run of the project in the file that they name and of the script that they name, under the
-- schedule that they name and up to the limit that they name. It is a legal run of the project and the script, and it has this ending.
pub record IsLog (words : List (List ℕ)) (holds : List ℕ → Option (List ℕ)) (t : List Entry) (ending : Ending) : Type 0 where
  pub name : List ℕ
  pub script : List ℕ
  pub schedule : List ℕ
  pub limit : ℕ
  pub asked : IsReplay words name script schedule limit
  pub project : Project
  pub held : HoldsProject holds name project
  pub edits : List Edit
  pub scripted : IsScripted holds script edits
  pub channels : List ℕ
  pub scheduled : IsScheduled holds schedule channels
  pub run : IsRun project.entities edits limit t ending
  pub replayed_so : t ≡ replayed project edits channels limit

-- the words ask for the path of a workingstep of the project in the file that they name, and this is its definition
pub record IsDefinition (words : List (List ℕ)) (holds : List ℕ → Option (List ℕ)) (d : Def) : Type 0 where
  pub name : List ℕ
  pub number : ℕ
  pub asked : IsPath words name number
  pub project : Project
  pub held : HoldsProject holds name project
  pub step : IsStep project number d

-- the words name a project file, and its bytes hold no project, for this reason
pub record HasNoProject (words : List (List ℕ)) (holds : List ℕ → Option (List ℕ)) (reason : ProjectReason) : Type 0 where
  pub name : List ℕ
  pub named : NamesProject words name
  pub refused : IfSome (holds name) (λ bytes. Refuses bytes reason)

-- the words ask for the path of workingstep n of the project in the file that they name, and n is none of its workingsteps
pub record HasNoStep (words : List (List ℕ)) (holds : List ℕ → Option (List ℕ)) (n : ℕ) : Type 0 where
  pub name : List ℕ
  pub asked : IsPath words name n
  pub absent : IfSome (holds name) (λ bytes. (p : Project) × Holds bytes p × (is_among p.steps n ≡ false))

-- the words ask for a replay, the file that they name holds a project, and the script that they name is none, for this reason
pub record HasNoScript (words : List (List ℕ)) (holds : List ℕ → Option (List ℕ)) (reason : ScriptReason) : Type 0 where
  pub name : List ℕ
  pub script : List ℕ
  pub schedule : List ℕ
  pub limit : ℕ
  pub asked : IsReplay words name script schedule limit
  pub project : Project
  pub held : HoldsProject holds name project
  pub unscripted : IsUnscripted holds script reason

-- the words ask for a replay, the files that they name hold a project and a script, and the schedule that they name is none, for this reason
pub record HasNoSchedule (words : List (List ℕ)) (holds : List ℕ → Option (List ℕ)) (reason : ScriptReason) : Type 0 where
  pub name : List ℕ
  pub script : List ℕ
  pub schedule : List ℕ
  pub limit : ℕ
  pub asked : IsReplay words name script schedule limit
  pub project : Project
  pub held : HoldsProject holds name project
  pub edits : List Edit
  pub scripted : IsScripted holds script edits
  pub unscheduled : IsUnscheduled holds schedule reason

-- The words ask for a large case, and t is the log of the run of its project and its script, which are both accepted, under the empty schedule and up
-- to as many entries as a log may have. It is a legal run of the two, it has this ending, and the text is the line of its counts.
pub record IsCounted (words : List (List ℕ)) (text : List ℕ) : Type 0 where
  pub steps : ℕ
  pub start : ℕ
  pub asked : IsBig words steps start
  pub project : Project
  pub held : Holds (case_project steps start) project
  pub edits : List Edit
  pub scripted : IsScript (case_script steps start) edits
  pub t : List Entry
  pub ending : Ending
  pub run : IsRun project.entities edits case_limit t ending
  pub replayed_so : t ≡ replayed project edits [] case_limit
  pub says : text ≡ counts_line steps start ending (counts_of t)

-- the words ask for a large case, and the text of its project holds none, for this reason
pub record HasNoCase (words : List (List ℕ)) (reason : ProjectReason) : Type 0 where
  pub steps : ℕ
  pub start : ℕ
  pub asked : IsBig words steps start
  pub refused : Refuses (case_project steps start) reason

-- the words ask for a large case, the text of its project holds one, and the text of its script is none, for this reason
pub record HasNoCaseScript (words : List (List ℕ)) (reason : ScriptReason) : Type 0 where
  pub steps : ℕ
  pub start : ℕ
  pub asked : IsBig words steps start
  pub project : Project
  pub held : Holds (case_project steps start) project
  pub refused : RefusesScript (case_script steps start) reason

-- The words ask for a check, the files that they name hold a project, a script and a log, and the log is a legal run of the project and the script
-- with the ending that it names.
pub record IsLegalLog (words : List (List ℕ)) (holds : List ℕ → Option (List ℕ)) (ending : Ending) : Type 0 where
  pub name : List ℕ
  pub script : List ℕ
  pub log : List ℕ
  pub asked : IsCheck words name script log
  pub project : Project
  pub held : HoldsProject holds name project
  pub edits : List Edit
  pub scripted : IsScripted holds script edits
  pub t : List Entry
  pub logged : HoldsLog (holds log) t ending
  pub legal : IsLegalSo (rules_of project.entities edits) t ending

-- The words ask for a check, the files that they name hold a project, a script and a log, and at this place stands the first entry of the log that
-- doesn't fit those before it, or each of them fits, they are so many, and only the ending isn't the log's own.
pub record IsIllegalLog (words : List (List ℕ)) (holds : List ℕ → Option (List ℕ)) (place : ℕ) : Type 0 where
  pub name : List ℕ
  pub script : List ℕ
  pub log : List ℕ
  pub asked : IsCheck words name script log
  pub project : Project
  pub held : HoldsProject holds name project
  pub edits : List Edit
  pub scripted : IsScripted holds script edits
  pub t : List Entry
  pub ending : Ending
  pub logged : HoldsLog (holds log) t ending
  pub wrong : IsFirstMisfit (rules_of project.entities edits) t place ⊎ IsEndedWrong (rules_of project.entities edits) t ending place

-- the words ask for a check, the files that they name hold a project and a script, and the file that they name for the log holds none, for this reason
pub record HasNoLog (words : List (List ℕ)) (holds : List ℕ → Option (List ℕ)) (reason : LogReason) : Type 0 where
  pub name : List ℕ
  pub script : List ℕ
  pub log : List ℕ
  pub asked : IsCheck words name script log
  pub project : Project
  pub held : HoldsProject holds name project
  pub edits : List Edit
  pub scripted : IsScripted holds script edits
  pub unlogged : HoldsNoLog (holds log) reason

-- the words ask for a check, the file that they name holds a project, and the script that they name is none, for this reason
pub record HasNoCheckScript (words : List (List ℕ)) (holds : List ℕ → Option (List ℕ)) (reason : ScriptReason) : Type 0 where
  pub name : List ℕ
  pub script : List ℕ
  pub log : List ℕ
  pub asked : IsCheck words name script log
  pub project : Project
  pub held : HoldsProject holds name project
  pub unscripted : IsUnscripted holds script reason

-- why the project that the words name or ask for is refused
abbrev pub IsRefused : List (List ℕ) → (List ℕ → Option (List ℕ)) → ProjectReason → Type 0
IsRefused words holds (NoStep n) = HasNoStep words holds n
IsRefused words holds reason = HasNoProject words holds reason ⊎ HasNoCase words reason

-- why the script or the schedule that the words name or ask for is refused
abbrev pub IsRefusedScript : List (List ℕ) → (List ℕ → Option (List ℕ)) → ScriptReason → Type 0
IsRefusedScript words holds reason = HasNoScript words holds reason ⊎ (HasNoSchedule words holds reason ⊎ (HasNoCaseScript words reason ⊎ HasNoCheckScript words holds reason))

-- what is written for the words: the path of a workingstep block by block, the counts of a large case, that a log is legal, the commands, or the version
abbrev pub IsWritten : List (List ℕ) → (List ℕ → Option (List ℕ)) → List ℕ → Type 0
IsWritten words holds text =
    ((d : Def) × IsDefinition words holds d × (text ≡ blocks_text (path_of d)))
    ⊎ (IsCounted words text
    ⊎ (((ending : Ending) × IsLegalLog words holds ending × (text ≡ legal_line ending))
    ⊎ (((is_line words help_line ≡ true) × (text ≡ help_text)) ⊎ ((is_line words version_line ≡ true) × (text ≡ version_text)))))

-- The words, with what the files hold, have this status and this text. That a file or the sink fails, and that memory runs out, lies in neither.
abbrev pub IsRight : List (List ℕ) → (List ℕ → Option (List ℕ)) → Status → List ℕ → Type 0
IsRight words holds Done text = (t : List Entry) × IsLog words holds t endings.Done × (text ≡ text_of t endings.Done)
IsRight words holds Blocked text = (t : List Entry) × IsLog words holds t endings.Blocked × (text ≡ text_of t endings.Blocked)
IsRight words holds RunLimit text = (t : List Entry) × IsLog words holds t endings.Limit × (text ≡ text_of t endings.Limit)
IsRight words holds Written text = IsWritten words holds text
IsRight words holds (BadWords place) text = AreBadAt words place × (text ≡ bad_words_line place)
IsRight words holds (ProjectRefused reason) text = IsRefused words holds reason × (text ≡ refusal_line reason)
IsRight words holds (ScriptRefused reason) text = IsRefusedScript words holds reason × (text ≡ script_line reason)
IsRight words holds (Illegal place) text = IsIllegalLog words holds place × (text ≡ illegal_line place)
IsRight words holds (LogRefused reason) text = HasNoLog words holds reason × (text ≡ log_line reason)
IsRight words holds ReadFault text = ⊥
IsRight words holds WriteFault text = ⊥
IsRight words holds NoMemory text = ⊥
