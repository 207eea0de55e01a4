-- Words and the bytes of the files that they name have one answer.
use Rattle.std.proofs.Common.{◌≡◌, ℕ, Bool, true, false, List, [], map, Option, Some, None, Result, Ok, refl, sym, ap, subst, ◌∙◌, arith, inl, inr}
use Rattle.std.specs.Prelude.{◌⊎◌, IfSome}
use Rattle.path_blocks.specs.declared.def.Def.{Def}
use Rattle.path_blocks.specs.Path.{path_of}
use Rattle.step_def.specs.declared.fault.DefFault.{DefFault}
use Rattle.project_read.specs.declared.reason.ProjectReason.{ProjectReason}
use Rattle.project_read.specs.declared.reason.ProjectReason.TheVariants as reasons
use Rattle.edit_rules.specs.Faults.{is_among}
use Rattle.project_read.specs.Holds.{Project, Holds}
use Rattle.project_read.specs.Refuses.{Refuses}
use Rattle.run_law.specs.Rules.{Rules}
use Rattle.run_law.specs.Endings.{EndsSo}
use Rattle.project_law.specs.ProjectRules.{rules_of}
use Rattle.project_law.specs.Run.{IsRun}
use Rattle.entity_types.specs.declared.edit.Edit.{Edit}
use Rattle.edit_script.specs.declared.error.ScriptErr.{ScriptErr}
use Rattle.edit_script.specs.Edits.{EditModel, model_of}
use Rattle.edit_script.specs.Reads as scripts
use Rattle.run_log.specs.BlocksText.{blocks_text}
use Rattle.run_log.specs.LogText.{text_of}
use Rattle.run_log.specs.declared.entry.Entry.{Entry}
use Rattle.run_log.specs.declared.entry.Ending.{Ending}
use Rattle.run_log.specs.declared.entry.Ending.TheVariants as endings
use Rattle.controller.specs.declared.status.Status.{Status}
use Rattle.controller.specs.declared.status.Status.TheVariants as statuses
use Rattle.controller.specs.declared.status.ScriptReason.{ScriptReason}
use Rattle.controller.specs.declared.status.ScriptReason.TheVariants as refusals
use Rattle.controller.specs.declared.status.LogReason.{LogReason}
use Rattle.controller.specs.declared.status.LogReason.TheVariants as losses
use Rattle.controller.specs.LogFile.{IsLogText, RefusesLog, HoldsLog}
use Rattle.log_read.specs.declared.error.LogErr.{LogErr}
use Rattle.log_read.specs.declared.error.LogErr.TheVariants as logs
use Rattle.log_read.specs.LogReads as texts
use Rattle.log_check.specs.declared.answer.Answer.{Answer}
use Rattle.log_check.specs.declared.answer.Answer.TheVariants.{Legal, Illegal}
use Rattle.log_check.specs.Checked.{IsAnswer}
use Rattle.controller.specs.Words.{IsReplay, IsCheck, NamesProject, is_hyphen}
use Rattle.controller.specs.Meaning.{Meaning, Replay, Path, Big, Check, Help, Version, Bad, Mean}
use Rattle.controller.specs.Texts.{bad_words_line, legal_line, illegal_line, help_text, version_text}
use Rattle.controller.specs.Refusal.{refusal_line, script_line, log_line}
use Rattle.controller.specs.ScriptText.{IsScript, RefusesScript, IsScripted, ScriptedBy}
use Rattle.controller.specs.ScheduleText.{IsSchedule, RefusesSchedule, IsScheduled, ScheduledBy}
use Rattle.controller.specs.Asked.{HoldsProject, IsStep, IsLog, IsDefinition, IsCounted, HasNoProject, HasNoStep, HasNoScript, HasNoSchedule, HasNoCase, HasNoCaseScript, IsLegalLog, IsIllegalLog, HasNoLog, HasNoCheckScript, IsRefused, IsRefusedScript, IsWritten, IsRight, replayed}
use Rattle.controller.specs.Counts.{counts_of, counts_line}
use Rattle.controller.specs.Case.{case_project, case_script, case_limit}
use Rattle.controller.specs.Answer.{ending_status}
use Rattle.controller.specs.Told.{IsTold, NoneFailed, Completes}
use Rattle.controller.specs.Outside.{Outside, Writes}
use Rattle.controller.specs.Answered.{Answered}
use Rattle.controller.proofs.CommandLemmas.{no_test}
use Rattle.controller.proofs.SameEdits.{same_edits}

-- what the laws say, of which the answers' laws are made
abbrev pub OneMeaning : Type 0
OneMeaning = (words : List (List ℕ)) (m n : Meaning) → Mean words m → Mean words n → m ≡ n

-- what the laws of projects, scripts and logs say
pub record Laws : Type 0 where
  pub one_project : (bytes : List ℕ) (p q : Project) → Holds bytes p → Holds bytes q → p ≡ q
  pub no_refusal : (bytes : List ℕ) (p : Project) (reason : ProjectReason) → Holds bytes p → Refuses bytes reason → ⊥
  pub one_reason : (bytes : List ℕ) (r s : ProjectReason) → Refuses bytes r → Refuses bytes s → r ≡ s
  pub one_script : (bytes : List ℕ) (p q : List EditModel) → scripts.Holds bytes p → scripts.Holds bytes q → p ≡ q
  pub no_fault : (bytes : List ℕ) (p : List EditModel) (e : ScriptErr) → scripts.Holds bytes p → scripts.Refuses bytes e → ⊥
  pub one_fault : (bytes : List ℕ) (e f : ScriptErr) → scripts.Refuses bytes e → scripts.Refuses bytes f → e ≡ f
  pub one_log : (bytes : List ℕ) (t u : List Entry) (d e : Ending) → texts.IsTextOf bytes t d → texts.IsTextOf bytes u e → (t ≡ u) × (d ≡ e)
  pub no_log_refusal : (bytes : List ℕ) (t : List Entry) (d : Ending) (e : LogErr) → texts.IsTextOf bytes t d → texts.IsRefused bytes e → ⊥
  pub one_log_refusal : (bytes : List ℕ) (e f : LogErr) → texts.IsRefused bytes e → texts.IsRefused bytes f → e ≡ f
  pub one_finding : (r : Rules) (t : List Entry) (ending : Ending) (a b : Answer) → IsAnswer r t ending a → IsAnswer r t ending b → a ≡ b

-- what named files give: no project, a project and no script, these and no schedule, these and no log, or all three with a schedule or with a log
data Given : Type 0 where
  NoProject : ProjectReason → Given
  NoScript : ScriptReason → Given
  NoSchedule : ScriptReason → Given
  All : Project → List Edit → List ℕ → Given
  NoLog : LogReason → Given
  Logged : Project → List Edit → List Entry → Ending → Given

-- the file that is told gives the project
abbrev GivesProject : Option (List ℕ) → Project → Type 0
GivesProject held p = (bytes : List ℕ) × (held ≡ Some bytes) × Holds bytes p

-- the word gives the schedule: a hyphen none, and a name that of the file that is told
abbrev GivesSchedule : Bool → Option (List ℕ) → List ℕ → Type 0
GivesSchedule true held channels = channels ≡ []
GivesSchedule false held channels = (bytes : List ℕ) × (held ≡ Some bytes) × IsSchedule bytes channels

-- the word gives the script: a hyphen none, and a name that of the file that is told
abbrev GivesScript : Bool → Option (List ℕ) → List Edit → Type 0
GivesScript true held edits = edits ≡ []
GivesScript false held edits = (bytes : List ℕ) × (held ≡ Some bytes) × IsScript bytes edits

-- what a word names: whether it is a hyphen, and what its file is told to hold
abbrev Word : Type 0
Word = Bool × Option (List ℕ)

abbrev word_of : (List ℕ → Option (List ℕ)) → List ℕ → Word
word_of holds word = (is_hyphen word, holds word)

-- a word that stands for no file
abbrev none_named : Word
none_named = (true, None)

-- the word names a file that is told, of which this is refused
abbrev GivesNone : Word → (List ℕ → Type 0) → Type 0
GivesNone word IsRefused = (word.0 ≡ false) × ((bytes : List ℕ) × (word.1 ≡ Some bytes) × IsRefused bytes)

-- what files give of which one is told to hold the project, and others are named for the script and the schedule
abbrev Gives : Option (List ℕ) → Word → Word → Given → Type 0
Gives held script schedule (NoProject reason) = (bytes : List ℕ) × (held ≡ Some bytes) × Refuses bytes reason
Gives held script schedule (NoScript reason) = ((p : Project) × GivesProject held p) × GivesNone script (λ bytes. RefusesScript bytes reason)
Gives held script schedule (NoSchedule reason) =
    ((p : Project) × GivesProject held p) × ((edits : List Edit) × GivesScript script.0 script.1 edits) × GivesNone schedule (λ bytes. RefusesSchedule bytes reason)
Gives held script schedule (All p edits channels) = GivesProject held p × GivesScript script.0 script.1 edits × GivesSchedule schedule.0 schedule.1 channels
Gives held script schedule (NoLog reason) = ⊥
Gives held script schedule (Logged p edits t ending) = ⊥

-- the file that is told gives the log with this ending, or none for this reason
abbrev GivesLog : Option (List ℕ) → List Entry → Ending → Type 0
GivesLog held t ending = (bytes : List ℕ) × (held ≡ Some bytes) × IsLogText bytes t ending

abbrev GivesNoLog : Option (List ℕ) → LogReason → Type 0
GivesNoLog held reason = (bytes : List ℕ) × (held ≡ Some bytes) × RefusesLog bytes reason

-- what files give of which one is told to hold the project, another is named for the script, and a third is told to hold the log
abbrev GivesChecked : Option (List ℕ) → Word → Option (List ℕ) → Given → Type 0
GivesChecked held script log (NoProject reason) = (bytes : List ℕ) × (held ≡ Some bytes) × Refuses bytes reason
GivesChecked held script log (NoScript reason) = ((p : Project) × GivesProject held p) × GivesNone script (λ bytes. RefusesScript bytes reason)
GivesChecked held script log (NoSchedule reason) = ⊥
GivesChecked held script log (All p edits channels) = ⊥
GivesChecked held script log (NoLog reason) = ((p : Project) × GivesProject held p) × ((edits : List Edit) × GivesScript script.0 script.1 edits) × GivesNoLog log reason
GivesChecked held script log (Logged p edits t ending) = GivesProject held p × GivesScript script.0 script.1 edits × GivesLog log t ending

-- what the files give that a meaning names; one fixed value stands for a meaning that names none
abbrev Read : (List ℕ → Option (List ℕ)) → Meaning → Given → Type 0
Read holds (Replay name script schedule limit) g = Gives (holds name) (word_of holds script) (word_of holds schedule) g
Read holds (Path name n) g = Gives (holds name) none_named none_named g
Read holds (Big steps start) g = Gives (Some (case_project steps start)) (false, Some (case_script steps start)) none_named g
Read holds (Check name script log) g = GivesChecked (holds name) (word_of holds script) (holds log) g
Read holds Help g = g ≡ NoProject reasons.TooLong
Read holds Version g = g ≡ NoProject reasons.TooLong
Read holds (Bad place) g = g ≡ NoProject reasons.TooLong

-- this status and this text
abbrev Are : Status → List ℕ → Status → List ℕ → Type 0
Are s x t y = (s ≡ t) × (x ≡ y)

-- n is no workingstep of the project
record Absent (p : Project) (n : ℕ) (s : Status) (x : List ℕ) : Type 0 where
  absent : is_among p.steps n ≡ false
  says : Are s x (statuses.ProjectRefused (reasons.NoStep n)) (refusal_line (reasons.NoStep n))

-- n is a workingstep of the project, and its path is written
record Present (p : Project) (n : ℕ) (s : Status) (x : List ℕ) : Type 0 where
  definition : Def
  step : IsStep p n definition
  says : Are s x statuses.Written (blocks_text (path_of definition))

-- the project and the edits ran under the schedule, and their log is written
record Ran (p : Project) (edits : List Edit) (channels : List ℕ) (limit : ℕ) (s : Status) (x : List ℕ) : Type 0 where
  ending : Ending
  run : IsRun p.entities edits limit (replayed p edits channels limit) ending
  says : Are s x (ending_status ending) (text_of (replayed p edits channels limit) ending)

-- the project and the edits of a large case ran, and the line of the counts of their log is written
record Counted (p : Project) (edits : List Edit) (steps start : ℕ) (s : Status) (x : List ℕ) : Type 0 where
  ending : Ending
  run : IsRun p.entities edits case_limit (replayed p edits [] case_limit) ending
  says : Are s x statuses.Written (counts_line steps start ending (counts_of (replayed p edits [] case_limit)))

-- what is found of a log as a status and a line
abbrev finding_status : Answer → Status
finding_status (Legal ending) = statuses.Written
finding_status (Illegal place) = statuses.Illegal place

abbrev finding_line : Answer → List ℕ
finding_line (Legal ending) = legal_line ending
finding_line (Illegal place) = illegal_line place

-- the log is judged by the project and the edits, and what is found of it is written
record Judged (p : Project) (edits : List Edit) (t : List Entry) (ending : Ending) (s : Status) (x : List ℕ) : Type 0 where
  finding : Answer
  is : IsAnswer (rules_of p.entities edits) t ending finding
  says : Are s x (finding_status finding) (finding_line finding)

-- the status and the text that follow from what the words mean and what the files give
abbrev Follows : Meaning → Given → Status → List ℕ → Type 0
Follows (Replay name script schedule limit) (All p edits channels) s x = Ran p edits channels limit s x
Follows (Replay name script schedule limit) (NoSchedule reason) s x = Are s x (statuses.ScriptRefused reason) (script_line reason)
Follows (Replay name script schedule limit) (NoScript reason) s x = Are s x (statuses.ScriptRefused reason) (script_line reason)
Follows (Replay name script schedule limit) (NoProject reason) s x = Are s x (statuses.ProjectRefused reason) (refusal_line reason)
Follows (Replay name script schedule limit) (NoLog reason) s x = ⊥
Follows (Replay name script schedule limit) (Logged p edits t ending) s x = ⊥
Follows (Path name n) (NoLog reason) s x = ⊥
Follows (Path name n) (Logged p edits t ending) s x = ⊥
Follows (Path name n) (All p edits channels) s x = Absent p n s x ⊎ Present p n s x
Follows (Path name n) (NoScript reason) s x = ⊥
Follows (Path name n) (NoSchedule reason) s x = ⊥
Follows (Path name n) (NoProject reason) s x = Are s x (statuses.ProjectRefused reason) (refusal_line reason)
Follows (Big steps start) (All p edits channels) s x = Counted p edits steps start s x
Follows (Big steps start) (NoScript reason) s x = Are s x (statuses.ScriptRefused reason) (script_line reason)
Follows (Big steps start) (NoSchedule reason) s x = ⊥
Follows (Big steps start) (NoProject reason) s x = Are s x (statuses.ProjectRefused reason) (refusal_line reason)
Follows (Big steps start) (NoLog reason) s x = ⊥
Follows (Big steps start) (Logged p edits t ending) s x = ⊥
Follows (Check name script log) (Logged p edits t ending) s x = Judged p edits t ending s x
Follows (Check name script log) (NoLog reason) s x = Are s x (statuses.LogRefused reason) (log_line reason)
Follows (Check name script log) (All p edits channels) s x = ⊥
Follows (Check name script log) (NoSchedule reason) s x = ⊥
Follows (Check name script log) (NoScript reason) s x = Are s x (statuses.ScriptRefused reason) (script_line reason)
Follows (Check name script log) (NoProject reason) s x = Are s x (statuses.ProjectRefused reason) (refusal_line reason)
Follows Help g s x = Are s x statuses.Written help_text
Follows Version g s x = Are s x statuses.Written version_text
Follows (Bad place) g s x = Are s x (statuses.BadWords place) (bad_words_line place)

-- a right answer, from its causes
record Caused (ws : List (List ℕ)) (holds : List ℕ → Option (List ℕ)) (s : Status) (x : List ℕ) : Type 0 where
  meaning : Meaning
  means : Mean ws meaning
  given : Given
  read : Read holds meaning given
  follows : Follows meaning given s x

-- what is said of a file that is told
told_of : (Is : List ℕ → Type 0) (held : Option (List ℕ)) → (bytes : List ℕ) × (held ≡ Some bytes) → IfSome held Is → (bytes : List ℕ) × (held ≡ Some bytes) × Is bytes
told_of Is held told is = (told.0, told.1, subst (λ (o : Option (List ℕ)). IfSome o Is) told.1 is)

told_absence : (held : Option (List ℕ)) (n : ℕ) → (bytes : List ℕ) × (held ≡ Some bytes) → IfSome held (λ bytes. (p : Project) × Holds bytes p × (is_among p.steps n ≡ false))
    → (p : Project) × GivesProject held p × (is_among p.steps n ≡ false)
told_absence held n told is =
    let h = subst (λ (o : Option (List ℕ)). IfSome o (λ bytes. (p : Project) × Holds bytes p × (is_among p.steps n ≡ false))) told.1 is in
    (h.0, (told.0, told.1, h.1), h.2)

told_schedule : (hyphen : Bool) (held : Option (List ℕ)) (channels : List ℕ) → (hyphen ≡ false → (bytes : List ℕ) × (held ≡ Some bytes)) → ScheduledBy hyphen held channels → GivesSchedule hyphen held channels
told_schedule true held channels told is = is
told_schedule false held channels told is = told_of (λ bytes. IsSchedule bytes channels) held (told refl) is

told_script : (hyphen : Bool) (held : Option (List ℕ)) (edits : List Edit) → (hyphen ≡ false → (bytes : List ℕ) × (held ≡ Some bytes)) → ScriptedBy hyphen held edits → GivesScript hyphen held edits
told_script true held edits told is = is
told_script false held edits told is = told_of (λ bytes. IsScript bytes edits) held (told refl) is

-- what the words of a replay give, one by one
project_given : (ws : List (List ℕ)) (holds : List ℕ → Option (List ℕ)) (name script schedule : List ℕ) (limit : ℕ) (p : Project) → IsTold ws holds → IsReplay ws name script schedule limit → HoldsProject holds name p
    → GivesProject (holds name) p
project_given ws holds name script schedule limit p told asked held = told_of (λ bytes. Holds bytes p) (holds name) (told name (inl (inl (script, schedule, limit, asked)))) held

script_given : (ws : List (List ℕ)) (holds : List ℕ → Option (List ℕ)) (name script schedule : List ℕ) (limit : ℕ) (edits : List Edit) → IsTold ws holds → IsReplay ws name script schedule limit
    → IsScripted holds script edits → GivesScript (is_hyphen script) (holds script) edits
script_given ws holds name script schedule limit edits told asked scripted =
    told_script (is_hyphen script) (holds script) edits (λ named. told script (inr (inl (inl (name, schedule, limit, asked, named))))) scripted

schedule_given : (ws : List (List ℕ)) (holds : List ℕ → Option (List ℕ)) (name script schedule channels : List ℕ) (limit : ℕ) → IsTold ws holds → IsReplay ws name script schedule limit
    → IsScheduled holds schedule channels → GivesSchedule (is_hyphen schedule) (holds schedule) channels
schedule_given ws holds name script schedule channels limit told asked scheduled =
    told_schedule (is_hyphen schedule) (holds schedule) channels (λ named. told schedule (inr (inr (inl (name, script, limit, asked, named))))) scheduled

gives_all : (ws : List (List ℕ)) (holds : List ℕ → Option (List ℕ)) (name script schedule channels : List ℕ) (limit : ℕ) (p : Project) (edits : List Edit) → IsTold ws holds → IsReplay ws name script schedule limit
    → HoldsProject holds name p → IsScripted holds script edits → IsScheduled holds schedule channels → Gives (holds name) (word_of holds script) (word_of holds schedule) (All p edits channels)
gives_all ws holds name script schedule channels limit p edits told asked held scripted scheduled = (
  project_given ws holds name script schedule limit p told asked held,
  script_given ws holds name script schedule limit edits told asked scripted,
  schedule_given ws holds name script schedule channels limit told asked scheduled,
)

-- the cause of each right answer
of_log : (ws : List (List ℕ)) (holds : List ℕ → Option (List ℕ)) (s : Status) (x : List ℕ) (t : List Entry) (ending : Ending) → IsTold ws holds → IsLog ws holds t ending → s ≡ ending_status ending → x ≡ text_of t ending → Caused ws holds s x
of_log ws holds s x t ending told is says text = record {
  meaning = Replay is.name is.script is.schedule is.limit;
  means = is.asked;
  given = All is.project is.edits is.channels;
  read = gives_all ws holds is.name is.script is.schedule is.channels is.limit is.project is.edits told is.asked is.held is.scripted is.scheduled;
  follows = record {
    ending = ending;
    run = subst (λ (u : List Entry). IsRun is.project.entities is.edits is.limit u ending) is.replayed_so is.run;
    says = (says, text ∙ ap (λ (u : List Entry). text_of u ending) is.replayed_so);
  };
}

of_path : (ws : List (List ℕ)) (holds : List ℕ → Option (List ℕ)) (x : List ℕ) (d : Def) → IsTold ws holds → IsDefinition ws holds d → x ≡ blocks_text (path_of d) → Caused ws holds statuses.Written x
of_path ws holds x d told is text = record {
  meaning = Path is.name is.number;
  means = is.asked;
  given = All is.project [] [];
  read = (told_of (λ bytes. Holds bytes is.project) (holds is.name) (told is.name (inl (inr (inl (is.number, is.asked))))) is.held, refl, refl);
  follows = inr (record { definition = d; step = is.step; says = (refl, text) });
}

of_case : (ws : List (List ℕ)) (holds : List ℕ → Option (List ℕ)) (x : List ℕ) → IsCounted ws x → Caused ws holds statuses.Written x
of_case ws holds x is = record {
  meaning = Big is.steps is.start;
  means = is.asked;
  given = All is.project is.edits [];
  read = ((case_project is.steps is.start, refl, is.held), (case_script is.steps is.start, refl, is.scripted), refl);
  follows = record {
    ending = is.ending;
    run = subst (λ (u : List Entry). IsRun is.project.entities is.edits case_limit u is.ending) is.replayed_so is.run;
    says = (refl, is.says ∙ ap (λ (u : List Entry). counts_line is.steps is.start is.ending (counts_of u)) is.replayed_so);
  };
}

of_no_case : (ws : List (List ℕ)) (holds : List ℕ → Option (List ℕ)) (x : List ℕ) (reason : ProjectReason) → HasNoCase ws reason → x ≡ refusal_line reason → Caused ws holds (statuses.ProjectRefused reason) x
of_no_case ws holds x reason is text =
    record { meaning = Big is.steps is.start; means = is.asked; given = NoProject reason; read = (case_project is.steps is.start, refl, is.refused); follows = (refl, text) }

of_no_case_script : (ws : List (List ℕ)) (holds : List ℕ → Option (List ℕ)) (x : List ℕ) (reason : ScriptReason) → HasNoCaseScript ws reason → x ≡ script_line reason
    → Caused ws holds (statuses.ScriptRefused reason) x
of_no_case_script ws holds x reason is text = record {
  meaning = Big is.steps is.start;
  means = is.asked;
  given = NoScript reason;
  read = ((is.project, (case_project is.steps is.start, refl, is.held)), (refl, (case_script is.steps is.start, refl, is.refused)));
  follows = (refl, text);
}

-- what the words of a check give, one by one
checked_project : (ws : List (List ℕ)) (holds : List ℕ → Option (List ℕ)) (name script log : List ℕ) (p : Project) → IsTold ws holds → IsCheck ws name script log → HoldsProject holds name p → GivesProject (holds name) p
checked_project ws holds name script log p told asked held = told_of (λ bytes. Holds bytes p) (holds name) (told name (inl (inr (inr (script, log, asked))))) held

checked_script : (ws : List (List ℕ)) (holds : List ℕ → Option (List ℕ)) (name script log : List ℕ) (edits : List Edit) → IsTold ws holds → IsCheck ws name script log → IsScripted holds script edits
    → GivesScript (is_hyphen script) (holds script) edits
checked_script ws holds name script log edits told asked scripted =
    told_script (is_hyphen script) (holds script) edits (λ named. told script (inr (inl (inr (name, log, asked, named))))) scripted

checked_log : (ws : List (List ℕ)) (holds : List ℕ → Option (List ℕ)) (name script log : List ℕ) (t : List Entry) (ending : Ending) → IsTold ws holds → IsCheck ws name script log → HoldsLog (holds log) t ending
    → GivesLog (holds log) t ending
checked_log ws holds name script log t ending told asked logged = told_of (λ bytes. IsLogText bytes t ending) (holds log) (told log (inr (inr (inr (name, script, asked))))) logged

of_legal : (ws : List (List ℕ)) (holds : List ℕ → Option (List ℕ)) (x : List ℕ) (ending : Ending) → IsTold ws holds → IsLegalLog ws holds ending → x ≡ legal_line ending → Caused ws holds statuses.Written x
of_legal ws holds x ending told is text = record {
  meaning = Check is.name is.script is.log;
  means = is.asked;
  given = Logged is.project is.edits is.t ending;
  read = (
    checked_project ws holds is.name is.script is.log is.project told is.asked is.held,
    checked_script ws holds is.name is.script is.log is.edits told is.asked is.scripted,
    checked_log ws holds is.name is.script is.log is.t ending told is.asked is.logged,
  );
  follows = record { finding = Legal ending; is = (refl, is.legal); says = (refl, text) };
}

of_illegal : (ws : List (List ℕ)) (holds : List ℕ → Option (List ℕ)) (x : List ℕ) (place : ℕ) → IsTold ws holds → IsIllegalLog ws holds place → x ≡ illegal_line place → Caused ws holds (statuses.Illegal place) x
of_illegal ws holds x place told is text = record {
  meaning = Check is.name is.script is.log;
  means = is.asked;
  given = Logged is.project is.edits is.t is.ending;
  read = (
    checked_project ws holds is.name is.script is.log is.project told is.asked is.held,
    checked_script ws holds is.name is.script is.log is.edits told is.asked is.scripted,
    checked_log ws holds is.name is.script is.log is.t is.ending told is.asked is.logged,
  );
  follows = record { finding = Illegal place; is = is.wrong; says = (refl, text) };
}

of_no_log : (ws : List (List ℕ)) (holds : List ℕ → Option (List ℕ)) (x : List ℕ) (reason : LogReason) → IsTold ws holds → HasNoLog ws holds reason → x ≡ log_line reason
    → Caused ws holds (statuses.LogRefused reason) x
of_no_log ws holds x reason told is text = record {
  meaning = Check is.name is.script is.log;
  means = is.asked;
  given = NoLog reason;
  read = (
    (is.project, checked_project ws holds is.name is.script is.log is.project told is.asked is.held),
    (is.edits, checked_script ws holds is.name is.script is.log is.edits told is.asked is.scripted),
    told_of (λ bytes. RefusesLog bytes reason) (holds is.log) (told is.log (inr (inr (inr (is.name, is.script, is.asked))))) is.unlogged,
  );
  follows = (refl, text);
}

of_no_check_script : (ws : List (List ℕ)) (holds : List ℕ → Option (List ℕ)) (x : List ℕ) (reason : ScriptReason) → IsTold ws holds → HasNoCheckScript ws holds reason → x ≡ script_line reason
    → Caused ws holds (statuses.ScriptRefused reason) x
of_no_check_script ws holds x reason told is text = record {
  meaning = Check is.name is.script is.log;
  means = is.asked;
  given = NoScript reason;
  read = (
    (is.project, checked_project ws holds is.name is.script is.log is.project told is.asked is.held),
    (
      is.unscripted.named,
      told_of (λ bytes. RefusesScript bytes reason) (holds is.script) (told is.script (inr (inl (inr (is.name, is.log, is.asked, is.unscripted.named))))) is.unscripted.refused,
    ),
  );
  follows = (refl, text);
}

of_written : (ws : List (List ℕ)) (holds : List ℕ → Option (List ℕ)) (x : List ℕ) → IsTold ws holds → IsWritten ws holds x → Caused ws holds statuses.Written x
of_written ws holds x told (inl is) = of_path ws holds x is.0 told is.1 is.2
of_written ws holds x told (inr (inl is)) = of_case ws holds x is
of_written ws holds x told (inr (inr (inl is))) = of_legal ws holds x is.0 told is.1 is.2
of_written ws holds x told (inr (inr (inr (inl is)))) = record { meaning = Help; means = is.0; given = NoProject reasons.TooLong; read = refl; follows = (refl, is.1) }
of_written ws holds x told (inr (inr (inr (inr is)))) = record { meaning = Version; means = is.0; given = NoProject reasons.TooLong; read = refl; follows = (refl, is.1) }

of_file : (ws : List (List ℕ)) (holds : List ℕ → Option (List ℕ)) (x : List ℕ) (reason : ProjectReason) (name : List ℕ) → NamesProject ws name → (bytes : List ℕ) × (holds name ≡ Some bytes) × Refuses bytes reason
    → x ≡ refusal_line reason → Caused ws holds (statuses.ProjectRefused reason) x
of_file ws holds x reason name (inl named) gives text =
    record { meaning = Replay name named.0 named.1 named.2; means = named.3; given = NoProject reason; read = gives; follows = (refl, text) }
of_file ws holds x reason name (inr (inr named)) gives text =
    record { meaning = Check name named.0 named.1; means = named.2; given = NoProject reason; read = gives; follows = (refl, text) }
of_file ws holds x reason name (inr (inl named)) gives text = record { meaning = Path name named.0; means = named.1; given = NoProject reason; read = gives; follows = (refl, text) }

of_no_project : (ws : List (List ℕ)) (holds : List ℕ → Option (List ℕ)) (x : List ℕ) (reason : ProjectReason) → IsTold ws holds → HasNoProject ws holds reason → x ≡ refusal_line reason
    → Caused ws holds (statuses.ProjectRefused reason) x
of_no_project ws holds x reason told is text =
    of_file ws holds x reason is.name is.named (told_of (λ bytes. Refuses bytes reason) (holds is.name) (told is.name (inl is.named)) is.refused) text

of_no_step : (ws : List (List ℕ)) (holds : List ℕ → Option (List ℕ)) (x : List ℕ) (n : ℕ) → IsTold ws holds → HasNoStep ws holds n → x ≡ refusal_line (reasons.NoStep n)
    → Caused ws holds (statuses.ProjectRefused (reasons.NoStep n)) x
of_no_step ws holds x n told is text =
    let h = told_absence (holds is.name) n (told is.name (inl (inr (inl (n, is.asked))))) is.absent in
    record { meaning = Path is.name n; means = is.asked; given = All h.0 [] []; read = (h.1, refl, refl); follows = inl (record { absent = h.2; says = (refl, text) }) }

of_no_script : (ws : List (List ℕ)) (holds : List ℕ → Option (List ℕ)) (x : List ℕ) (reason : ScriptReason) → IsTold ws holds → HasNoScript ws holds reason → x ≡ script_line reason
    → Caused ws holds (statuses.ScriptRefused reason) x
of_no_script ws holds x reason told is text = record {
  meaning = Replay is.name is.script is.schedule is.limit;
  means = is.asked;
  given = NoScript reason;
  read = (
    (is.project, project_given ws holds is.name is.script is.schedule is.limit is.project told is.asked is.held),
    (
      is.unscripted.named,
      told_of (λ bytes. RefusesScript bytes reason) (holds is.script) (told is.script (inr (inl (inl (is.name, is.schedule, is.limit, is.asked, is.unscripted.named))))) is.unscripted.refused,
    ),
  );
  follows = (refl, text);
}

of_no_schedule : (ws : List (List ℕ)) (holds : List ℕ → Option (List ℕ)) (x : List ℕ) (reason : ScriptReason) → IsTold ws holds → HasNoSchedule ws holds reason → x ≡ script_line reason
    → Caused ws holds (statuses.ScriptRefused reason) x
of_no_schedule ws holds x reason told is text = record {
  meaning = Replay is.name is.script is.schedule is.limit;
  means = is.asked;
  given = NoSchedule reason;
  read = (
    (is.project, project_given ws holds is.name is.script is.schedule is.limit is.project told is.asked is.held),
    (is.edits, script_given ws holds is.name is.script is.schedule is.limit is.edits told is.asked is.scripted),
    (
      is.unscheduled.named,
      told_of (λ bytes. RefusesSchedule bytes reason) (holds is.schedule) (told is.schedule (inr (inr (inl (is.name, is.script, is.limit, is.asked, is.unscheduled.named))))) is.unscheduled.refused,
    ),
  );
  follows = (refl, text);
}

of_refused_project : (ws : List (List ℕ)) (holds : List ℕ → Option (List ℕ)) (x : List ℕ) (reason : ProjectReason) → IsTold ws holds → HasNoProject ws holds reason ⊎ HasNoCase ws reason → x ≡ refusal_line reason
    → Caused ws holds (statuses.ProjectRefused reason) x
of_refused_project ws holds x reason told (inl is) text = of_no_project ws holds x reason told is text
of_refused_project ws holds x reason told (inr is) text = of_no_case ws holds x reason is text

of_refused : (ws : List (List ℕ)) (holds : List ℕ → Option (List ℕ)) (x : List ℕ) (reason : ProjectReason) → IsTold ws holds → IsRefused ws holds reason → x ≡ refusal_line reason
    → Caused ws holds (statuses.ProjectRefused reason) x
of_refused ws holds x (reasons.NoStep n) told is text = of_no_step ws holds x n told is text
of_refused ws holds x reasons.TooLong told is text = of_refused_project ws holds x reasons.TooLong told is text
of_refused ws holds x (reasons.Read fault) told is text = of_refused_project ws holds x (reasons.Read fault) told is text
of_refused ws holds x (reasons.Attribute fault) told is text = of_refused_project ws holds x (reasons.Attribute fault) told is text
of_refused ws holds x (reasons.Store fault) told is text = of_refused_project ws holds x (reasons.Store fault) told is text
of_refused ws holds x (reasons.Tree fault) told is text = of_refused_project ws holds x (reasons.Tree fault) told is text
of_refused ws holds x (reasons.Definition n fault) told is text = of_refused_project ws holds x (reasons.Definition n fault) told is text

of_refused_script : (ws : List (List ℕ)) (holds : List ℕ → Option (List ℕ)) (x : List ℕ) (reason : ScriptReason) → IsTold ws holds → IsRefusedScript ws holds reason → x ≡ script_line reason
    → Caused ws holds (statuses.ScriptRefused reason) x
of_refused_script ws holds x reason told (inl is) text = of_no_script ws holds x reason told is text
of_refused_script ws holds x reason told (inr (inl is)) text = of_no_schedule ws holds x reason told is text
of_refused_script ws holds x reason told (inr (inr (inl is))) text = of_no_case_script ws holds x reason is text
of_refused_script ws holds x reason told (inr (inr (inr is))) text = of_no_check_script ws holds x reason told is text

caused : (ws : List (List ℕ)) (holds : List ℕ → Option (List ℕ)) (s : Status) (x : List ℕ) → IsTold ws holds → IsRight ws holds s x → Caused ws holds s x
caused ws holds statuses.Done x told is = of_log ws holds statuses.Done x is.0 endings.Done told is.1 refl is.2
caused ws holds statuses.Blocked x told is = of_log ws holds statuses.Blocked x is.0 endings.Blocked told is.1 refl is.2
caused ws holds statuses.RunLimit x told is = of_log ws holds statuses.RunLimit x is.0 endings.Limit told is.1 refl is.2
caused ws holds statuses.Written x told is = of_written ws holds x told is
caused ws holds (statuses.BadWords place) x told is = record { meaning = Bad place; means = is.0; given = NoProject reasons.TooLong; read = refl; follows = (refl, is.1) }
caused ws holds (statuses.ProjectRefused reason) x told is = of_refused ws holds x reason told is.0 is.1
caused ws holds (statuses.ScriptRefused reason) x told is = of_refused_script ws holds x reason told is.0 is.1
caused ws holds (statuses.Illegal place) x told is = of_illegal ws holds x place told is.0 is.1
caused ws holds (statuses.LogRefused reason) x told is = of_no_log ws holds x reason told is.0 is.1
caused ws holds statuses.ReadFault x told is = absurd is
caused ws holds statuses.WriteFault x told is = absurd is
caused ws holds statuses.NoMemory x told is = absurd is

abbrev some_bytes : List ℕ → Option (List ℕ)
some_bytes bytes = Some bytes

same_bytes : (held : Option (List ℕ)) (a b : List ℕ) → held ≡ some_bytes a → held ≡ some_bytes b → a ≡ b
same_bytes held a b e f = let same : some_bytes a ≡ some_bytes b = sym e ∙ f in cc

-- a text is one schedule, or none for one reason
abbrev some_place : ℕ → Option ℕ
some_place place = Some place

same_refusal : (bytes : List ℕ) (r s : ScriptReason) → RefusesSchedule bytes r → RefusesSchedule bytes s → r ≡ s
same_refusal bytes refusals.TooLong refusals.TooLong h k = refl
same_refusal bytes refusals.TooLong (refusals.Schedule b) h k = let short = k.0 in absurd (omega (arith, h))
same_refusal bytes (refusals.Schedule a) refusals.TooLong h k = let short = h.0 in absurd (omega (arith, k))
same_refusal bytes (refusals.Schedule a) (refusals.Schedule b) h k = let same : some_place a ≡ some_place b = sym h.1 ∙ k.1 in cc
same_refusal bytes (refusals.Script e) s h k = absurd h
same_refusal bytes refusals.TooLong (refusals.Script e) h k = absurd k
same_refusal bytes (refusals.Schedule a) (refusals.Script e) h k = absurd k

no_place : (place : ℕ) → some_place place ≡ None → ⊥
no_place place e = absurd (cc)

not_both : (bytes channels : List ℕ) (reason : ScriptReason) → IsSchedule bytes channels → RefusesSchedule bytes reason → ⊥
not_both bytes channels refusals.TooLong is refused = let short = is.short in absurd (omega (arith, refused))
not_both bytes channels (refusals.Script e) is refused = absurd refused
not_both bytes channels (refusals.Schedule place) is refused = no_place place (sym refused.1 ∙ is.allowed)

same_schedule : (hyphen : Bool) (held : Option (List ℕ)) (a b : List ℕ) → GivesSchedule hyphen held a → GivesSchedule hyphen held b → a ≡ b
same_schedule true held a b h k = h ∙ sym k
same_schedule false held a b h k = h.2.channels_are ∙ sym (subst (λ (bytes : List ℕ). IsSchedule bytes b) (same_bytes held k.0 h.0 k.1 h.1) k.2).channels_are

no_schedule : (hyphen : Bool) (held : Option (List ℕ)) (channels : List ℕ) (reason : ScriptReason) → GivesSchedule hyphen held channels → GivesNone (hyphen, held) (λ bytes. RefusesSchedule bytes reason) → ⊥
no_schedule true held channels reason h k = let named = k.0 in absurd (cc)
no_schedule false held channels reason h k = not_both h.0 channels reason h.2 (subst (λ (bytes : List ℕ). RefusesSchedule bytes reason) (same_bytes held k.1.0 h.0 k.1.1 h.1) k.1.2)

no_turns : (held : Option (List ℕ)) (hyphen : Bool) (r q : ScriptReason) → GivesNone (hyphen, held) (λ bytes. RefusesSchedule bytes r) → GivesNone (hyphen, held) (λ bytes. RefusesSchedule bytes q) → r ≡ q
no_turns held hyphen r q h k = same_refusal h.1.0 r q h.1.2 (subst (λ (bytes : List ℕ). RefusesSchedule bytes q) (same_bytes held k.1.0 h.1.0 k.1.1 h.1.1) k.1.2)

-- a text is one script, or none for one reason
same_reason : Laws → (bytes : List ℕ) (r s : ScriptReason) → RefusesScript bytes r → RefusesScript bytes s → r ≡ s
same_reason laws bytes refusals.TooLong refusals.TooLong h k = refl
same_reason laws bytes refusals.TooLong (refusals.Script f) h k = let short = k.0 in absurd (omega (arith, h))
same_reason laws bytes (refusals.Script e) refusals.TooLong h k = let short = h.0 in absurd (omega (arith, k))
same_reason laws bytes (refusals.Script e) (refusals.Script f) h k = ap refusals.Script (laws.one_fault bytes e f h.1 k.1)
same_reason laws bytes (refusals.Schedule a) s h k = absurd h
same_reason laws bytes refusals.TooLong (refusals.Schedule b) h k = absurd k
same_reason laws bytes (refusals.Script e) (refusals.Schedule b) h k = absurd k

not_edits : Laws → (bytes : List ℕ) (edits : List Edit) (reason : ScriptReason) → IsScript bytes edits → RefusesScript bytes reason → ⊥
not_edits laws bytes edits refusals.TooLong is refused = let short = is.short in absurd (omega (arith, refused))
not_edits laws bytes edits (refusals.Script e) is refused = laws.no_fault bytes (map model_of edits) e is.held refused.1
not_edits laws bytes edits (refusals.Schedule place) is refused = absurd refused

same_script : Laws → (hyphen : Bool) (held : Option (List ℕ)) (a b : List Edit) → GivesScript hyphen held a → GivesScript hyphen held b → a ≡ b
same_script laws true held a b h k = h ∙ sym k
same_script laws false held a b h k =
    same_edits a b (laws.one_script h.0 (map model_of a) (map model_of b) h.2.held (subst (λ (bytes : List ℕ). IsScript bytes b) (same_bytes held k.0 h.0 k.1 h.1) k.2).held)

no_script : Laws → (hyphen : Bool) (held : Option (List ℕ)) (edits : List Edit) (reason : ScriptReason) → GivesScript hyphen held edits → GivesNone (hyphen, held) (λ bytes. RefusesScript bytes reason) → ⊥
no_script laws true held edits reason h k = let named = k.0 in absurd (cc)
no_script laws false held edits reason h k = not_edits laws h.0 edits reason h.2 (subst (λ (bytes : List ℕ). RefusesScript bytes reason) (same_bytes held k.1.0 h.0 k.1.1 h.1) k.1.2)

no_edits : Laws → (held : Option (List ℕ)) (hyphen : Bool) (r q : ScriptReason) → GivesNone (hyphen, held) (λ bytes. RefusesScript bytes r) → GivesNone (hyphen, held) (λ bytes. RefusesScript bytes q) → r ≡ q
no_edits laws held hyphen r q h k = same_reason laws h.1.0 r q h.1.2 (subst (λ (bytes : List ℕ). RefusesScript bytes q) (same_bytes held k.1.0 h.1.0 k.1.1 h.1.1) k.1.2)

-- a file that is told holds one project, or none
same_project : Laws → (held : Option (List ℕ)) (p q : Project) → GivesProject held p → GivesProject held q → p ≡ q
same_project laws held p q h k = laws.one_project h.0 p q h.2 (subst (λ (bytes : List ℕ). Holds bytes q) (same_bytes held k.0 h.0 k.1 h.1) k.2)

no_project : Laws → (held : Option (List ℕ)) (p : Project) (reason : ProjectReason) → GivesProject held p → (bytes : List ℕ) × (held ≡ Some bytes) × Refuses bytes reason → ⊥
no_project laws held p reason h k = laws.no_refusal h.0 p reason h.2 (subst (λ (bytes : List ℕ). Refuses bytes reason) (same_bytes held k.0 h.0 k.1 h.1) k.2)

-- files that are told give one thing
gives_one : Laws → (held : Option (List ℕ)) (script schedule : Word) (g f : Given) → Gives held script schedule g → Gives held script schedule f → g ≡ f
gives_one laws held script schedule (NoProject r) (NoProject q) h k = ap NoProject (laws.one_reason h.0 r q h.2 (subst (λ (bytes : List ℕ). Refuses bytes q) (same_bytes held k.0 h.0 k.1 h.1) k.2))
gives_one laws held script schedule (NoProject r) (NoScript q) h k = absurd (no_project laws held k.0.0 r k.0.1 h)
gives_one laws held script schedule (NoProject r) (NoSchedule q) h k = absurd (no_project laws held k.0.0 r k.0.1 h)
gives_one laws held script schedule (NoProject r) (All q edits channels) h k = absurd (no_project laws held q r k.0 h)
gives_one laws held script schedule (NoScript r) (NoProject q) h k = absurd (no_project laws held h.0.0 q h.0.1 k)
gives_one laws held script schedule (NoScript r) (NoScript q) h k = ap NoScript (no_edits laws script.1 script.0 r q h.1 k.1)
gives_one laws held script schedule (NoScript r) (NoSchedule q) h k = absurd (no_script laws script.0 script.1 k.1.0 r k.1.1 h.1)
gives_one laws held script schedule (NoScript r) (All q edits channels) h k = absurd (no_script laws script.0 script.1 edits r k.1 h.1)
gives_one laws held script schedule (NoSchedule r) (NoProject q) h k = absurd (no_project laws held h.0.0 q h.0.1 k)
gives_one laws held script schedule (NoSchedule r) (NoScript q) h k = absurd (no_script laws script.0 script.1 h.1.0 q h.1.1 k.1)
gives_one laws held script schedule (NoSchedule r) (NoSchedule q) h k = ap NoSchedule (no_turns schedule.1 schedule.0 r q h.2 k.2)
gives_one laws held script schedule (NoSchedule r) (All q edits channels) h k = absurd (no_schedule schedule.0 schedule.1 channels r k.2 h.2)
gives_one laws held script schedule (All p edits channels) (NoProject q) h k = absurd (no_project laws held p q h.0 k)
gives_one laws held script schedule (All p edits channels) (NoScript q) h k = absurd (no_script laws script.0 script.1 edits q h.1 k.1)
gives_one laws held script schedule (All p edits channels) (NoSchedule q) h k = absurd (no_schedule schedule.0 schedule.1 channels q h.2 k.2)
gives_one laws held script schedule (All p edits channels) (All q others turns) h k =
    ap (λ (r : Project). All r edits channels) (same_project laws held p q h.0 k.0) ∙ ap (λ (es : List Edit). All q es channels) (same_script laws script.0 script.1 edits others h.1 k.1)
    ∙ ap (All q others) (same_schedule schedule.0 schedule.1 channels turns h.2 k.2)
gives_one laws held script schedule (NoProject r) (NoLog q) h k = absurd k
gives_one laws held script schedule (NoProject r) (Logged q others t ending) h k = absurd k
gives_one laws held script schedule (NoScript r) (NoLog q) h k = absurd k
gives_one laws held script schedule (NoScript r) (Logged q others t ending) h k = absurd k
gives_one laws held script schedule (NoSchedule r) (NoLog q) h k = absurd k
gives_one laws held script schedule (NoSchedule r) (Logged q others t ending) h k = absurd k
gives_one laws held script schedule (All p edits channels) (NoLog q) h k = absurd k
gives_one laws held script schedule (All p edits channels) (Logged q others t ending) h k = absurd k
gives_one laws held script schedule (NoLog r) f h k = absurd h
gives_one laws held script schedule (Logged p edits t ending) f h k = absurd h

-- a text is one log with one ending, or none for one reason
same_log : Laws → (held : Option (List ℕ)) (t u : List Entry) (d e : Ending) → GivesLog held t d → GivesLog held u e → (t ≡ u) × (d ≡ e)
same_log laws held t u d e h k = laws.one_log h.0 t u d e h.2.text (subst (λ (bytes : List ℕ). IsLogText bytes u e) (same_bytes held k.0 h.0 k.1 h.1) k.2).text

not_lines : Laws → (bytes : List ℕ) (t : List Entry) (d : Ending) (reason : LogReason) → IsLogText bytes t d → RefusesLog bytes reason → ⊥
not_lines laws bytes t d losses.TooLong is refused = let short = is.short in absurd (omega (arith, refused))
not_lines laws bytes t d (losses.BadLine l) is refused = laws.no_log_refusal bytes t d (logs.BadLine l) is.text refused.1
not_lines laws bytes t d losses.NoEnd is refused = laws.no_log_refusal bytes t d logs.NoEnd is.text refused.1

no_log : Laws → (held : Option (List ℕ)) (t : List Entry) (d : Ending) (reason : LogReason) → GivesLog held t d → GivesNoLog held reason → ⊥
no_log laws held t d reason h k = not_lines laws h.0 t d reason h.2 (subst (λ (bytes : List ℕ). RefusesLog bytes reason) (same_bytes held k.0 h.0 k.1 h.1) k.2)

same_line : (l m : ℕ) → logs.BadLine l ≡ logs.BadLine m → l ≡ m
same_line l m e = cc

not_ended : (l : ℕ) → logs.BadLine l ≡ logs.NoEnd → ⊥
not_ended l e = absurd (cc)

same_loss : Laws → (bytes : List ℕ) (r q : LogReason) → RefusesLog bytes r → RefusesLog bytes q → r ≡ q
same_loss laws bytes losses.TooLong losses.TooLong h k = refl
same_loss laws bytes losses.TooLong (losses.BadLine m) h k = let short = k.0 in absurd (omega (arith, h))
same_loss laws bytes losses.TooLong losses.NoEnd h k = let short = k.0 in absurd (omega (arith, h))
same_loss laws bytes (losses.BadLine l) losses.TooLong h k = let short = h.0 in absurd (omega (arith, k))
same_loss laws bytes (losses.BadLine l) (losses.BadLine m) h k = ap losses.BadLine (same_line l m (laws.one_log_refusal bytes (logs.BadLine l) (logs.BadLine m) h.1 k.1))
same_loss laws bytes (losses.BadLine l) losses.NoEnd h k = absurd (not_ended l (laws.one_log_refusal bytes (logs.BadLine l) logs.NoEnd h.1 k.1))
same_loss laws bytes losses.NoEnd losses.TooLong h k = let short = h.0 in absurd (omega (arith, k))
same_loss laws bytes losses.NoEnd (losses.BadLine m) h k = absurd (not_ended m (laws.one_log_refusal bytes (logs.BadLine m) logs.NoEnd k.1 h.1))
same_loss laws bytes losses.NoEnd losses.NoEnd h k = refl

no_lines : Laws → (held : Option (List ℕ)) (r q : LogReason) → GivesNoLog held r → GivesNoLog held q → r ≡ q
no_lines laws held r q h k = same_loss laws h.0 r q h.2 (subst (λ (bytes : List ℕ). RefusesLog bytes q) (same_bytes held k.0 h.0 k.1 h.1) k.2)

-- files of a check that are told give one thing
checked_one : Laws → (held : Option (List ℕ)) (script : Word) (log : Option (List ℕ)) (g f : Given) → GivesChecked held script log g → GivesChecked held script log f → g ≡ f
checked_one laws held script log (NoProject r) (NoProject q) h k = ap NoProject (laws.one_reason h.0 r q h.2 (subst (λ (bytes : List ℕ). Refuses bytes q) (same_bytes held k.0 h.0 k.1 h.1) k.2))
checked_one laws held script log (NoProject r) (NoScript q) h k = absurd (no_project laws held k.0.0 r k.0.1 h)
checked_one laws held script log (NoProject r) (NoSchedule q) h k = absurd k
checked_one laws held script log (NoProject r) (All q edits channels) h k = absurd k
checked_one laws held script log (NoProject r) (NoLog q) h k = absurd (no_project laws held k.0.0 r k.0.1 h)
checked_one laws held script log (NoProject r) (Logged q edits t ending) h k = absurd (no_project laws held q r k.0 h)
checked_one laws held script log (NoScript r) (NoProject q) h k = absurd (no_project laws held h.0.0 q h.0.1 k)
checked_one laws held script log (NoScript r) (NoScript q) h k = ap NoScript (no_edits laws script.1 script.0 r q h.1 k.1)
checked_one laws held script log (NoScript r) (NoSchedule q) h k = absurd k
checked_one laws held script log (NoScript r) (All q edits channels) h k = absurd k
checked_one laws held script log (NoScript r) (NoLog q) h k = absurd (no_script laws script.0 script.1 k.1.0 r k.1.1 h.1)
checked_one laws held script log (NoScript r) (Logged q edits t ending) h k = absurd (no_script laws script.0 script.1 edits r k.1 h.1)
checked_one laws held script log (NoSchedule r) f h k = absurd h
checked_one laws held script log (All p edits channels) f h k = absurd h
checked_one laws held script log (NoLog r) (NoProject q) h k = absurd (no_project laws held h.0.0 q h.0.1 k)
checked_one laws held script log (NoLog r) (NoScript q) h k = absurd (no_script laws script.0 script.1 h.1.0 q h.1.1 k.1)
checked_one laws held script log (NoLog r) (NoSchedule q) h k = absurd k
checked_one laws held script log (NoLog r) (All q edits channels) h k = absurd k
checked_one laws held script log (NoLog r) (NoLog q) h k = ap NoLog (no_lines laws log r q h.2 k.2)
checked_one laws held script log (NoLog r) (Logged q edits t ending) h k = absurd (no_log laws log t ending r k.2 h.2)
checked_one laws held script log (Logged p edits t ending) (NoProject q) h k = absurd (no_project laws held p q h.0 k)
checked_one laws held script log (Logged p edits t ending) (NoScript q) h k = absurd (no_script laws script.0 script.1 edits q h.1 k.1)
checked_one laws held script log (Logged p edits t ending) (NoSchedule q) h k = absurd k
checked_one laws held script log (Logged p edits t ending) (All q others channels) h k = absurd k
checked_one laws held script log (Logged p edits t ending) (NoLog q) h k = absurd (no_log laws log t ending q h.2 k.2)
checked_one laws held script log (Logged p edits t d) (Logged q others u e) h k =
    let same = same_log laws log t u d e h.2 k.2 in
    ap (λ (r : Project). Logged r edits t d) (same_project laws held p q h.0 k.0) ∙ ap (λ (es : List Edit). Logged q es t d) (same_script laws script.0 script.1 edits others h.1 k.1)
    ∙ ap (λ (v : List Entry). Logged q others v d) same.0 ∙ ap (Logged q others u) same.1

read_one : Laws → (holds : List ℕ → Option (List ℕ)) (m : Meaning) (g f : Given) → Read holds m g → Read holds m f → g ≡ f
read_one laws holds (Replay name script schedule limit) g f h k = gives_one laws (holds name) (word_of holds script) (word_of holds schedule) g f h k
read_one laws holds (Path name n) g f h k = gives_one laws (holds name) none_named none_named g f h k
read_one laws holds (Big steps start) g f h k = gives_one laws (Some (case_project steps start)) (false, Some (case_script steps start)) none_named g f h k
read_one laws holds (Check name script log) g f h k = checked_one laws (holds name) (word_of holds script) (holds log) g f h k
read_one laws holds Help g f h k = h ∙ sym k
read_one laws holds Version g f h k = h ∙ sym k
read_one laws holds (Bad place) g f h k = h ∙ sym k

both_are : (s t u : Status) (x y z : List ℕ) → Are s x u z → Are t y u z → Are s x t y
both_are s t u x y z h k = (h.0 ∙ sym k.0, h.1 ∙ sym k.1)

abbrev found : Def → Result Def DefFault
found d = Ok d

same_definition : (p : Project) (n : ℕ) (d e : Def) → IsStep p n d → IsStep p n e → e ≡ d
same_definition p n d e h k = let same : found e ≡ found d = sym k.defined ∙ h.defined in cc

agree_step : (p : Project) (n : ℕ) (s t : Status) (x y : List ℕ) → Absent p n s x ⊎ Present p n s x → Absent p n t y ⊎ Present p n t y → Are s x t y
agree_step p n s t x y (inl h) (inl k) = both_are s t _ x y _ h.says k.says
agree_step p n s t x y (inl h) (inr k) = absurd (no_test (is_among p.steps n) k.step.among h.absent)
agree_step p n s t x y (inr h) (inl k) = absurd (no_test (is_among p.steps n) h.step.among k.absent)
agree_step p n s t x y (inr h) (inr k) =
    both_are s t _ x y _ h.says (k.says.0, k.says.1 ∙ ap (λ (d : Def). blocks_text (path_of d)) (same_definition p n h.definition k.definition h.step k.step))

-- a run has one ending
one_ending : (r : Rules) (limit : ℕ) (t : List Entry) (a b : Ending) → EndsSo r limit t a → EndsSo r limit t b → a ≡ b
one_ending r limit t endings.Done endings.Done h k = refl
one_ending r limit t endings.Done endings.Blocked h k = absurd (k.not_whole h.whole)
one_ending r limit t endings.Done endings.Limit h k = absurd (k.not_done h)
one_ending r limit t endings.Blocked endings.Done h k = absurd (h.not_whole k.whole)
one_ending r limit t endings.Blocked endings.Blocked h k = refl
one_ending r limit t endings.Blocked endings.Limit h k = absurd (k.not_blocked h)
one_ending r limit t endings.Limit endings.Done h k = absurd (h.not_done k)
one_ending r limit t endings.Limit endings.Blocked h k = absurd (h.not_blocked k)
one_ending r limit t endings.Limit endings.Limit h k = refl

agree_run : (p : Project) (edits : List Edit) (channels : List ℕ) (limit : ℕ) (s t : Status) (x y : List ℕ) → Ran p edits channels limit s x → Ran p edits channels limit t y → Are s x t y
agree_run p edits channels limit s t x y h k =
    let log = replayed p edits channels limit in
    let same : k.ending ≡ h.ending = one_ending (rules_of p.entities edits) limit log k.ending h.ending k.run.ends h.run.ends in
    both_are s t _ x y _ h.says (k.says.0 ∙ ap ending_status same, k.says.1 ∙ ap (λ (ending : Ending). text_of log ending) same)

agree_case : (p : Project) (edits : List Edit) (steps start : ℕ) (s t : Status) (x y : List ℕ) → Counted p edits steps start s x → Counted p edits steps start t y → Are s x t y
agree_case p edits steps start s t x y h k =
    let log = replayed p edits [] case_limit in
    let same : k.ending ≡ h.ending = one_ending (rules_of p.entities edits) case_limit log k.ending h.ending k.run.ends h.run.ends in
    both_are s t _ x y _ h.says (k.says.0, k.says.1 ∙ ap (λ (ending : Ending). counts_line steps start ending (counts_of log)) same)

agree_check : Laws → (p : Project) (edits : List Edit) (log : List Entry) (ending : Ending) (s t : Status) (x y : List ℕ) → Judged p edits log ending s x → Judged p edits log ending t y → Are s x t y
agree_check laws p edits log ending s t x y h k =
    let same : k.finding ≡ h.finding = laws.one_finding (rules_of p.entities edits) log ending k.finding h.finding k.is h.is in
    both_are s t _ x y _ h.says (k.says.0 ∙ ap finding_status same, k.says.1 ∙ ap finding_line same)

follow_one : Laws → (m : Meaning) (g : Given) (s t : Status) (x y : List ℕ) → Follows m g s x → Follows m g t y → Are s x t y
follow_one laws (Replay name script schedule limit) (All p edits channels) s t x y h k = agree_run p edits channels limit s t x y h k
follow_one laws (Replay name script schedule limit) (NoSchedule reason) s t x y h k = both_are s t _ x y _ h k
follow_one laws (Replay name script schedule limit) (NoScript reason) s t x y h k = both_are s t _ x y _ h k
follow_one laws (Replay name script schedule limit) (NoProject reason) s t x y h k = both_are s t _ x y _ h k
follow_one laws (Path name n) (All p edits channels) s t x y h k = agree_step p n s t x y h k
follow_one laws (Path name n) (NoScript reason) s t x y h k = absurd h
follow_one laws (Path name n) (NoSchedule reason) s t x y h k = absurd h
follow_one laws (Path name n) (NoProject reason) s t x y h k = both_are s t _ x y _ h k
follow_one laws (Big steps start) (All p edits channels) s t x y h k = agree_case p edits steps start s t x y h k
follow_one laws (Big steps start) (NoScript reason) s t x y h k = both_are s t _ x y _ h k
follow_one laws (Big steps start) (NoSchedule reason) s t x y h k = absurd h
follow_one laws (Big steps start) (NoProject reason) s t x y h k = both_are s t _ x y _ h k
follow_one laws (Replay name script schedule limit) (NoLog reason) s t x y h k = absurd h
follow_one laws (Replay name script schedule limit) (Logged p edits log ending) s t x y h k = absurd h
follow_one laws (Path name n) (NoLog reason) s t x y h k = absurd h
follow_one laws (Path name n) (Logged p edits log ending) s t x y h k = absurd h
follow_one laws (Big steps start) (NoLog reason) s t x y h k = absurd h
follow_one laws (Big steps start) (Logged p edits log ending) s t x y h k = absurd h
follow_one laws (Check name script log) (Logged p edits entries ending) s t x y h k = agree_check laws p edits entries ending s t x y h k
follow_one laws (Check name script log) (NoLog reason) s t x y h k = both_are s t _ x y _ h k
follow_one laws (Check name script log) (All p edits channels) s t x y h k = absurd h
follow_one laws (Check name script log) (NoSchedule reason) s t x y h k = absurd h
follow_one laws (Check name script log) (NoScript reason) s t x y h k = both_are s t _ x y _ h k
follow_one laws (Check name script log) (NoProject reason) s t x y h k = both_are s t _ x y _ h k
follow_one laws Help g s t x y h k = both_are s t _ x y _ h k
follow_one laws Version g s t x y h k = both_are s t _ x y _ h k
follow_one laws (Bad place) g s t x y h k = both_are s t _ x y _ h k

-- what follows of causes that are known follows of an answer
follows_of : OneMeaning → Laws → (ws : List (List ℕ)) (holds : List ℕ → Option (List ℕ)) (m : Meaning) (g : Given) (s : Status) (x : List ℕ)
    → Mean ws m → Read holds m g → Caused ws holds s x → Follows m g s x
follows_of one_meaning laws ws holds m g s x means read k =
    let same : k.meaning ≡ m = one_meaning ws k.meaning m k.means means in
    let read_same : Read holds m k.given = subst (λ (o : Meaning). Read holds o k.given) same k.read in
    let given : k.given ≡ g = read_one laws holds m k.given g read_same read in
    let follows : Follows m k.given s x = subst (λ (o : Meaning). Follows o k.given s x) same k.follows in
    subst (λ (f : Given). Follows m f s x) given follows

-- right answers are the same
pub one_answer : OneMeaning → Laws → (ws : List (List ℕ)) (holds : List ℕ → Option (List ℕ)) (s t : Status) (x y : List ℕ) → IsTold ws holds → IsRight ws holds s x → IsRight ws holds t y
    → (s ≡ t) × (x ≡ y)
one_answer one_meaning laws ws holds s t x y told h k =
    let first = caused ws holds s x told h in
    follow_one laws first.meaning first.given s t x y first.follows
    (follows_of one_meaning laws ws holds first.meaning first.given t y first.means first.read (caused ws holds t y told k))

-- where nothing failed and memory didn't run out, the status and what was written are right
right_or_none : {F : Type 0} (ws : List (List ℕ)) (before after : Outside F) (s : Status) → NoneFailed before after → Answered ws before after s
    → (s ≡ statuses.NoMemory) ⊎ ((x : List ℕ) × IsRight ws before.holds s x × Writes before after x)
right_or_none ws before after statuses.ReadFault fine is = absurd (fine.reads is.0.name is.0.failed)
right_or_none ws before after statuses.WriteFault fine is = absurd (fine.puts is.3.failed)
right_or_none ws before after statuses.NoMemory fine is = inl refl
right_or_none ws before after statuses.Done fine is = inr is
right_or_none ws before after statuses.Blocked fine is = inr is
right_or_none ws before after statuses.RunLimit fine is = inr is
right_or_none ws before after statuses.Written fine is = inr is
right_or_none ws before after (statuses.BadWords place) fine is = inr is
right_or_none ws before after (statuses.ProjectRefused reason) fine is = inr is
right_or_none ws before after (statuses.ScriptRefused reason) fine is = inr is
right_or_none ws before after (statuses.Illegal place) fine is = inr is
right_or_none ws before after (statuses.LogRefused reason) fine is = inr is

-- a replay of good files is complete
pub complete : {F : Type 0} → OneMeaning → Laws → (ws : List (List ℕ)) (before after : Outside F) (s : Status) (name script schedule channels : List ℕ) (limit : ℕ) (p : Project) (edits : List Edit)
    → IsTold ws before.holds → IsReplay ws name script schedule limit → HoldsProject before.holds name p → IsScripted before.holds script edits → IsScheduled before.holds schedule channels → NoneFailed before after
    → Answered ws before after s → (s ≡ statuses.NoMemory) ⊎ Completes p edits channels limit before after s
complete one_meaning laws ws before after s name script schedule channels limit p edits told asked held scripted scheduled fine is =
    elim (right_or_none ws before after s fine is) [
      | inl none ↦ inl none
      | inr right ↦
          let ran : Ran p edits channels limit s right.0 =
          follows_of one_meaning laws ws before.holds (Replay name script schedule limit) (All p edits channels) s right.0 asked
          (gives_all ws before.holds name script schedule channels limit p edits told asked held scripted scheduled) (caused ws before.holds s right.0 told right.1) in
          inr (record { ending = ran.ending; says = ran.says.0; run = ran.run; written = subst (λ (x : List ℕ). Writes before after x) ran.says.1 right.2 })
    ]
