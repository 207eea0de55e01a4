-- What is said is right.
use Rattle.std.proofs.Common.{◌≡◌, ℕ, List, [], Option, Result, Ok, Err, refl, sym, ap, subst, ◌∙◌, inl, inr}
use Rattle.std.specs.Prelude.{IfSome, false}
use Rattle.run_log.specs.declared.entry.Entry.{Entry}
use Rattle.run_log.specs.declared.entry.Ending.{Ending}
use Rattle.run_log.specs.declared.entry.Ending.TheVariants as endings
use Rattle.project_read.specs.declared.reason.ProjectReason.{ProjectReason}
use Rattle.project_read.specs.declared.reason.ProjectReason.TheVariants as reasons
use Rattle.edit_rules.specs.Faults.{is_among}
use Rattle.project_read.specs.Holds.{Project, Holds}
use Rattle.project_read.specs.Refuses.{Refuses}
use Rattle.controller.specs.declared.counting.Counts.{Counts}
use Rattle.controller.specs.Counts.{counts_of, counts_line}
use Rattle.controller.specs.Case.{case_project, case_limit}
use Rattle.controller.specs.declared.answer.Answer.{Answer}
use Rattle.controller.specs.declared.answer.Answer.TheVariants as answers
use Rattle.controller.specs.declared.answer.Stop.{Stop}
use Rattle.controller.specs.declared.answer.Stop.TheVariants as stops
use Rattle.controller.specs.declared.status.Status.{Status}
use Rattle.controller.specs.declared.status.Status.TheVariants as statuses
use Rattle.controller.specs.Words.{IsReplay, IsPath, IsBig, IsCheck, NamesProject}
use Rattle.controller.specs.Outside.{Outside}
use Rattle.controller.specs.Asked.{IsLog, IsRefused, IsRight, replayed}
use Rattle.controller.specs.Answer.{answer_text, answer_status}
use Rattle.controller.specs.Answered.{Answered}
use Rattle.controller.specs.Calls.{IsRefusedFile, Replays, OrReplayStops, Shows, OrStops, CountsCase, OrNoMemory, Checks, OrCheckStops, IsAnswer, AnswersOrStops, IsPut}

-- what is refused of a named file is refused for the words
refused : (ws : List (List ℕ)) (holds : List ℕ → Option (List ℕ)) (name : List ℕ) (reason : ProjectReason) → NamesProject ws name → IsRefusedFile (holds name) reason → IsRefused ws holds reason
refused ws holds name (reasons.NoStep n) named is = absurd is.1
refused ws holds name reasons.TooLong named is = inl (record { name = name; named = named; refused = is.0 })
refused ws holds name (reasons.Read fault) named is = inl (record { name = name; named = named; refused = is.0 })
refused ws holds name (reasons.Attribute fault) named is = inl (record { name = name; named = named; refused = is.0 })
refused ws holds name (reasons.Store fault) named is = inl (record { name = name; named = named; refused = is.0 })
refused ws holds name (reasons.Tree fault) named is = inl (record { name = name; named = named; refused = is.0 })
refused ws holds name (reasons.Definition n fault) named is = inl (record { name = name; named = named; refused = is.0 })

is_log : (ws : List (List ℕ)) (holds : List ℕ → Option (List ℕ)) (name script schedule : List ℕ) (limit : ℕ) (t : List Entry) (ending : Ending) → IsReplay ws name script schedule limit
    → Replays holds name script schedule limit (answers.Ran t ending) → IsLog ws holds t ending
is_log ws holds name script schedule limit t ending asked is = record {
  name = name;
  script = script;
  schedule = schedule;
  limit = limit;
  asked = asked;
  project = is.0;
  held = is.1;
  edits = is.2;
  scripted = is.3;
  channels = is.4.0;
  scheduled = is.4.1;
  run = is.4.2;
  replayed_so = is.4.3;
}

-- what comes of a replay of the files that the words name is right for them
replay_right : (ws : List (List ℕ)) (holds : List ℕ → Option (List ℕ)) (name script schedule : List ℕ) (limit : ℕ) (a : Answer) → IsReplay ws name script schedule limit → Replays holds name script schedule limit a
    → IsAnswer ws holds a
replay_right ws holds name script schedule limit (answers.BadWords place) asked is = absurd is
replay_right ws holds name script schedule limit answers.Help asked is = absurd is
replay_right ws holds name script schedule limit answers.Version asked is = absurd is
replay_right ws holds name script schedule limit (answers.Refused reason) asked is = (refused ws holds name reason (inl (script, schedule, limit, asked)) is, refl)
replay_right ws holds name script schedule limit (answers.ScriptRefused reason) asked (p, held, inl is) =
    (inl (record { name = name; script = script; schedule = schedule; limit = limit; asked = asked; project = p; held = held; unscripted = is }), refl)
replay_right ws holds name script schedule limit (answers.ScriptRefused reason) asked (p, held, inr is) = (
  inr (inl (record {
    name = name;
    script = script;
    schedule = schedule;
    limit = limit;
    asked = asked;
    project = p;
    held = held;
    edits = is.0;
    scripted = is.1;
    unscheduled = is.2;
  })),
  refl,
)
replay_right ws holds name script schedule limit (answers.Ran t endings.Done) asked is = (t, is_log ws holds name script schedule limit t endings.Done asked is, refl)
replay_right ws holds name script schedule limit (answers.Ran t endings.Blocked) asked is = (t, is_log ws holds name script schedule limit t endings.Blocked asked is, refl)
replay_right ws holds name script schedule limit (answers.Ran t endings.Limit) asked is = (t, is_log ws holds name script schedule limit t endings.Limit asked is, refl)
replay_right ws holds name script schedule limit (answers.Shown d) asked is = absurd is
replay_right ws holds name script schedule limit (answers.Counted n from ending counts) asked is = absurd is
replay_right ws holds name script schedule limit (answers.Legal ending) asked is = absurd is
replay_right ws holds name script schedule limit (answers.Illegal place) asked is = absurd is
replay_right ws holds name script schedule limit (answers.LogRefused reason) asked is = absurd is

not_shown : (ws : List (List ℕ)) (holds : List ℕ → Option (List ℕ)) (name : List ℕ) (n : ℕ) (reason : ProjectReason) → IsPath ws name n → Shows (holds name) n (answers.Refused reason) → IsRefused ws holds reason
not_shown ws holds name n (reasons.NoStep m) asked is = record {
  name = name;
  asked = subst (λ (k : ℕ). IsPath ws name k) (sym is.0) asked;
  absent = subst (λ (k : ℕ). IfSome (holds name) (λ bytes. (p : Project) × Holds bytes p × (is_among p.steps k ≡ false))) (sym is.0) is.1;
}
not_shown ws holds name n reasons.TooLong asked is = refused ws holds name reasons.TooLong (inr (inl (n, asked))) is
not_shown ws holds name n (reasons.Read fault) asked is = refused ws holds name (reasons.Read fault) (inr (inl (n, asked))) is
not_shown ws holds name n (reasons.Attribute fault) asked is = refused ws holds name (reasons.Attribute fault) (inr (inl (n, asked))) is
not_shown ws holds name n (reasons.Store fault) asked is = refused ws holds name (reasons.Store fault) (inr (inl (n, asked))) is
not_shown ws holds name n (reasons.Tree fault) asked is = refused ws holds name (reasons.Tree fault) (inr (inl (n, asked))) is
not_shown ws holds name n (reasons.Definition m fault) asked is = refused ws holds name (reasons.Definition m fault) (inr (inl (n, asked))) is

-- what comes of the path of a workingstep in the file that the words name is right for them
pub shown : (ws : List (List ℕ)) (holds : List ℕ → Option (List ℕ)) (name : List ℕ) (n : ℕ) (a : Answer) → IsPath ws name n → Shows (holds name) n a → IsAnswer ws holds a
shown ws holds name n (answers.BadWords place) asked is = absurd is
shown ws holds name n answers.Help asked is = absurd is
shown ws holds name n answers.Version asked is = absurd is
shown ws holds name n (answers.ScriptRefused reason) asked is = absurd is
shown ws holds name n (answers.Refused reason) asked is = (not_shown ws holds name n reason asked is, refl)
shown ws holds name n (answers.Ran t ending) asked is = absurd is
shown ws holds name n (answers.Shown d) asked is = inl (d, record { name = name; number = n; asked = asked; project = is.0; held = is.1; step = is.2 }, refl)
shown ws holds name n (answers.Counted m from ending counts) asked is = absurd is
shown ws holds name n (answers.Legal ending) asked is = absurd is
shown ws holds name n (answers.Illegal place) asked is = absurd is
shown ws holds name n (answers.LogRefused reason) asked is = absurd is

-- what is refused of the project of a large case is refused for the words that ask for it
no_case : (ws : List (List ℕ)) (holds : List ℕ → Option (List ℕ)) (steps start : ℕ) (reason : ProjectReason) → IsBig ws steps start → Refuses (case_project steps start) reason → IsRefused ws holds reason
no_case ws holds steps start (reasons.NoStep n) asked is = absurd is
no_case ws holds steps start reasons.TooLong asked is = inr (record { steps = steps; start = start; asked = asked; refused = is })
no_case ws holds steps start (reasons.Read fault) asked is = inr (record { steps = steps; start = start; asked = asked; refused = is })
no_case ws holds steps start (reasons.Attribute fault) asked is = inr (record { steps = steps; start = start; asked = asked; refused = is })
no_case ws holds steps start (reasons.Store fault) asked is = inr (record { steps = steps; start = start; asked = asked; refused = is })
no_case ws holds steps start (reasons.Tree fault) asked is = inr (record { steps = steps; start = start; asked = asked; refused = is })
no_case ws holds steps start (reasons.Definition n fault) asked is = inr (record { steps = steps; start = start; asked = asked; refused = is })

said : (n from steps start : ℕ) (ending : Ending) (counts sums : Counts) → n ≡ steps → from ≡ start → counts ≡ sums → counts_line n from ending counts ≡ counts_line steps start ending sums
said n from steps start ending counts sums e f g =
    ap (λ (k : ℕ). counts_line k from ending counts) e ∙ ap (λ (k : ℕ). counts_line steps k ending counts) f ∙ ap (counts_line steps start ending) g

-- what comes of a large case is right for the words that ask for it
counted : (ws : List (List ℕ)) (holds : List ℕ → Option (List ℕ)) (steps start : ℕ) (a : Answer) → IsBig ws steps start → CountsCase steps start a → IsAnswer ws holds a
counted ws holds steps start (answers.BadWords place) asked is = absurd is
counted ws holds steps start answers.Help asked is = absurd is
counted ws holds steps start answers.Version asked is = absurd is
counted ws holds steps start (answers.Refused reason) asked is = (no_case ws holds steps start reason asked is, refl)
counted ws holds steps start (answers.ScriptRefused reason) asked is = (inr (inr (inl (record { steps = steps; start = start; asked = asked; project = is.0; held = is.1; refused = is.2 }))), refl)
counted ws holds steps start (answers.Ran t ending) asked is = absurd is
counted ws holds steps start (answers.Shown d) asked is = absurd is
counted ws holds steps start (answers.Legal ending) asked is = absurd is
counted ws holds steps start (answers.Illegal place) asked is = absurd is
counted ws holds steps start (answers.LogRefused reason) asked is = absurd is
counted ws holds steps start (answers.Counted n from ending counts) asked is =
    inr (inl (record {
      steps = steps;
      start = start;
      asked = asked;
      project = is.0;
      held = is.1;
      edits = is.2;
      scripted = is.3;
      t = replayed is.0 is.2 [] case_limit;
      ending = ending;
      run = is.4.2;
      replayed_so = refl;
      says = said n from steps start ending counts (counts_of (replayed is.0 is.2 [] case_limit)) is.4.0 is.4.1 is.4.3;
    }))

-- what comes of a large case, or why nothing does, answers the words that ask for it
pub case_answers : (ws : List (List ℕ)) (holds : List ℕ → Option (List ℕ)) (before now : List ℕ → ℕ) (steps start : ℕ) (r : Result Answer Stop) → IsBig ws steps start → OrNoMemory (CountsCase steps start) r
    → AnswersOrStops ws holds before now r
case_answers ws holds before now steps start (Ok a) asked is = counted ws holds steps start a asked is
case_answers ws holds before now steps start (Err stops.ReadFault) asked is = absurd is
case_answers ws holds before now steps start (Err stops.NoMemory) asked is = tt

-- a status and a text that are right for the words, with what was put, are an answer to the words
pub answered : {F : Type 0} (ws : List (List ℕ)) (before after : Outside F) (a : Answer) (s : Status) → IsAnswer ws before.holds a → IsPut before.taken after.taken before.put_faults after.put_faults a s
    → Answered ws before after s
answered ws before after a statuses.ReadFault is put = absurd (subst (λ (s : Status). IsRight ws before.holds s (answer_text a)) put.0 is)
answered ws before after a statuses.NoMemory is put = absurd (subst (λ (s : Status). IsRight ws before.holds s (answer_text a)) put.0 is)
answered ws before after a statuses.WriteFault is put = (answer_status a, answer_text a, is, record { failed = put.0; front = put.1 })
answered ws before after a statuses.Done is put = (answer_text a, subst (λ (s : Status). IsRight ws before.holds s (answer_text a)) put.0 is, put.1)
answered ws before after a statuses.Blocked is put = (answer_text a, subst (λ (s : Status). IsRight ws before.holds s (answer_text a)) put.0 is, put.1)
answered ws before after a statuses.RunLimit is put = (answer_text a, subst (λ (s : Status). IsRight ws before.holds s (answer_text a)) put.0 is, put.1)
answered ws before after a statuses.Written is put = (answer_text a, subst (λ (s : Status). IsRight ws before.holds s (answer_text a)) put.0 is, put.1)
answered ws before after a (statuses.BadWords place) is put = (answer_text a, subst (λ (s : Status). IsRight ws before.holds s (answer_text a)) put.0 is, put.1)
answered ws before after a (statuses.Illegal place) is put = (answer_text a, subst (λ (s : Status). IsRight ws before.holds s (answer_text a)) put.0 is, put.1)
answered ws before after a (statuses.LogRefused reason) is put = (answer_text a, subst (λ (s : Status). IsRight ws before.holds s (answer_text a)) put.0 is, put.1)
answered ws before after a (statuses.ScriptRefused reason) is put = (answer_text a, subst (λ (s : Status). IsRight ws before.holds s (answer_text a)) put.0 is, put.1)
answered ws before after a (statuses.ProjectRefused reason) is put = (answer_text a, subst (λ (s : Status). IsRight ws before.holds s (answer_text a)) put.0 is, put.1)

-- what comes of a replay of the named files, or why nothing does, answers the words
pub replay_answers : (ws : List (List ℕ)) (holds : List ℕ → Option (List ℕ)) (before now : List ℕ → ℕ) (name script schedule : List ℕ) (limit : ℕ) (r : Result Answer Stop) → IsReplay ws name script schedule limit
    → OrReplayStops name script schedule before now (Replays holds name script schedule limit) r → AnswersOrStops ws holds before now r
replay_answers ws holds before now name script schedule limit (Ok a) asked is = replay_right ws holds name script schedule limit a asked is
replay_answers ws holds before now name script schedule limit (Err stops.ReadFault) asked (inl is) = (name, inl (inl (script, schedule, limit, asked)), is)
replay_answers ws holds before now name script schedule limit (Err stops.ReadFault) asked (inr (inl is)) = (script, inr (inl (inl (name, schedule, limit, asked, is.0))), is.1)
replay_answers ws holds before now name script schedule limit (Err stops.ReadFault) asked (inr (inr is)) = (schedule, inr (inr (inl (name, script, limit, asked, is.0))), is.1)
replay_answers ws holds before now name script schedule limit (Err stops.NoMemory) asked is = tt

pub path_answers : (ws : List (List ℕ)) (holds : List ℕ → Option (List ℕ)) (before now : List ℕ → ℕ) (name : List ℕ) (n : ℕ) (r : Result Answer Stop) → IsPath ws name n
    → OrStops (before name) (now name) (Shows (holds name) n) r → AnswersOrStops ws holds before now r
path_answers ws holds before now name n (Ok a) asked is = shown ws holds name n a asked is
path_answers ws holds before now name n (Err stops.ReadFault) asked is = (name, inl (inr (inl (n, asked))), is)
path_answers ws holds before now name n (Err stops.NoMemory) asked is = tt

-- what comes of a check of the files that the words name is right for them
check_right : (ws : List (List ℕ)) (holds : List ℕ → Option (List ℕ)) (name script log : List ℕ) (a : Answer) → IsCheck ws name script log → Checks holds name script log a → IsAnswer ws holds a
check_right ws holds name script log (answers.BadWords place) asked is = absurd is
check_right ws holds name script log answers.Help asked is = absurd is
check_right ws holds name script log answers.Version asked is = absurd is
check_right ws holds name script log (answers.Refused reason) asked is = (refused ws holds name reason (inr (inr (script, log, asked))) is, refl)
check_right ws holds name script log (answers.ScriptRefused reason) asked is =
    (inr (inr (inr (record { name = name; script = script; log = log; asked = asked; project = is.0; held = is.1; unscripted = is.2 }))), refl)
check_right ws holds name script log (answers.Ran t ending) asked is = absurd is
check_right ws holds name script log (answers.Shown d) asked is = absurd is
check_right ws holds name script log (answers.Counted n from ending counts) asked is = absurd is
check_right ws holds name script log (answers.Legal ending) asked is =
    inr (inr (inl (
      ending,
      record {
        name = name;
        script = script;
        log = log;
        asked = asked;
        project = is.0;
        held = is.1;
        edits = is.2;
        scripted = is.3;
        t = is.4.0;
        logged = is.4.1;
        legal = is.4.2;
      },
      refl,
    )))
check_right ws holds name script log (answers.Illegal place) asked is = (
  record {
    name = name;
    script = script;
    log = log;
    asked = asked;
    project = is.0;
    held = is.1;
    edits = is.2;
    scripted = is.3;
    t = is.4.0;
    ending = is.4.1;
    logged = is.4.2;
    wrong = is.4.3;
  },
  refl,
)
check_right ws holds name script log (answers.LogRefused reason) asked is =
    (record { name = name; script = script; log = log; asked = asked; project = is.0; held = is.1; edits = is.2; scripted = is.3; unlogged = is.4 }, refl)

-- what comes of a check of the named files, or why nothing does, answers the words
pub check_answers : (ws : List (List ℕ)) (holds : List ℕ → Option (List ℕ)) (before now : List ℕ → ℕ) (name script log : List ℕ) (r : Result Answer Stop) → IsCheck ws name script log
    → OrCheckStops name script log before now (Checks holds name script log) r → AnswersOrStops ws holds before now r
check_answers ws holds before now name script log (Ok a) asked is = check_right ws holds name script log a asked is
check_answers ws holds before now name script log (Err stops.ReadFault) asked (inl is) = (name, inl (inr (inr (script, log, asked))), is)
check_answers ws holds before now name script log (Err stops.ReadFault) asked (inr (inl is)) = (script, inr (inl (inr (name, log, asked, is.0))), is.1)
check_answers ws holds before now name script log (Err stops.ReadFault) asked (inr (inr is)) = (log, inr (inr (inr (name, script, asked))), is)
check_answers ws holds before now name script log (Err stops.NoMemory) asked is = tt
