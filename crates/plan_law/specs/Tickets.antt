-- The tickets of a run: those of the steps ahead, each at its present version.
use Rattle.std.specs.Prelude.{◌≡◌, ◌==◌, ◌<◌, ℕ, if◌then◌else◌, List, Option, Some, None, IfSome, map, slice_get}
use Rattle.std.specs.List.{All}
use Rattle.path_blocks.specs.declared.def.Def.{Def}
use Rattle.run_log.specs.declared.entry.Entry.{Entry}
use Rattle.run_law.specs.Rules.{Rules}
use Rattle.run_law.specs.Ahead.{ahead, steps_of, unsent}
use Rattle.plan_store.specs.declared.limits.TheConstants.{WINDOW_CHANNELS}
use Rattle.plan_store.specs.Stage.{Wanted, plan_at}
use Rattle.plan_store.specs.StepAhead.{StepAhead, window, told, placed, taken}

-- of each channel they are those of the steps ahead, each at its present version, and each plan that is there of its step's present definition
pub record AreTickets (r : Rules) (definition : ℕ → Option Def) (t : List Entry) (all : List StepAhead) : Type 0 where
  pub steps : (c : ℕ) → c < WINDOW_CHANNELS → map (λ a. a.step) (window all c) ≡ ahead r t c
  pub versions : All (λ a. a.version ≡ r.version t a.step) all
  pub present : All (λ a. IfSome (plan_at a.stage) (λ d. definition a.step ≡ Some d)) all

-- the step that comes into a channel's window when one of its steps leaves it: the fifth
abbrev pub next_in : Rules → List Entry → ℕ → Option ℕ
next_in r t c = slice_get (unsent t (steps_of r t c)) 4

-- the tickets when a step comes into the window of a channel, where there is one
abbrev pub joined : (ℕ → ℕ) → List StepAhead → ℕ → Option ℕ → List StepAhead
joined version all c None = all
joined version all c (Some m) = placed all m c (version m)

-- the tickets when a step leaves the window of a channel, and the next one comes in where there is one
abbrev pub moved : (ℕ → ℕ) → List StepAhead → ℕ → ℕ → Option ℕ → List StepAhead
moved version all n c next = joined version (taken all n) c next

-- an entry that leaves the channels' steps and the versions, as every entry but an accepted edit does
pub record LeavesSteps (r : Rules) (t u : List Entry) : Type 0 where
  pub same_steps : (c : ℕ) → steps_of r u c ≡ steps_of r t c
  pub same_versions : (m : ℕ) → r.version u m ≡ r.version t m

-- the same steps, each at the version that this tells: a ticket of another version waits again, without its plan
abbrev pub renewal : (ℕ → ℕ) → StepAhead → StepAhead
renewal version a = if a.version == version a.step then a else told (version a.step) Wanted a

abbrev pub all_renewed : (ℕ → ℕ) → List StepAhead → List StepAhead
all_renewed version all = map (renewal version) all
