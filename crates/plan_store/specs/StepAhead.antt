-- Steps ahead: those that are planned before they are dispatched, each with its ticket and, once it is there, its plan.
use Rattle.std.specs.Prelude.{ℕ, ◌==◌, ◌++◌, Bool, not, List, [], ◌∷◌, Option, Some, None, option_and_then, nat_le, nat_lt, map, filter, find, if◌then◌else◌}
use Rattle.std.specs.Option.{option_map}
use Rattle.path_blocks.specs.declared.def.Def.{Def}
use Rattle.plan_store.specs.declared.ticket.Ticket.{Ticket}
use Rattle.plan_store.specs.Stage.{Stage, Wanted, Asked, Held, state_of, stage_of, plan_at, is_waiting}

-- a step ahead: its channel, the version that its plan is to be of, and how far the plan is
pub record StepAhead : Type 0 where
  pub step : ℕ
  pub channel : ℕ
  pub version : ℕ
  pub stage : Stage

-- its ticket
abbrev pub ticket_of : StepAhead → Ticket
ticket_of a = record { step = a.step; channel = a.channel; version = a.version; state = state_of a.stage }

-- its plan, where that is there
abbrev pub plan_of : StepAhead → Option Def
plan_of a = plan_at a.stage

-- what a ticket and the plan beside it stand for
abbrev pub ahead_of : Ticket → Option Def → StepAhead
ahead_of t plan = record { step = t.step; channel = t.channel; version = t.version; stage = stage_of t.state plan }

-- the same of tickets in a row, each with the plan at its place
abbrev pub ahead_all : List Ticket → List (Option Def) → List StepAhead
ahead_all [] plans = []
ahead_all (t ∷ ts) [] = []
ahead_all (t ∷ ts) (plan ∷ plans) = ahead_of t plan ∷ ahead_all ts plans

-- it is this step
abbrev pub is_step : ℕ → StepAhead → Bool
is_step n a = a.step == n

-- its ticket waits
abbrev pub waits : StepAhead → Bool
waits a = is_waiting (ticket_of a).state

-- what is known of a step, where it is ahead
abbrev pub step_in : List StepAhead → ℕ → Option StepAhead
step_in all n = find (is_step n) all

-- its ticket, where it has one
abbrev pub ticket_in : List StepAhead → ℕ → Option Ticket
ticket_in all n = option_map ticket_of (step_in all n)

-- the plan of a step that is ahead, where that is there
abbrev pub plan_in : List StepAhead → ℕ → Option Def
plan_in all n = option_and_then plan_of (step_in all n)

-- the steps ahead of a channel
abbrev pub window : List StepAhead → ℕ → List StepAhead
window all c = filter (λ a. a.channel == c) all

-- those of the channels up to this one, and those of the channels behind it
abbrev pub up_to : List StepAhead → ℕ → List StepAhead
up_to all c = filter (λ a. nat_le a.channel c) all

abbrev pub behind : List StepAhead → ℕ → List StepAhead
behind all c = filter (λ a. nat_lt c a.channel) all

-- a step whose plan is wanted
abbrev pub wanted : ℕ → ℕ → ℕ → StepAhead
wanted n c v = record { step = n; channel = c; version = v; stage = Wanted }

-- the same steps, with what f makes of one of them
abbrev pub changed : ℕ → (StepAhead → StepAhead) → List StepAhead → List StepAhead
changed n f all = map (λ a. if is_step n a then f a else a) all

-- the same step at this version, with its plan at this stage
abbrev pub told : ℕ → Stage → StepAhead → StepAhead
told v s a = record { step = a.step; channel = a.channel; version = v; stage = s }

-- a planner was asked for its plan
abbrev pub asked : StepAhead → StepAhead
asked a = told a.version Asked a

-- the plan of this definition is there
abbrev pub with_plan : Def → StepAhead → StepAhead
with_plan d a = told a.version (Held d) a

-- a step more, behind the others of its channel
abbrev pub placed : List StepAhead → ℕ → ℕ → ℕ → List StepAhead
placed all n c v = up_to all c ++ wanted n c v ∷ behind all c

-- one of the steps at another version, to be planned anew
abbrev pub renewed : List StepAhead → ℕ → ℕ → List StepAhead
renewed all n v = changed n (told v Wanted) all

-- the first whose ticket waits
abbrev pub first_waiting : List StepAhead → Option StepAhead
first_waiting all = find waits all

-- a planner was asked for this one's plan
abbrev pub asked_for : List StepAhead → Option StepAhead → List StepAhead
asked_for all None = all
asked_for all (Some a) = changed a.step asked all

-- a planner was asked for the plan of the first whose ticket waits
abbrev pub handed : List StepAhead → List StepAhead
handed all = asked_for all (first_waiting all)

-- the plan of one of the steps is there
abbrev pub kept : List StepAhead → ℕ → Def → List StepAhead
kept all n d = changed n (with_plan d) all

-- the others
abbrev pub taken : List StepAhead → ℕ → List StepAhead
taken all n = filter (λ a. not (is_step n a)) all
