-- How far the plan of a step ahead is.
use Rattle.std.specs.Prelude.{Option, Some, None, Bool, true, false}
use Rattle.path_blocks.specs.declared.def.Def.{Def}
use Rattle.plan_store.specs.declared.ticket.TicketState.{TicketState}
use Rattle.plan_store.specs.declared.ticket.TicketState.TheVariants.{Waiting, Handed, Kept}

-- no planner was asked for the plan yet, one was, or the plan is there, made of this definition
pub data Stage : Type 0 where
  Wanted : Stage
  Asked : Stage
  Held : Def → Stage

-- as the ticket tells it
abbrev pub state_of : Stage → TicketState
state_of Wanted = Waiting
state_of Asked = Handed
state_of (Held d) = Kept

-- the plan that is there, seen as the definition that it was made of
abbrev pub plan_at : Stage → Option Def
plan_at Wanted = None
plan_at Asked = None
plan_at (Held d) = Some d

-- the stage that state and plan tell together
abbrev pub stage_of : TicketState → Option Def → Stage
stage_of Waiting plan = Wanted
stage_of Handed plan = Asked
stage_of Kept None = Asked
stage_of Kept (Some d) = Held d

-- the state of a ticket that no planner was asked about yet
abbrev pub is_waiting : TicketState → Bool
is_waiting Waiting = true
is_waiting Handed = false
is_waiting Kept = false

-- the state of one whose plan is there
abbrev pub is_kept : TicketState → Bool
is_kept Waiting = false
is_kept Handed = false
is_kept Kept = true
