-- How the store of plans has the steps ahead.
use Rattle.std.specs.Prelude.{◌≡◌, List, Option, map}
use Rattle.path_blocks.specs.declared.def.Def.{Def}
use Rattle.plan_store.specs.declared.ticket.Ticket.{Ticket}
use Rattle.plan_store.specs.StepAhead.{StepAhead, ticket_of, plan_of}
use Rattle.plan_store.specs.Windows.{AreWindows}

-- the tickets in one row and the plans in another, of steps that stand in windows
pub record Holds (tickets : List Ticket) (plans : List (Option Def)) (all : List StepAhead) : Type 0 where
  pub tickets_are : tickets ≡ map ticket_of all
  pub plans_are : plans ≡ map plan_of all
  pub windows : AreWindows all
