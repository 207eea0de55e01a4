use Rattle.std.proofs.Common.{◌-◌, ◌^◌}
use Rattle.project_store.specs.Inserts.{AreMembers}
use Rattle.project_store.proofs.Reaching.{Grows}
use Rattle.project_store.proofs.reach.reached.Given as goal

abbrev pub invariant-loop-next : goal.invariant-loop-next
invariant-loop-next g l = record { grows : Grows (g.E.Entities.entities l.entities) l.n l.set.order.items l.next; members : AreMembers l.set.order.items l.set.members }

-- a list has fewer members
abbrev pub decreases-loop-next : goal.decreases-loop-next
decreases-loop-next g l = 2 ^ 64 - l.next
