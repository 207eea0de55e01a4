use Rattle.std.proofs.Common.{◌-◌, ◌^◌}
use Rattle.project_store.specs.Inserts.{AreMembers}
use Rattle.project_versions.proofs.BackwardLemmas.{Backward}
use Rattle.project_versions.proofs.backward.leading.Given as goal

abbrev pub invariant-loop-next : goal.invariant-loop-next
invariant-loop-next l = record { back : Backward l.store l.items l.set.order.items l.next; members : AreMembers l.set.order.items l.set.members }

-- a list has fewer members
abbrev pub decreases-loop-next : goal.decreases-loop-next
decreases-loop-next l = 2 ^ 64 - l.next
