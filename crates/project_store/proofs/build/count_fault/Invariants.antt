use Rattle.std.proofs.Common.{◌≡◌, drop}
use Rattle.project_store.specs.Build.{projects_of, count_fault}
use Rattle.project_store.proofs.Counting.{fault_after}
use Rattle.project_store.proofs.build.count_fault.Given as goal

-- what is seen, and the projects that are left, give what all give
abbrev pub invariant-loop-entity : goal.invariant-loop-entity
invariant-loop-entity l = fault_after l.seen (projects_of (drop l.entity-index l.entities)) ≡ count_fault (projects_of l.entities)
