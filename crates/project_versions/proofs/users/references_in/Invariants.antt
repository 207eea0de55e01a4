use Rattle.std.proofs.Common.{◌≡◌, ◌+◌, drop}
use Rattle.project_versions.specs.Users.{uses_count}
use Rattle.project_versions.proofs.users.references_in.Given as goal

-- what is counted and what is left are all
abbrev pub invariant-loop-entity : goal.invariant-loop-entity
invariant-loop-entity l = l.count + uses_count (drop l.entity-index l.entities) ≡ uses_count l.entities
