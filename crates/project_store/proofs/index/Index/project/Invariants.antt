use Rattle.std.proofs.Common.{◌≡◌, drop}
use Rattle.project_store.specs.Build.{projects_of}
use Rattle.project_store.proofs.index.Index.project.Given as goal

-- all projects are still to come
abbrev pub invariant-loop-i : goal.invariant-loop-i
invariant-loop-i l = projects_of (drop l.i l.self) ≡ projects_of l.self
