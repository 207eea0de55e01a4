use Rattle.std.proofs.Common.{◌≡◌, ◌-◌, length}
use Rattle.project_versions.specs.Versioned.{version_of}
use Rattle.plan_window.proofs.RenewLemmas.{renewed_to}
use Rattle.plan_window.proofs.renewing.renew_all.Given as goal

-- the tickets so far are renewed
abbrev pub invariant-loop-index : goal.invariant-loop-index
invariant-loop-index l = l.store ≡ renewed_to (version_of l.versions.versions) l.index l.initial.store

abbrev pub decreases-loop-index : goal.decreases-loop-index
decreases-loop-index l = length l.initial.store - l.index
