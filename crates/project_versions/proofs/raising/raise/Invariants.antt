use Rattle.std.proofs.Common.{take}
use Rattle.project_versions.specs.Kept.{Raises}
use Rattle.project_versions.proofs.raising.raise.Given as goal

-- the versions of the steps so far are raised
abbrev pub invariant-loop-step : goal.invariant-loop-step
invariant-loop-step l = Raises l.order.order l.initial.versions.items l.versions.items (take l.step-index l.steps)
