use Rattle.std.proofs.Common.{◌≡◌, drop}
use Rattle.project_store.specs.Build.{lesser, least_fault, missing_reference}
use Rattle.project_store.proofs.build.least_missing.Given as goal

-- the least so far and the least of what is left give the least of all
abbrev pub invariant-loop-i : goal.invariant-loop-i
invariant-loop-i l = lesser l.least (least_fault (missing_reference l.index) (drop l.i l.index)) ≡ least_fault (missing_reference l.index) l.index
