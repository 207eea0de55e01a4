use Rattle.std.proofs.Common.{◌≡◌, drop}
use Rattle.project_store.specs.Build.{lesser, least_fault, wrong_position}
use Rattle.project_store.proofs.build.least_wrong.Given as goal

-- the least so far and the least of what is left give the least of all
abbrev pub invariant-loop-i : goal.invariant-loop-i
invariant-loop-i l = lesser l.least (least_fault (wrong_position l.index) (drop l.i l.index)) ≡ least_fault (wrong_position l.index) l.index
