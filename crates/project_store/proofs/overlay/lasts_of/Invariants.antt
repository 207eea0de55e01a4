use Rattle.std.proofs.Common.{take}
use Rattle.project_store.specs.Lasts.{AreLasts}
use Rattle.project_store.proofs.overlay.lasts_of.Given as goal

-- the places of the last ones of the items so far
abbrev pub invariant-loop-i : goal.invariant-loop-i
invariant-loop-i l = AreLasts (take l.i l.items) l.lasts
