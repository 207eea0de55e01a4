use Rattle.std.proofs.Common.{◌≡◌, [], take, drop}
use Rattle.trace_law.specs.Stray.{first_stray}
use Rattle.trace_law.specs.Below.{tree_in}
use Rattle.trace_law.proofs.deciding.first_stray.Given as goal

abbrev pub invariant-loop-i : goal.invariant-loop-i
invariant-loop-i l = first_stray (tree_in l.tree) [] l.t ≡ first_stray (tree_in l.tree) (take l.i l.t) (drop l.i l.t)
