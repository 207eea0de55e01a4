use Rattle.std.proofs.Common.{◌≡◌, ◌++◌, List, drop}
use Rattle.std.specs.List.{filter}
use Rattle.exec_tree.specs.Exec.{has}
use Rattle.exec_tree.specs.Arena.{numbers_in}
use Rattle.trace_law.specs.Below.{tree_in}
use Rattle.trace_law.specs.Next.{next}
use Rattle.run_log.specs.declared.entry.Entry.{Entry}
use Rattle.run_frames.specs.Standing.{IsAt}
use Rattle.trace_check.proofs.deciding.going_on.Given as goal

abbrev pub invariant-loop-place : goal.invariant-loop-place
invariant-loop-place l = (t : List Entry) → IsAt l.tree.nodes l.frames t → l.numbers ++ filter (has (next (tree_in l.tree) t)) (numbers_in (drop l.place l.tree.nodes)) ≡ next (tree_in l.tree) t
