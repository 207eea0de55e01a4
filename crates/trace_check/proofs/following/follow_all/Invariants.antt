use Rattle.std.proofs.Common.{take}
use Rattle.run_frames.specs.Standing.{IsAt}
use Rattle.trace_check.proofs.following.follow_all.Given as goal

abbrev pub invariant-loop-i : goal.invariant-loop-i
invariant-loop-i g l = IsAt l.tree.nodes l.frames (take l.i l.t)
