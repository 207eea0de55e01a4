use Rattle.std.proofs.Common.{◌≡◌, map, take}
use Rattle.exec_tree.specs.Said.{bare_of}
use Rattle.run_frames.specs.Told.{rooms_of}
use Rattle.run_frames.proofs.cells.rooms_of.Given as goal

abbrev pub invariant-loop-node : goal.invariant-loop-node
invariant-loop-node l = l.rooms.items ≡ rooms_of (map bare_of (take l.node-index l.arena))
