use Rattle.std.proofs.Common.{take}
use Rattle.pick_set.specs.Rows.{AreLaidOut}
use Rattle.pick_set.proofs.layout.lay_out.Given as goal

abbrev pub invariant-loop-room : goal.invariant-loop-room
invariant-loop-room l = AreLaidOut (take l.room-index l.rooms) l.rows.items l.base
