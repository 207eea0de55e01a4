use Rattle.std.proofs.Common.{◌-◌, ◌+◌, ◌≤◌, vec_len}
use Rattle.nc_outside.proofs.host.read_file.Given as goal

abbrev pub invariant-loop-block : goal.invariant-loop-block
invariant-loop-block g l = vec_len l.room ≤ l.most + 1

abbrev pub decreases-loop-block : goal.decreases-loop-block
decreases-loop-block g l = l.most + 1 - vec_len l.room
