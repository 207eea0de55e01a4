use Rattle.std.proofs.Common.{◌-◌, ◌≤◌, length, take}
use Rattle.nc_outside.specs.Outside.{Appends}
use Rattle.nc_outside.proofs.sink.put_all.Given as goal

abbrev pub invariant-loop-from : goal.invariant-loop-from
invariant-loop-from g l = record {
  within : l.from ≤ length l.piece;
  counted : g.S.Sink.faults l.initial.sink ≤ g.S.Sink.faults l.sink;
  taken : Appends (g.S.Sink.taken l.initial.sink) (g.S.Sink.taken l.sink) (take l.from l.piece);
}

abbrev pub decreases-loop-from : goal.decreases-loop-from
decreases-loop-from g l = length l.piece - l.from
