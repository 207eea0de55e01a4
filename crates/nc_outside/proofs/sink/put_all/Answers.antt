use Rattle.std.proofs.Common.{arith}
use Rattle.nc_outside.proofs.Pieces.{both, longer}
use Rattle.nc_outside.proofs.sink.put_all.Goals as goal

pub loop-from-preserved : goal.loop-from-preserved
loop-from-preserved g c = record {
  within = longer c.args.piece.now c.loop-from.from c.in_ok-taken.taken (omega arith) c.in_ok-taken.ensures.within;
  counted = omega (arith, c.loop-from.invariant.counted, c.put.ensures.counted);
  taken = both _ _ _ c.args.piece.now c.loop-from.from c.in_ok-taken.taken c.loop-from.invariant.taken c.in_ok-taken.ensures.taken_front;
}
