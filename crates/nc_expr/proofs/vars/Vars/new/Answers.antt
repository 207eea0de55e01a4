use Rattle.nc_expr.proofs.VarsLemmas.{put_on}
use Rattle.nc_expr.proofs.vars.Vars.new.Goals as goal

pub loop-pair-preserved : goal.loop-pair-preserved
loop-pair-preserved c =
    put_on c.loop-pair.values c.put.new.values c.args.opening.now c.loop-pair.pair-index c.loop-pair-test.true c.loop-pair.invariant c.in_ok-put.ensures
