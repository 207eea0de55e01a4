use Rattle.edit_script.proofs.Judging.{one_typed, one_untyped}
use Rattle.edit_script.proofs.judged.entities_of.Goals as goal

pub returns-in-Err : goal.returns-in-Err
returns-in-Err c =
    rw c.attribute.ensures (one_untyped c.args.index c.args.instances.now c.loop-instance.instance-index c.instance-item.result c.loop-instance.entities c.loop-instance-test.true c.instance-item.is c.loop-instance.invariant c.in-Err.e
    c.in-Err.ensures)

pub loop-instance-preserved : goal.loop-instance-preserved
loop-instance-preserved c =
    rw c.in_ok-push-in-Ok.ensures.ok (one_typed c.args.instances.now c.loop-instance.instance-index c.instance-item.result c.loop-instance.entities c.in-Ok.entity c.loop-instance-test.true c.instance-item.is
    c.loop-instance.invariant c.in-Ok.ensures)
