use Rattle.std.proofs.Common.{◌≤◌}
use Rattle.p21_parse.specs.declared.limits.TheConstants.{MAX_NESTING}
use Rattle.p21_parse.specs.Nesting.{instance_nesting}
use Rattle.p21_parse.specs.View.{instance_of}
use Rattle.p21_parse.proofs.Fit.{refused_at}
use Rattle.p21_print.proofs.shallow.instances_are_shallow.Goals as goal

pub returns-then-not-instance_is_shallow : goal.returns-then-not-instance_is_shallow
returns-then-not-instance_is_shallow c =
    refused_at instance_of (λ i. instance_nesting i ≤ MAX_NESTING) c.args.instances.now c.loop-instance.instance-index c.instance-item.result c.instance_is_shallow.result c.loop-instance-test.true c.instance-item.is c.if-not-instance_is_shallow.true
    c.instance_is_shallow.ensures
