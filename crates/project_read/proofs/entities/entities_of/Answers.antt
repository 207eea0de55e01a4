use Rattle.std.proofs.Common.{◌≡◌, List, map, Ok, subst, arith}
use Rattle.std.proofs.lemmas.Result.{err_from_is_err_and}
use Rattle.std.proofs.lemmas.List.{take_all}
use Rattle.p21_parse.specs.declared.exchange.Instance.{Instance}
use Rattle.p21_parse.specs.View.{instance_of}
use Rattle.entity_read.specs.Typed.{entity_of}
use Rattle.project_read.specs.Typing.{all_typed}
use Rattle.project_read.proofs.Typing.{one_typed, one_untyped, typed_numbers}
use Rattle.project_read.proofs.entities.entities_of.Goals as goal

pub returns-in_err-entity : goal.returns-in_err-entity
returns-in_err-entity c =
    let p = err_from_is_err_and c.from_residual-in_err-entity.result c.from_residual-in_err-entity.ensures.1 in
    rw (p.1, p.2) (one_untyped c.args.instances.now c.loop-instance.instance-index c.instance-item.result c.loop-instance.entities.items c.loop-instance-test.true c.instance-item.is c.loop-instance.invariant c.in_err-entity.field-0.0
    c.in_err-entity.ensures)

pub loop-instance-preserved : goal.loop-instance-preserved
loop-instance-preserved c =
    rw c.in_ok-push.ensures.items (one_typed c.args.instances.now c.loop-instance.instance-index c.instance-item.result c.loop-instance.entities.items c.in_ok-entity.entity c.loop-instance-test.true c.instance-item.is
    c.loop-instance.invariant c.in_ok-entity.ensures)

pub returns : goal.returns
returns c =
    let whole : all_typed (map instance_of c.args.instances.now) ≡ Ok (map entity_of c.loop-instance.entities.items) =
    subst (λ (xs : List Instance). all_typed (map instance_of xs) ≡ Ok (map entity_of c.loop-instance.entities.items)) (take_all c.loop-instance.instance-index c.args.instances.now (omega arith)) c.loop-instance.invariant in
    (whole, typed_numbers (map instance_of c.args.instances.now) c.loop-instance.entities.items whole)
