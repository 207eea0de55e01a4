use Rattle.std.proofs.Common.{[], ◌∷◌, codes}
use Rattle.big_case.specs.Parameters.{real, whole}
use Rattle.big_case.proofs.Putting.{then_last}
use Rattle.big_case.proofs.steps.place_of.Goals as goal

pub returns : goal.returns
returns c =
    let p1 = then_last _ _ [] (whole c.args.step.x) _ c.new-params.ensures c.in_ok-whole.ensures c.in_ok-push.ensures.ok in
    let p2 = then_last _ _ ((whole c.args.step.x) ∷ []) (whole c.args.step.y) _ p1 c.in_ok-whole-2.ensures c.in_ok-push-2.ensures.ok in
    then_last _ _ ((whole c.args.step.x) ∷ (whole c.args.step.y) ∷ []) (real (codes "0.")) _ p2 c.in_ok-real.ensures c.in_ok-push-3.ensures.ok
