use Rattle.std.proofs.Common.{[], ◌∷◌, codes}
use Rattle.big_case.specs.Parameters.{real, minus}
use Rattle.big_case.proofs.Putting.{then_last}
use Rattle.big_case.proofs.steps.depth_of.Goals as goal

pub returns : goal.returns
returns c =
    let p1 = then_last _ _ [] (real (codes "0.")) _ c.new-params.ensures c.in_ok-real.ensures c.in_ok-push.ensures.ok in
    let p2 = then_last _ _ ((real (codes "0.")) ∷ []) (real (codes "0.")) _ p1 c.in_ok-real-2.ensures c.in_ok-push-2.ensures.ok in
    then_last _ _ ((real (codes "0.")) ∷ (real (codes "0.")) ∷ []) (minus c.args.depth) _ p2 c.in_ok-minus.ensures c.in_ok-push-3.ensures.ok
