use Rattle.std.proofs.Common.{[], ◌∷◌, refl, codes}
use Rattle.big_case.specs.Parameters.{real, unset}
use Rattle.big_case.proofs.Putting.{then_last, put_known}
use Rattle.big_case.proofs.front.put_technology.Goals as goal

pub returns : goal.returns
returns c =
    let p1 = then_last _ _ [] (real (codes "0.04")) _ c.in_ok-params.ensures c.in_ok-real.ensures c.in_ok-push.ensures.ok in
    let p2 = then_last _ _ ((real (codes "0.04")) ∷ []) unset _ p1 refl c.in_ok-push-2.ensures.ok in
    let p3 = then_last _ _ ((real (codes "0.04")) ∷ unset ∷ []) unset _ p2 refl c.in_ok-push-3.ensures.ok in
    let p4 = then_last _ _ ((real (codes "0.04")) ∷ unset ∷ unset ∷ []) (real (codes "20.")) _ p3 c.in_ok-real-2.ensures c.in_ok-push-4.ensures.ok in
    put_known c.put.result 33 (codes "MILLING_TECHNOLOGY") _ _ _ _ p4 c.put.ensures
