use Rattle.std.proofs.Common.{[], ◌∷◌, ◌++◌, refl, codes}
use Rattle.big_case.specs.Project.{operation_front}
use Rattle.big_case.specs.Parameters.{real, unset}
use Rattle.big_case.proofs.Putting.{then_last}
use Rattle.big_case.proofs.operations.milling_front.Goals as goal

pub returns : goal.returns
returns c =
    let p1 = then_last _ _ (operation_front) unset _ c.in_ok-params.ensures refl c.in_ok-push.ensures.ok in
    let p2 = then_last _ _ (operation_front ++ unset ∷ []) unset _ p1 refl c.in_ok-push-2.ensures.ok in
    let p3 = then_last _ _ (operation_front ++ unset ∷ unset ∷ []) unset _ p2 refl c.in_ok-push-3.ensures.ok in
    let p4 = then_last _ _ (operation_front ++ unset ∷ unset ∷ unset ∷ []) unset _ p3 refl c.in_ok-push-4.ensures.ok in
    let p5 = then_last _ _ (operation_front ++ unset ∷ unset ∷ unset ∷ unset ∷ []) unset _ p4 refl c.in_ok-push-5.ensures.ok in
    then_last _ _ (operation_front ++ unset ∷ unset ∷ unset ∷ unset ∷ unset ∷ []) (real (codes "5.")) _ p5 c.in_ok-real.ensures c.in_ok-push-6.ensures.ok
