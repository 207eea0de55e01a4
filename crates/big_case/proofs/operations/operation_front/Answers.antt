use Rattle.std.proofs.Common.{[], ◌∷◌, refl, codes}
use Rattle.p21_parse.specs.Tree.{reference}
use Rattle.big_case.specs.Parameters.{text, real, unset}
use Rattle.big_case.proofs.Putting.{then_last}
use Rattle.big_case.proofs.operations.operation_front.Goals as goal

pub returns : goal.returns
returns c =
    let p1 = then_last _ _ [] unset _ c.new-params.ensures refl c.in_ok-push.ensures.ok in
    let p2 = then_last _ _ (unset ∷ []) unset _ p1 refl c.in_ok-push-2.ensures.ok in
    let p3 = then_last _ _ (unset ∷ unset ∷ []) (text (codes "o")) _ p2 c.in_ok-text.ensures c.in_ok-push-3.ensures.ok in
    let p4 = then_last _ _ (unset ∷ unset ∷ (text (codes "o")) ∷ []) (real (codes "5.")) _ p3 c.in_ok-real.ensures c.in_ok-push-4.ensures.ok in
    let p5 = then_last _ _ (unset ∷ unset ∷ (text (codes "o")) ∷ (real (codes "5.")) ∷ []) unset _ p4 refl c.in_ok-push-5.ensures.ok in
    let p6 = then_last _ _ (unset ∷ unset ∷ (text (codes "o")) ∷ (real (codes "5.")) ∷ unset ∷ []) (reference 30) _ p5 refl c.in_ok-push-6.ensures.ok in
    then_last _ _ (unset ∷ unset ∷ (text (codes "o")) ∷ (real (codes "5.")) ∷ unset ∷ (reference 30) ∷ []) (reference 33) _ p6 refl c.in_ok-push-7.ensures.ok
