use Rattle.std.proofs.Common.{[], ◌∷◌, refl, codes}
use Rattle.p21_parse.specs.Tree.{reference}
use Rattle.big_case.specs.Parameters.{text, unset}
use Rattle.big_case.proofs.Putting.{then_last, put_known}
use Rattle.big_case.proofs.params.put_placement.Goals as goal

pub returns : goal.returns
returns c =
    let p1 = then_last _ _ [] (text []) _ c.in_ok-params.ensures c.in_ok-text.ensures c.in_ok-push.ensures.ok in
    let p2 = then_last _ _ ((text []) ∷ []) (reference c.args.at) _ p1 refl c.in_ok-push-2.ensures.ok in
    let p3 = then_last _ _ ((text []) ∷ (reference c.args.at) ∷ []) unset _ p2 refl c.in_ok-push-3.ensures.ok in
    let p4 = then_last _ _ ((text []) ∷ (reference c.args.at) ∷ unset ∷ []) unset _ p3 refl c.in_ok-push-4.ensures.ok in
    put_known c.put.result c.args.number (codes "AXIS2_PLACEMENT_3D") _ _ _ _ p4 c.put.ensures
