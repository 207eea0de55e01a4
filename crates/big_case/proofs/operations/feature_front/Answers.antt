use Rattle.std.proofs.Common.{◌+◌, [], ◌∷◌, refl, codes}
use Rattle.p21_parse.specs.Tree.{reference}
use Rattle.big_case.specs.Parameters.{text, unset, list_of}
use Rattle.big_case.proofs.Putting.{then_last}
use Rattle.big_case.proofs.operations.feature_front.Goals as goal

pub returns : goal.returns
returns c =
    let p1 = then_last _ _ [] (text (codes "f")) _ c.new-params.ensures c.in_ok-text.ensures c.in_ok-push.ensures.ok in
    let p2 = then_last _ _ ((text (codes "f")) ∷ []) unset _ p1 refl c.in_ok-push-2.ensures.ok in
    let p3 = then_last _ _ ((text (codes "f")) ∷ unset ∷ []) (list_of []) _ p2 c.empty_list.ensures c.in_ok-push-3.ensures.ok in
    let p4 = then_last _ _ ((text (codes "f")) ∷ unset ∷ (list_of []) ∷ []) (reference (c.args.n + 3)) _ p3 refl c.in_ok-push-4.ensures.ok in
    then_last _ _ ((text (codes "f")) ∷ unset ∷ (list_of []) ∷ (reference (c.args.n + 3)) ∷ []) (reference (c.args.n + 5)) _ p4 refl c.in_ok-push-5.ensures.ok
