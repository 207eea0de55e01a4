use Rattle.std.proofs.Common.{◌+◌, [], ◌∷◌, ◌++◌, refl, codes}
use Rattle.p21_parse.specs.Tree.{reference}
use Rattle.big_case.specs.Project.{feature_front}
use Rattle.big_case.specs.Parameters.{unset, list_of}
use Rattle.big_case.proofs.Putting.{then_last, put_known}
use Rattle.big_case.proofs.operations.put_pocket.Goals as goal

pub returns : goal.returns
returns c =
    let p1 = then_last _ _ (feature_front c.args.n) (list_of []) _ c.in_ok-params.ensures c.empty_list.ensures c.in_ok-push.ensures.ok in
    let p2 = then_last _ _ (feature_front c.args.n ++ (list_of []) ∷ []) unset _ p1 refl c.in_ok-push-2.ensures.ok in
    let p3 = then_last _ _ (feature_front c.args.n ++ (list_of []) ∷ unset ∷ []) unset _ p2 refl c.in_ok-push-3.ensures.ok in
    let p4 = then_last _ _ (feature_front c.args.n ++ (list_of []) ∷ unset ∷ unset ∷ []) unset _ p3 refl c.in_ok-push-4.ensures.ok in
    let p5 = then_last _ _ (feature_front c.args.n ++ (list_of []) ∷ unset ∷ unset ∷ unset ∷ []) unset _ p4 refl c.in_ok-push-5.ensures.ok in
    let p6 = then_last _ _ (feature_front c.args.n ++ (list_of []) ∷ unset ∷ unset ∷ unset ∷ unset ∷ []) (reference (c.args.n + 8)) _ p5 refl c.in_ok-push-6.ensures.ok in
    put_known c.put.result (c.args.n + 1) (codes "CLOSED_POCKET") _ _ _ _ p6 c.put.ensures
