use Rattle.std.proofs.Common.{◌+◌, [], ◌∷◌, ◌++◌, refl, codes}
use Rattle.p21_parse.specs.Tree.{reference}
use Rattle.big_case.specs.Project.{feature_front}
use Rattle.big_case.proofs.Putting.{then_last, put_known}
use Rattle.big_case.proofs.operations.put_face.Goals as goal

pub returns : goal.returns
returns c =
    let p1 = then_last _ _ (feature_front c.args.n) (reference (c.args.n + 8)) _ c.in_ok-params.ensures refl c.in_ok-push.ensures.ok in
    let p2 = then_last _ _ (feature_front c.args.n ++ (reference (c.args.n + 8)) ∷ []) (reference (c.args.n + 9)) _ p1 refl c.in_ok-push-2.ensures.ok in
    put_known c.put.result (c.args.n + 1) (codes "PLANAR_FACE") _ _ _ _ p2 c.put.ensures
