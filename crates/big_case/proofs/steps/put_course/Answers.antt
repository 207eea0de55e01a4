use Rattle.std.proofs.Common.{◌+◌, [], ◌∷◌, refl, codes}
use Rattle.p21_parse.specs.Tree.{reference}
use Rattle.big_case.specs.Parameters.{real, unset}
use Rattle.big_case.proofs.Putting.{then_last, put_known}
use Rattle.big_case.proofs.steps.put_course.Goals as goal

pub returns : goal.returns
returns c =
    let p1 = then_last _ _ [] unset _ c.in_ok-params.ensures refl c.in_ok-push.ensures.ok in
    let p2 = then_last _ _ (unset ∷ []) (real (codes "100.")) _ p1 c.in_ok-real.ensures c.in_ok-push-2.ensures.ok in
    let p3 = then_last _ _ (unset ∷ (real (codes "100.")) ∷ []) (reference (c.args.n + 10)) _ p2 refl c.in_ok-push-3.ensures.ok in
    put_known c.put.result (c.args.n + 8) (codes "LINEAR_PATH") _ _ _ _ p3 c.put.ensures
