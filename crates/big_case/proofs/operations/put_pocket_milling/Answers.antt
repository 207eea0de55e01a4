use Rattle.std.proofs.Common.{◌+◌, List, [], ◌∷◌, ◌++◌, refl, codes}
use Rattle.p21_parse.specs.Tree.{Tree}
use Rattle.big_case.specs.Project.{operation_front}
use Rattle.big_case.specs.Parameters.{real, unset}
use Rattle.big_case.proofs.Putting.{then_last, put_known}
use Rattle.big_case.proofs.operations.put_pocket_milling.Goals as goal

pub returns : goal.returns
returns c =
    let front : List Tree = operation_front ++ unset ∷ unset ∷ unset ∷ unset ∷ unset ∷ real (codes "5.") ∷ [] in
    let p1 = then_last _ _ front (real (codes "4.")) _ c.in_ok-params.ensures c.in_ok-real.ensures c.in_ok-push.ensures.ok in
    let p2 = then_last _ _ (front ++ (real (codes "4.")) ∷ []) unset _ p1 refl c.in_ok-push-2.ensures.ok in
    let p3 = then_last _ _ (front ++ (real (codes "4.")) ∷ unset ∷ []) unset _ p2 refl c.in_ok-push-3.ensures.ok in
    put_known c.put.result (c.args.n + 2) (codes "BOTTOM_AND_SIDE_ROUGH_MILLING") _ _ _ _ p3 c.put.ensures
