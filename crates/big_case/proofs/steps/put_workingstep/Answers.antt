use Rattle.std.proofs.Common.{◌+◌, [], ◌∷◌, refl, codes}
use Rattle.p21_parse.specs.Tree.{reference}
use Rattle.big_case.specs.Parameters.{text}
use Rattle.big_case.proofs.Putting.{then_last, put_known}
use Rattle.big_case.proofs.steps.put_workingstep.Goals as goal

pub returns : goal.returns
returns c =
    let p1 = then_last _ _ [] (text (codes "s")) _ c.in_ok-params.ensures c.in_ok-text.ensures c.in_ok-push.ensures.ok in
    let p2 = then_last _ _ ((text (codes "s")) ∷ []) (reference 20) _ p1 refl c.in_ok-push-2.ensures.ok in
    let p3 = then_last _ _ ((text (codes "s")) ∷ (reference 20) ∷ []) (reference (c.args.n + 1)) _ p2 refl c.in_ok-push-3.ensures.ok in
    let p4 = then_last _ _ ((text (codes "s")) ∷ (reference 20) ∷ (reference (c.args.n + 1)) ∷ []) (reference (c.args.n + 2)) _ p3 refl c.in_ok-push-4.ensures.ok in
    put_known c.put.result c.args.n (codes "MACHINING_WORKINGSTEP") _ _ _ _ p4 c.put.ensures
