use Rattle.std.proofs.Common.{[], ◌∷◌, refl}
use Rattle.p21_parse.specs.Tree.{reference}
use Rattle.big_case.specs.Parameters.{text}
use Rattle.big_case.proofs.Putting.{then_last, put_known}
use Rattle.big_case.proofs.front.put_referring.Goals as goal

pub returns : goal.returns
returns c =
    let p1 = then_last _ _ [] (text c.args.name.now) _ c.in_ok-params.ensures c.in_ok-text.ensures c.in_ok-push.ensures.ok in
    let p2 = then_last _ _ ((text c.args.name.now) ∷ []) (reference c.args.to) _ p1 refl c.in_ok-push-2.ensures.ok in
    put_known c.put.result c.args.n c.args.keyword.now _ _ _ _ p2 c.put.ensures
