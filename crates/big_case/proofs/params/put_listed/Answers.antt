use Rattle.std.proofs.Common.{[], ◌∷◌}
use Rattle.p21_parse.specs.Tree.{list}
use Rattle.p21_parse.specs.View.{trees_of}
use Rattle.big_case.specs.Parameters.{text}
use Rattle.big_case.proofs.Putting.{then_last, put_known}
use Rattle.big_case.proofs.params.put_listed.Goals as goal

pub returns : goal.returns
returns c =
    let p1 = then_last _ _ [] (text []) _ c.new-params.ensures c.in_ok-text.ensures c.in_ok-push.ensures.ok in
    let p2 = then_last _ _ ((text []) ∷ []) (list (trees_of c.args.elements)) _ p1 c.list_of.ensures c.in_ok-push-2.ensures.ok in
    put_known c.put.result c.args.number c.args.keyword.now _ _ _ _ p2 c.put.ensures
