use Rattle.std.proofs.Common.{[], ◌∷◌, codes}
use Rattle.big_case.specs.Parameters.{text, references}
use Rattle.big_case.proofs.Putting.{then_last, put_known}
use Rattle.big_case.proofs.front.put_parallel.Goals as goal

pub returns : goal.returns
returns c =
    let p1 = then_last _ _ [] (text (codes "p")) _ c.in_ok-params.ensures c.in_ok-text.ensures c.in_ok-push.ensures.ok in
    let p2 = then_last _ _ ((text (codes "p")) ∷ []) (references (7 ∷ 8 ∷ 9 ∷ [])) _ p1 c.in_ok-references.ensures c.in_ok-push-2.ensures.ok in
    put_known c.put.result 6 (codes "PARALLEL") _ _ _ _ p2 c.put.ensures
