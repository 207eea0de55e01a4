use Rattle.std.proofs.Common.{[], ◌∷◌, refl, codes}
use Rattle.big_case.specs.Parameters.{text, unset, references}
use Rattle.big_case.proofs.Putting.{then_last, put_known}
use Rattle.big_case.proofs.front.put_main.Goals as goal

pub returns : goal.returns
returns c =
    let p1 = then_last _ _ [] (text (codes "main")) _ c.in_ok-params.ensures c.in_ok-text.ensures c.in_ok-push.ensures.ok in
    let p2 = then_last _ _ ((text (codes "main")) ∷ []) (references (6 ∷ [])) _ p1 c.in_ok-references.ensures c.in_ok-push-2.ensures.ok in
    let p3 = then_last _ _ ((text (codes "main")) ∷ (references (6 ∷ [])) ∷ []) unset _ p2 refl c.in_ok-push-3.ensures.ok in
    put_known c.put.result 5 (codes "WORKPLAN") _ _ _ _ p3 c.put.ensures
