use Rattle.std.proofs.Common.{[], ◌∷◌, refl, codes}
use Rattle.p21_parse.specs.Tree.{reference}
use Rattle.big_case.specs.Parameters.{text, references}
use Rattle.big_case.proofs.Putting.{then_last, put_known}
use Rattle.big_case.proofs.workplans.put_workplan.Goals as goal

pub returns : goal.returns
returns c =
    let p1 = then_last _ _ [] (text (codes "w")) _ c.in_ok-params.ensures c.in_ok-text.ensures c.in_ok-push.ensures.ok in
    let p2 = then_last _ _ ((text (codes "w")) ∷ []) (references c.args.elements.now) _ p1 c.in_ok-references.ensures c.in_ok-push-2.ensures.ok in
    let p3 = then_last _ _ ((text (codes "w")) ∷ (references c.args.elements.now) ∷ []) (reference c.args.channel) _ p2 refl c.in_ok-push-3.ensures.ok in
    put_known c.put.result c.args.n (codes "WORKPLAN") _ _ _ _ p3 c.put.ensures
