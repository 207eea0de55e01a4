use Rattle.std.proofs.Common.{[], ◌∷◌, ◌++◌, codes}
use Rattle.p21_parse.specs.Tree.{reference}
use Rattle.big_case.specs.Parameters.{text, real, unset, instance}
use Rattle.big_case.proofs.Putting.{adds}
use Rattle.big_case.proofs.front.put_tooling.Goals as goal

pub returns : goal.returns
returns c =
    let p = instance 30 (codes "MILLING_CUTTING_TOOL") (text (codes "t") ∷ reference 31 ∷ []) ∷ [] in
    let q = instance 31 (codes "ENDMILL") (reference 32 ∷ []) ∷ [] in
    let r = instance 32 (codes "MILLING_TOOL_DIMENSION") (real (codes "10.") ∷ []) ∷ [] in
    let s = instance 33 (codes "MILLING_TECHNOLOGY") (real (codes "0.04") ∷ unset ∷ unset ∷ real (codes "20.") ∷ []) ∷ [] in
    let m1 = adds r s c.put_body.new.items c.put_dimension.new.items c.put_technology.new.items c.in_ok-put_dimension.ensures c.in_ok-put_technology.ensures in
    let m2 = adds q (r ++ s) c.put_referring.new.items c.put_body.new.items c.put_technology.new.items c.in_ok-put_body.ensures m1 in
    adds p (q ++ (r ++ s)) c.args.items.now c.put_referring.new.items c.put_technology.new.items c.in_ok-put_referring.ensures m2
