use Rattle.std.proofs.Common.{[], ◌∷◌, ◌++◌, codes}
use Rattle.p21_parse.specs.Tree.{reference}
use Rattle.big_case.specs.Parameters.{text, instance}
use Rattle.big_case.proofs.Putting.{adds}
use Rattle.big_case.proofs.front.put_marks.Goals as goal

pub returns : goal.returns
returns c =
    let p = instance 10 (codes "SET_MARK") (text (codes "m") ∷ []) ∷ [] in
    let q = instance 11 (codes "SET_MARK") (text (codes "m") ∷ []) ∷ [] in
    let r = instance 12 (codes "WAIT_FOR_MARK") (text (codes "m") ∷ reference 10 ∷ []) ∷ [] in
    let s = instance 13 (codes "WAIT_FOR_MARK") (text (codes "m") ∷ reference 11 ∷ []) ∷ [] in
    let m1 = adds r s c.put_named-2.new.items c.put_referring.new.items c.put_referring-2.new.items c.in_ok-put_referring.ensures c.in_ok-put_referring-2.ensures in
    let m2 = adds q (r ++ s) c.put_named.new.items c.put_named-2.new.items c.put_referring-2.new.items c.in_ok-put_named-2.ensures m1 in
    adds p (q ++ (r ++ s)) c.args.items.now c.put_named.new.items c.put_referring-2.new.items c.in_ok-put_named.ensures m2
