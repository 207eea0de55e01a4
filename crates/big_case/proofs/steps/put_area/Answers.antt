use Rattle.std.proofs.Common.{[], ◌∷◌, ◌++◌, ◌+◌, codes}
use Rattle.p21_parse.specs.Tree.{reference}
use Rattle.big_case.specs.Parameters.{list_of, text, real, unset, instance}
use Rattle.big_case.proofs.Putting.{adds}
use Rattle.big_case.proofs.steps.put_area.Goals as goal

pub returns : goal.returns
returns c =
    let n = c.args.n in
    let p = instance (n + 8) (codes "LINEAR_PATH") (unset ∷ real (codes "100.") ∷ reference (n + 10) ∷ []) ∷ [] in
    let q = instance (n + 9) (codes "LINEAR_PROFILE") (unset ∷ real (codes "50.") ∷ []) ∷ [] in
    let r = instance (n + 10) (codes "DIRECTION") (text [] ∷ list_of (real (codes "1.") ∷ real (codes "0.") ∷ real (codes "0.") ∷ []) ∷ []) ∷ [] in
    let m1 = adds q r c.put_course.new.items c.put_width.new.items c.put_direction.new.items c.in_ok-put_width.ensures c.in_ok-put_direction.ensures in
    adds p (q ++ r) c.args.items.now c.put_course.new.items c.put_direction.new.items c.in_ok-put_course.ensures m1
