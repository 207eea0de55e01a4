use Rattle.std.proofs.Common.{[], ◌∷◌, ◌++◌, codes}
use Rattle.p21_parse.specs.Tree.{reference}
use Rattle.big_case.specs.Parameters.{references, text, unset, instance}
use Rattle.big_case.proofs.Putting.{adds}
use Rattle.big_case.proofs.front.put_opening.Goals as goal

pub returns : goal.returns
returns c =
    let p = instance 1 (codes "CHANNEL") (text (codes "0") ∷ []) ∷ [] in
    let q = instance 2 (codes "CHANNEL") (text (codes "1") ∷ []) ∷ [] in
    let r = instance 3 (codes "CHANNEL") (text (codes "2") ∷ []) ∷ [] in
    let s = instance 4 (codes "PROJECT") (text (codes "big") ∷ reference 5 ∷ []) ∷ [] in
    let t = instance 5 (codes "WORKPLAN") (text (codes "main") ∷ references (6 ∷ []) ∷ unset ∷ []) ∷ [] in
    let u = instance 6 (codes "PARALLEL") (text (codes "p") ∷ references (7 ∷ 8 ∷ 9 ∷ []) ∷ []) ∷ [] in
    let m1 = adds t u c.put_referring.new.items c.put_main.new.items c.put_parallel.new.items c.in_ok-put_main.ensures c.in_ok-put_parallel.ensures in
    let m2 = adds s (t ++ u) c.put_named-3.new.items c.put_referring.new.items c.put_parallel.new.items c.in_ok-put_referring.ensures m1 in
    let m3 = adds r (s ++ (t ++ u)) c.put_named-2.new.items c.put_named-3.new.items c.put_parallel.new.items c.in_ok-put_named-3.ensures m2 in
    let m4 = adds q (r ++ (s ++ (t ++ u))) c.put_named.new.items c.put_named-2.new.items c.put_parallel.new.items c.in_ok-put_named-2.ensures m3 in
    adds p (q ++ (r ++ (s ++ (t ++ u)))) c.args.items.now c.put_named.new.items c.put_parallel.new.items c.in_ok-put_named.ensures m4
