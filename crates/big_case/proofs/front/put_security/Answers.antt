use Rattle.std.proofs.Common.{[], ◌∷◌, ◌++◌, codes}
use Rattle.p21_parse.specs.Tree.{trees}
use Rattle.big_case.specs.Parameters.{real, point, placement, plane}
use Rattle.big_case.proofs.Putting.{adds, listed_known}
use Rattle.big_case.proofs.front.put_security.Goals as goal

pub returns : goal.returns
returns c =
    let r = point 22 (real (codes "0.")) (real (codes "0.")) (real (codes "30.")) ∷ [] in
    let last = listed_known 22 (codes "CARTESIAN_POINT") _ (trees (real (codes "0.") ∷ real (codes "0.") ∷ real (codes "30.") ∷ [])) c.put_placement.new.items c.put_listed.new.items c.in_ok-at.ensures c.in_ok-put_listed.ensures in
    let m1 = adds (placement 21 22 ∷ []) r c.put_plane.new.items c.put_placement.new.items c.put_listed.new.items c.in_ok-put_placement.ensures last in
    adds (plane 20 21 ∷ []) ((placement 21 22 ∷ []) ++ r) c.args.items.now c.put_plane.new.items c.put_listed.new.items c.in_ok-put_plane.ensures m1
