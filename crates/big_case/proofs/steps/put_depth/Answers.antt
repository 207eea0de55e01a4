use Rattle.std.proofs.Common.{[], ◌∷◌, ◌++◌, ◌+◌, codes}
use Rattle.p21_parse.specs.Tree.{trees}
use Rattle.big_case.specs.Parameters.{real, minus, placement, plane}
use Rattle.big_case.specs.Project.{depth_point}
use Rattle.big_case.proofs.Putting.{adds, listed_known}
use Rattle.big_case.proofs.steps.put_depth.Goals as goal

pub returns : goal.returns
returns c =
    let n = c.args.n in
    let q = placement (n + 6) (n + 7) ∷ [] in
    let r = depth_point (n + 7) c.args.depth ∷ [] in
    let last = listed_known (n + 7) (codes "CARTESIAN_POINT") _ (trees (real (codes "0.") ∷ real (codes "0.") ∷ minus c.args.depth ∷ [])) c.put_placement.new.items c.put_listed.new.items c.in_ok-deepest.ensures c.in_ok-put_listed.ensures in
    let m1 = adds q r c.put_plane.new.items c.put_placement.new.items c.put_listed.new.items c.in_ok-put_placement.ensures last in
    adds (plane (n + 5) (n + 6) ∷ []) (q ++ r) c.args.items.now c.put_plane.new.items c.put_listed.new.items c.in_ok-put_plane.ensures m1
