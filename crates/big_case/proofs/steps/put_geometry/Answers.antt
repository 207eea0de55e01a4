use Rattle.std.proofs.Common.{[], ◌∷◌, ◌+◌, codes}
use Rattle.big_case.specs.Parameters.{real, whole, point, placement, plane}
use Rattle.big_case.specs.Project.{depth_point}
use Rattle.big_case.proofs.Putting.{adds}
use Rattle.big_case.proofs.steps.put_geometry.Goals as goal

pub returns : goal.returns
returns c =
    let n = c.args.n in
    let step = c.args.step in
    let p = placement (n + 3) (n + 4) ∷ point (n + 4) (whole step.x) (whole step.y) (real (codes "0.")) ∷ [] in
    let q = plane (n + 5) (n + 6) ∷ placement (n + 6) (n + 7) ∷ depth_point (n + 7) step.depth ∷ [] in
    adds p q c.args.items.now c.put_place.new.items c.put_depth.new.items c.in_ok-put_place.ensures c.in_ok-put_depth.ensures
