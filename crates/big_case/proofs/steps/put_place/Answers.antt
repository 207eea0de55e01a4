use Rattle.std.proofs.Common.{[], ◌∷◌, ◌+◌, codes}
use Rattle.p21_parse.specs.Tree.{trees}
use Rattle.big_case.specs.Parameters.{real, whole, point, placement}
use Rattle.big_case.proofs.Putting.{adds, listed_known}
use Rattle.big_case.proofs.steps.put_place.Goals as goal

pub returns : goal.returns
returns c =
    let n = c.args.n in
    let step = c.args.step in
    let p = placement (n + 3) (n + 4) ∷ [] in
    let q = point (n + 4) (whole step.x) (whole step.y) (real (codes "0.")) ∷ [] in
    let last = listed_known (n + 4) (codes "CARTESIAN_POINT") _ (trees (whole step.x ∷ whole step.y ∷ real (codes "0.") ∷ [])) c.put_placement.new.items c.put_listed.new.items c.in_ok-place.ensures c.in_ok-put_listed.ensures in
    adds p q c.args.items.now c.put_placement.new.items c.put_listed.new.items c.in_ok-put_placement.ensures last
