use Rattle.std.proofs.Common.{[], ◌∷◌, ◌++◌}
use Rattle.big_case.specs.Project.{workingstep, feature, operation, geometry, extent}
use Rattle.big_case.proofs.Putting.{adds}
use Rattle.big_case.proofs.steps.put_step.Goals as goal

pub returns : goal.returns
returns c =
    let n = c.args.n in
    let kind = c.args.step.kind in
    let m1 = adds (geometry c.args.step n) (extent kind n) c.put_operation.new.items c.put_geometry.new.items c.put_extent.new.items c.in_ok-put_geometry.ensures c.in_ok-put_extent.ensures in
    let m2 = adds (operation kind n ∷ []) ((geometry c.args.step n) ++ (extent kind n)) c.put_feature.new.items c.put_operation.new.items c.put_extent.new.items c.in_ok-put_operation.ensures m1 in
    let m3 = adds (feature kind n ∷ []) ((operation kind n ∷ []) ++ ((geometry c.args.step n) ++ (extent kind n))) c.put_workingstep.new.items c.put_feature.new.items c.put_extent.new.items c.in_ok-put_feature.ensures m2 in
    adds (workingstep n ∷ []) ((feature kind n ∷ []) ++ ((operation kind n ∷ []) ++ ((geometry c.args.step n) ++ (extent kind n)))) c.args.items.now c.put_workingstep.new.items c.put_extent.new.items c.in_ok-put_workingstep.ensures m3
