use Rattle.std.proofs.Common.{rules, arith, ◌∙◌, ap, FitsSigned, w64, unsigned_abs}
use Rattle.std.proofs.lemmas.Int.{to_z-of_z}
use Rattle.path_plane.proofs.Numbers.{facing_ranges, positive_abs, within_abs}
use Rattle.path_plane.proofs.facing.Facing.breadth.Goals as goal

pub returns-clause-exact : goal.returns-clause-exact
returns-clause-exact c =
    let f : FitsSigned w64 c.args.self.now.width = search rules in
    c.unsigned_abs.ensures.value ∙ ap unsigned_abs (to_z-of_z w64 c.args.self.now.width f)

pub returns-clause-positive : goal.returns-clause-positive
returns-clause-positive c =
    let f : FitsSigned w64 c.args.self.now.width = search rules in
    let e = c.unsigned_abs.ensures.value ∙ ap unsigned_abs (to_z-of_z w64 c.args.self.now.width f) in
    omega (arith, e, positive_abs c.args.self.now.width (facing_ranges c.args.self.now).width_positive)

pub returns-clause-narrow : goal.returns-clause-narrow
returns-clause-narrow c =
    let f : FitsSigned w64 c.args.self.now.width = search rules in
    let e = c.unsigned_abs.ensures.value ∙ ap unsigned_abs (to_z-of_z w64 c.args.self.now.width f) in
    omega (arith, e, within_abs c.args.self.now.width (facing_ranges c.args.self.now).width_within)
