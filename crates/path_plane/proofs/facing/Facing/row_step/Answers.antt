use Rattle.std.proofs.Common.{rules, arith, ◌∙◌, ap, FitsSigned, w64, unsigned_abs}
use Rattle.std.proofs.lemmas.Int.{to_z-of_z}
use Rattle.path_plane.proofs.Numbers.{facing_ranges, positive_abs}
use Rattle.path_plane.proofs.facing.Facing.row_step.Goals as goal

pub returns-clause-exact : goal.returns-clause-exact
returns-clause-exact c =
    let f : FitsSigned w64 c.args.self.now.step = search rules in
    c.unsigned_abs.ensures.value ∙ ap unsigned_abs (to_z-of_z w64 c.args.self.now.step f)

pub returns-clause-positive : goal.returns-clause-positive
returns-clause-positive c =
    let f : FitsSigned w64 c.args.self.now.step = search rules in
    let e = c.unsigned_abs.ensures.value ∙ ap unsigned_abs (to_z-of_z w64 c.args.self.now.step f) in
    omega (arith, e, positive_abs c.args.self.now.step (facing_ranges c.args.self.now).step_positive)
