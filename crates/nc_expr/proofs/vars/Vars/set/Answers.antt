use Rattle.std.proofs.Common.{◌≡◌, ◌==◌, ℕ, ℤ, if◌then◌else◌, List, Some, subst, w64}
use Rattle.std.proofs.lemmas.Int.{to_z-of_z}
use Rattle.nc_expr.specs.Vars.{value_of_variable}
use Rattle.nc_expr.proofs.VarsLemmas.{put_is}
use Rattle.nc_expr.proofs.vars.Vars.set.Goals as goal

pub returns : goal.returns
returns c =
    subst (λ (vars : List (ℕ × ℤ)). (m : ℕ) → value_of_variable c.insert.new.self.entries m ≡ (if c.args.n == m then Some c.args.x else value_of_variable vars m)) c.self.view_is
    (put_is c.self.inside.values c.insert.new.self c.args.n _ c.args.x (to_z-of_z w64 c.args.x c.ranges.x) c.in-Ok.ensures.updates)
