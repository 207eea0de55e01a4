use Rattle.std.proofs.lemmas.Int.{to_z-of_z}
use Rattle.std.proofs.Common.{w64, rules, FitsSigned}
use Rattle.nc_expr.proofs.VarsLemmas.{put_is}
use Rattle.nc_expr.proofs.vars.put.Goals as goal

pub returns : goal.returns
returns c =
    let f : FitsSigned w64 c.args.pair.now.1 = search rules in
    put_is c.args.values.now c.insert.new.self c.args.pair.now.0 _ c.args.pair.now.1 (to_z-of_z w64 c.args.pair.now.1 f) c.in_ok-insert.ensures.updates
