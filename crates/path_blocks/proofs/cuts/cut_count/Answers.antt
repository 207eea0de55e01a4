use Rattle.std.proofs.Common.{arith, ◌-◌}
use Rattle.std.proofs.Math.Nat.{div-le_self}
use Rattle.path_blocks.proofs.CutsLemmas.{length-cuts}
use Rattle.path_blocks.proofs.cuts.cut_count.Goals as goal

pub returns-clause-exact : goal.returns-clause-exact
returns-clause-exact c = omega (arith, length-cuts c.args.step c.args.whole)

pub returns-clause-few : goal.returns-clause-few
returns-clause-few c = omega (arith, div-le_self (c.args.whole - 1) c.args.step)
