use Rattle.std.proofs.Common.{arith}
use Rattle.frame_law.specs.Onward.{Done}
use Rattle.frame_law.proofs.LookLemmas.{few_on}
use Rattle.frame_law.proofs.looks.the_way_is_short.Goals as goal

pub returns : goal.returns
returns g = λ e m. omega (arith, few_on e Done m)
