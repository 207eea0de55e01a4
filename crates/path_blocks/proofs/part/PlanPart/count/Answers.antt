use Rattle.std.proofs.Common.{arith}
use Rattle.path_blocks.proofs.PartLemmas.{made_within, length_few}
use Rattle.path_blocks.proofs.part.PlanPart.count.Goals as goal

pub overflow_cast-result : goal.overflow_cast-result
overflow_cast-result c =
    omega (arith, made_within c.self.inside.def c.self.inside.blocks.items c.self.invariant.0, length_few c.self.inside.def)
