use Rattle.std.proofs.Common.{arith}
use Rattle.path_blocks.proofs.PartLemmas.{length_few}
use Rattle.path_gen.proofs.generator.Gen.length.Goals as goal

pub returns-clause-few : goal.returns-clause-few
returns-clause-few c = omega (arith, c.self.invariant.0, length_few c.self.inside.definition)
