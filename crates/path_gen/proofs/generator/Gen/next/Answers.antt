use Rattle.path_gen.proofs.Places.{behind_more, ahead_less}
use Rattle.path_gen.proofs.generator.Gen.next.Goals as goal

pub returns-clause-handed : goal.returns-clause-handed
returns-clause-handed c = behind_more c.args.self.now c.give.new.self c.give.result c.give.ensures.exact c.give.ensures.moves

pub returns-clause-rest : goal.returns-clause-rest
returns-clause-rest c = ahead_less c.args.self.now c.give.new.self c.give.result c.give.ensures.exact c.give.ensures.moves
