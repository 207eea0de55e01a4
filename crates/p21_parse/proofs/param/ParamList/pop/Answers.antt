use Rattle.p21_parse.specs.View.{tree_of}
use Rattle.p21_parse.proofs.ListLemmas.{popped}
use Rattle.p21_parse.proofs.param.ParamList.pop.Goals as goal

pub returns-clause-last : goal.returns-clause-last
returns-clause-last c = popped tree_of c.args.self.now.params.items c.pop.new.self.items c.pop.result c.pop.ensures.items
