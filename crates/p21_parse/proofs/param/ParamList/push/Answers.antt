use Rattle.p21_parse.specs.View.{tree_of}
use Rattle.p21_parse.proofs.ListLemmas.{pushed}
use Rattle.p21_parse.proofs.param.ParamList.push.Goals as goal

pub returns-clause-ok : goal.returns-clause-ok
returns-clause-ok c = rw c.in_ok-push.ensures.items (pushed tree_of c.args.self.now.params.items c.args.param)
