use Rattle.p21_parse.specs.View.{tree_of}
use Rattle.p21_parse.proofs.ListLemmas.{is_none}
use Rattle.p21_parse.proofs.param.ParamList.is_empty.Goals as goal

pub returns : goal.returns
returns c = let ps = c.args.self.now.params in is_none tree_of ps.items _ c.is_empty.result ps.ok.0 c.is_empty.ensures
