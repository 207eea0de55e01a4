use Rattle.std.proofs.Common.{map, ◌∙◌, ap, sym}
use Rattle.p21_parse.specs.View.{tree_of}
use Rattle.p21_parse.proofs.ListLemmas.{listed-trees}
use Rattle.p21_parse.proofs.param.ParamList.as_slice.Goals as goal

pub returns : goal.returns
returns c = ap (map tree_of) c.as_slice.ensures.value ∙ sym (listed-trees (map tree_of c.args.self.now.params.items))
