use Rattle.p21_parse.proofs.ViewLemmas.{tree_of-List}
use Rattle.big_case.proofs.params.list_of.Goals as goal

pub returns : goal.returns
returns c = tree_of-List c.args.elements
