use Rattle.std.proofs.Common.{ap, ◌∙◌}
use Rattle.p21_parse.specs.declared.param.Param.TheVariants as params
use Rattle.p21_parse.specs.Tree.{Tree, Trees, none, first, with_last}
use Rattle.p21_parse.specs.View.{tree_of}
use Rattle.p21_parse.proofs.ViewLemmas.{tree_of-List}
use Rattle.p21_parse.proofs.header.list_in_list.Goals as goal

pub returns : goal.returns
returns c = c.in_ok-push.ensures.ok ∙ ap (λ (ps : Trees). with_last ps (tree_of (params.List c.args.params))) c.in_ok-whole.ensures ∙ ap (λ (t : Tree). first t none) (tree_of-List c.args.params)
