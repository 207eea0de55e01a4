use Rattle.std.proofs.Common.{ap, ◌∙◌}
use Rattle.p21_parse.specs.View.{tree_of}
use Rattle.p21_parse.specs.Tree.{Tree, Trees, none, first, list, with_last}
use Rattle.p21_parse.proofs.ViewLemmas.{tree_of-List}
use Rattle.p21_parse.proofs.built.one_empty.Goals as goal

pub returns : goal.returns
returns c =
    tree_of-List c.push.new.self
    ∙ ap list (c.in_ok-push.ensures.ok ∙ ap (λ (ps : Trees). with_last ps (tree_of c.empty_text.result)) c.new-params.ensures ∙ ap (λ (t : Tree). first t none) c.empty_text.ensures)
