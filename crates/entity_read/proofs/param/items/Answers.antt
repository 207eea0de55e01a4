use Rattle.std.proofs.Common.{◌∙◌, ap, sym}
use Rattle.std.specs.Prelude.{Some}
use Rattle.p21_parse.specs.View.{tree_of}
use Rattle.entity_read.specs.Typed.{items_of}
use Rattle.entity_read.proofs.Trees.{tree_of-List}
use Rattle.entity_read.proofs.param.items.Goals as goal

pub returns-in-List : goal.returns-in-List
returns-in-List c =
    ap Some c.as_slice.ensures ∙ sym (ap (λ p. items_of (tree_of p)) c.in-List.is ∙ ap items_of (tree_of-List c.in-List.params))
