use Rattle.std.proofs.Common.{◌∙◌, ap, sym}
use Rattle.std.specs.Prelude.{option_and_then}
use Rattle.p21_parse.specs.View.{tree_of}
use Rattle.entity_read.specs.Typed.{plain_number, number_in}
use Rattle.entity_read.proofs.Trees.{tree_of-Typed}
use Rattle.entity_read.proofs.param.number.Goals as goal

pub returns-in-Some-clause-value : goal.returns-in-Some-clause-value
returns-in-Some-clause-value c =
    c.plain_number.ensures.value ∙ ap (option_and_then plain_number) c.in-Some.ensures
    ∙ sym (ap (λ p. number_in (tree_of p)) c.in-Typed.is ∙ ap number_in (tree_of-Typed c.in-Typed.field-0 c.in-Typed.params))

pub returns-in-None-clause-value : goal.returns-in-None-clause-value
returns-in-None-clause-value c =
    ap (option_and_then plain_number) c.in-None.ensures
    ∙ sym (ap (λ p. number_in (tree_of p)) c.in-Typed.is ∙ ap number_in (tree_of-Typed c.in-Typed.field-0 c.in-Typed.params))
