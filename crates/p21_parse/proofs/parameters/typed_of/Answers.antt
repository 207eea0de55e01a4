use Rattle.std.proofs.Common.{ap, ◌∙◌}
use Rattle.p21_parse.specs.Tree.{Trees, typed, with_last}
use Rattle.p21_parse.specs.View.{tree_of}
use Rattle.p21_parse.proofs.ViewLemmas.{tree_of-Typed}
use Rattle.p21_parse.proofs.parameters.typed_of.Goals as goal

pub returns : goal.returns
returns c =
    rw c.in_ok-of.ensures (tree_of-Typed c.args.word.now c.push.new.self ∙ ap (typed c.args.word.now) (c.in_ok-push.ensures.ok ∙ ap (λ (ps : Trees). with_last ps (tree_of c.args.param)) c.in_ok-params.ensures))
