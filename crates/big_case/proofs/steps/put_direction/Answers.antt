use Rattle.std.proofs.Common.{[], ◌∷◌, codes, subst}
use Rattle.std.specs.Prelude.{OnOk}
use Rattle.p21_parse.specs.Tree.{Trees, list}
use Rattle.big_case.specs.Parameters.{text, instance}
use Rattle.big_case.specs.Adds.{Adds}
use Rattle.big_case.proofs.steps.put_direction.Goals as goal

pub returns : goal.returns
returns c =
    subst (λ (ts : Trees). OnOk c.put_listed.result (Adds (instance c.args.n (codes "DIRECTION") (text [] ∷ list ts ∷ []) ∷ []) c.args.items.now c.put_listed.new.items)) c.in_ok-ratios.ensures
    c.put_listed.ensures
