use Rattle.std.proofs.Common.{List, ℕ, ap, ◌∙◌}
use Rattle.project_versions.specs.Versioned.{version_of, counted}
use Rattle.project_versions.proofs.RaisingLemmas.{version_none}
use Rattle.project_versions.proofs.versions.Versions.new.Goals as goal

pub returns-clause-versions : goal.returns-clause-versions
returns-clause-versions c = λ n.
    ap (λ (vs : List ℕ). version_of (counted c.in_ok-order.order.order vs) n) c.in_ok-versions.ensures ∙ version_none c.in_ok-order.order.order _ n
