use Rattle.std.proofs.Common.{List, ℕ, subst, IfNone, Contains}
use Rattle.std.specs.List.Sorted.{IsBinarySearchResult}
use Rattle.std.specs.Ordering.{nat_cmp}
use Rattle.project_versions.specs.StepSet.{Ordered}
use Rattle.project_versions.proofs.StepLemmas.{not_there}
use Rattle.project_versions.proofs.step_order.StepOrder.place_of.Goals as goal

pub returns-clause-none : goal.returns-clause-none
returns-clause-none c =
    subst (λ (v : Ordered). IfNone c.ok.result (Contains v.steps c.args.n → ⊥)) c.self.view_is
    (not_there c.self.inside.steps.items c.self.inside.order.items c.args.n c.binary_search.result c.ok.result c.self.invariant
    (subst (λ (ns : List ℕ). IsBinarySearchResult (λ y. nat_cmp y c.args.n) ns c.binary_search.result) c.as_slice.ensures.value c.binary_search.ensures.position) c.ok.ensures.value)
