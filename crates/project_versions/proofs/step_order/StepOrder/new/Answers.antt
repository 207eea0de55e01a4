use Rattle.std.proofs.Common.{◌≡◌, List, ℕ, subst, rules}
use Rattle.std.specs.List.Sorted.{IsPermutation}
use Rattle.project_versions.proofs.StepLemmas.{ordered}
use Rattle.project_versions.proofs.step_order.StepOrder.new.Goals as goal

pub invariant_of-result : goal.invariant_of-result
invariant_of-result c =
    let copied : c.in_ok-order.order.items ≡ c.in_ok-steps.steps.items = search rules in
    ordered c.in_ok-steps.steps.items c.sort.new.self.items c.dedup.new.self.items
    (subst (λ (ns : List ℕ). IsPermutation ns c.sort.new.self.items) copied c.in_ok-sort.ensures.permutation)
    c.in_ok-sort.ensures.sorted c.dedup.ensures.filtered
