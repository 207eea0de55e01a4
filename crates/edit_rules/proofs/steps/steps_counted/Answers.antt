use Rattle.std.proofs.Common.{◌≡◌, List, ℕ, sym, subst}
use Rattle.std.specs.List.Sorted.{IsPermutation, IsNonDecreasing}
use Rattle.std.proofs.lemmas.Result.{err_from_is_err_and}
use Rattle.std.proofs.lemmas.List.Sorted.{IsPermutation-sym, IsNonDecreasingBy-from_sort, IsNonDecreasingBy-from_all_adjacent}
use Rattle.project_store.specs.Entities.{entity_at}
use Rattle.step_def.specs.Condition.{is_workingstep}
use Rattle.edit_rules.specs.Faults.{has_def}
use Rattle.edit_rules.proofs.FaultLemmas.{ordered_first, all_first, all_moved, fault_moved}
use Rattle.edit_rules.proofs.steps.steps_counted.Goals as goal

pub steps_in_order-requires-clause-least_first : goal.steps_in_order-requires-clause-least_first
steps_in_order-requires-clause-least_first g c =
    ordered_first c.args.store.now c.args.numbers.now (IsNonDecreasingBy-from_all_adjacent (λ (n : ℕ). n) c.args.numbers.now (c.are_ordered.ensures c.if-are_ordered.true))

-- the copy that is sorted has the same numbers
moved : (ns copy sorted slice : List ℕ) → copy ≡ ns → IsPermutation copy sorted → slice ≡ sorted → IsPermutation ns slice
moved ns copy sorted slice same to there = subst (λ (xs : List ℕ). IsPermutation xs slice) same (subst (λ (xs : List ℕ). IsPermutation copy xs) (sym there) to)

pub steps_in_order-requires-2-clause-workingsteps : goal.steps_in_order-requires-2-clause-workingsteps
steps_in_order-requires-2-clause-workingsteps g c =
    all_moved (is_workingstep (entity_at c.args.store.now)) c.args.numbers.now c.as_slice.result.now
    (moved c.args.numbers.now c.in_ok-ordered.ordered.items c.sort.new.self.items c.as_slice.result.now c.in_ok-ordered.ensures.items c.in_ok-sort.ensures.permutation c.as_slice.ensures.value) c.requires.workingsteps

pub steps_in_order-requires-2-clause-least_first : goal.steps_in_order-requires-2-clause-least_first
steps_in_order-requires-2-clause-least_first g c =
    ordered_first c.args.store.now c.as_slice.result.now
    (subst (λ (xs : List ℕ). IsNonDecreasing xs) (sym c.as_slice.ensures.value) (IsNonDecreasingBy-from_sort (λ (n : ℕ). n) c.sort.new.self.items c.in_ok-sort.ensures.sorted))

pub returns-in_err-steps_in_order : goal.returns-in_err-steps_in_order
returns-in_err-steps_in_order g c =
    let p = err_from_is_err_and c.from_residual-in_err-steps_in_order.result c.from_residual-in_err-steps_in_order.ensures.1 in
    rw (p.1, p.2) (fault_moved c.args.store.now c.args.numbers.now c.as_slice.result.now c.in_err-steps_in_order.field-0.0
    (moved c.args.numbers.now c.in_ok-ordered.ordered.items c.sort.new.self.items c.as_slice.result.now c.in_ok-ordered.ensures.items c.in_ok-sort.ensures.permutation c.as_slice.ensures.value) c.in_err-steps_in_order.ensures)

pub steps_in_order-requires-3-clause-least_first : goal.steps_in_order-requires-3-clause-least_first
steps_in_order-requires-3-clause-least_first g c =
    let to = moved c.args.numbers.now c.in_ok-ordered.ordered.items c.sort.new.self.items c.as_slice.result.now c.in_ok-ordered.ensures.items c.in_ok-sort.ensures.permutation c.as_slice.ensures.value in
    all_first c.args.store.now c.args.numbers.now
    (all_moved (has_def c.args.store.now) c.as_slice.result.now c.args.numbers.now (IsPermutation-sym c.args.numbers.now c.as_slice.result.now to) c.in_ok-steps_in_order.ensures.1)
