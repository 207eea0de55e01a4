use Rattle.std.proofs.Common.{◌↔◌, ℕ, List, IsTrue, refl, subst}
use Rattle.std.specs.List.Sorted.{IsPermutation, IsStrictlyIncreasing}
use Rattle.nc_base.proofs.Sorting.{distinct_sorted, rising_distinct}
use Rattle.nc_base.proofs.distinct.are_distinct.Goals as goal

pub returns : goal.returns
returns c =
    let sorted = c.sort.new.self.items in
    let from : IsPermutation c.args.numbers.now sorted = subst (λ (xs : List ℕ). IsPermutation xs sorted) c.in_ok-sorted.ensures.items c.in_ok-sort.ensures.permutation in
    let rising : IsTrue c.is_rising-2.result ↔ IsStrictlyIncreasing sorted = subst (λ (xs : List ℕ). IsTrue c.is_rising-2.result ↔ IsStrictlyIncreasing xs) c.as_slice.ensures.value c.is_rising-2.ensures in
    distinct_sorted c.args.numbers.now sorted c.is_rising-2.result from c.in_ok-sort.ensures.sorted rising

pub returns-then-is_rising : goal.returns-then-is_rising
returns-then-is_rising c = (λ _. rising_distinct c.args.numbers.now (c.is_rising.ensures.0 c.if-is_rising.true), λ _. refl)
