-- Distinct numbers, in order and not.
use Rattle.std.proofs.Common.{◌≡◌, ◌↔◌, ℕ, ◌<◌, nat_eq, Bool, false, IsTrue, List, get_or, arith}
use Rattle.std.specs.List.{IsDistinct}
use Rattle.std.specs.List.Sorted.{IsPermutation, IsSorted, IsStrictlyIncreasing}
use Rattle.std.specs.Ordering.{nat_cmp}
use Rattle.std.proofs.lemmas.Bool.Decides.{nat_tests}
use Rattle.std.proofs.lemmas.List.Sorted.{IsPermutation-sym, IsNonDecreasingBy-from_sort}
use Rattle.std.proofs.lemmas.Map.Keys.{IsDistinct-from_apart, IsDistinct-IsPermutation, IsStrictlyIncreasing-from_distinct, sorted_from_strictly_increasing, below_from_sorted}

flips : (x y : ℕ) → nat_eq x y ≡ nat_eq y x
flips x y = grind (arith, nat_tests)

apart : (m n : ℕ) → m < n → nat_eq m n ≡ false
apart m n lt = grind (arith, nat_tests)

pub rising_distinct : (xs : List ℕ) → IsStrictlyIncreasing xs → IsDistinct nat_eq xs
rising_distinct xs h = IsDistinct-from_apart nat_eq xs (λ i j d lt within. apart (get_or xs i d) (get_or xs j d) (below_from_sorted xs i j d (sorted_from_strictly_increasing xs h) lt within))

-- sorted numbers rise where they are distinct in whatever order
pub distinct_sorted : (numbers sorted : List ℕ) (r : Bool) → IsPermutation numbers sorted → IsSorted nat_cmp sorted → (IsTrue r ↔ IsStrictlyIncreasing sorted) → IsTrue r ↔ IsDistinct nat_eq numbers
distinct_sorted numbers sorted r p s rising = (
  λ yes. IsDistinct-IsPermutation nat_eq flips sorted numbers (IsPermutation-sym numbers sorted p) (rising_distinct sorted (rising.0 yes)),
  λ distinct. rising.1 (IsStrictlyIncreasing-from_distinct sorted (IsNonDecreasingBy-from_sort (λ n. n) sorted s) (IsDistinct-IsPermutation nat_eq flips numbers sorted p distinct)),
)
