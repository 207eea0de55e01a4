-- Filters of lists, and lists that are changed at one place.
use Rattle.std.proofs.Common.{◌≡◌, ◌≤◌, ◌<◌, ◌+◌, ℕ, zero, suc, Bool, true, false, not, cond, List, [], ◌∷◌, Some, None, length, map, filter, nat_lt, refl, sym, ◌∙◌, ap, arith}
use Rattle.std.specs.List.{list_all, slice_get, position, position_or_len, count_by, find}
use Rattle.std.proofs.lemmas.Bool.{and_parts, cond-true, cond-false, cond_both, ltb-true, ltb-false}
use Rattle.std.proofs.lemmas.List.{length-map}
use Rattle.std.proofs.lemmas.List.Sums.{length-filter}
use Rattle.std.proofs.lemmas.List.Folds.{find_at}
use Rattle.std.proofs.lemmas.List.Recursion.{is_position_or_len}
use Rattle.std.proofs.lemmas.Option.{slice_get_past}
use Rattle.std.proofs.lemmas.Bool.Decides.{nat_tests}

pub filter-yes : {X : Type 0} (p : X → Bool) (x : X) (xs : List X) → p x ≡ true → filter p (x ∷ xs) ≡ x ∷ filter p xs
filter-yes p x xs h = cond-true (p x) (x ∷ filter p xs) (filter p xs) h

pub filter-no : {X : Type 0} (p : X → Bool) (x : X) (xs : List X) → p x ≡ false → filter p (x ∷ xs) ≡ filter p xs
filter-no p x xs h = cond-false (p x) (x ∷ filter p xs) (filter p xs) h

-- a test that g doesn't change
pub filter-map_same : {X : Type 0} (p : X → Bool) (g : X → X) → ((x : X) → p (g x) ≡ p x) → (xs : List X) → filter p (map g xs) ≡ map g (filter p xs)
filter-map_same p g same [] = refl
filter-map_same p g same (x ∷ xs) =
    let more = filter-map_same p g same xs in
    let here = same x in
    grind (arith, nat_tests)

pub filter_comm : {X : Type 0} (p q : X → Bool) (xs : List X) → filter p (filter q xs) ≡ filter q (filter p xs)
filter_comm p q [] = refl
filter_comm p q (x ∷ xs) =
    let more = filter_comm p q xs in
    grind (arith, nat_tests, filter-yes, filter-no)

-- one test follows from the other, or excludes it
pub filter_within : {X : Type 0} (p q : X → Bool) → ((x : X) → q x ≡ true → p x ≡ true) → (xs : List X) → filter p (filter q xs) ≡ filter q xs
filter_within p q h [] = refl
filter_within p q h (x ∷ xs) =
    let more = filter_within p q h xs in
    let here = h x in
    grind (arith, nat_tests, filter-yes, filter-no)

pub filter_without : {X : Type 0} (p q : X → Bool) → ((x : X) → q x ≡ true → p x ≡ false) → (xs : List X) → filter p (filter q xs) ≡ []
filter_without p q h [] = refl
filter_without p q h (x ∷ xs) =
    let more = filter_without p q h xs in
    let here = h x in
    grind (arith, nat_tests, filter-yes, filter-no)

-- fewer pass both tests than one
pub length-filter_filter : {X : Type 0} (p q : X → Bool) (xs : List X) → length (filter p (filter q xs)) ≤ length (filter p xs)
length-filter_filter p q [] = omega arith
length-filter_filter p q (x ∷ xs) =
    let more = length-filter_filter p q xs in
    grind (arith, nat_tests, filter-yes, filter-no)

pub list_all-filter : {X : Type 0} (p q : X → Bool) (xs : List X) → list_all p xs ≡ true → list_all p (filter q xs) ≡ true
list_all-filter p q [] h = refl
list_all-filter p q (x ∷ xs) h =
    let both = and_parts (p x) (list_all p xs) h in
    let more = list_all-filter p q xs both.1 in
    grind (arith, nat_tests)

pub list_all-map_same : {X : Type 0} (p : X → Bool) (g : X → X) → ((x : X) → p (g x) ≡ p x) → (xs : List X) → list_all p (map g xs) ≡ list_all p xs
list_all-map_same p g same [] = refl
list_all-map_same p g same (x ∷ xs) = rw (same x, list_all-map_same p g same xs) refl

-- all pass a test, and none does
pub filter_everything : {X : Type 0} (p : X → Bool) (xs : List X) → list_all p xs ≡ true → filter p xs ≡ xs
filter_everything p [] h = refl
filter_everything {X = X} p (x ∷ xs) h =
    let both = and_parts (p x) (list_all p xs) h in
    filter-yes p x xs both.0 ∙ ap (λ (ys : List X). x ∷ ys) (filter_everything p xs both.1)

pub filter_nothing : {X : Type 0} (p : X → Bool) (xs : List X) → find p xs ≡ None → filter p xs ≡ []
filter_nothing p [] h = refl
filter_nothing p (x ∷ xs) h =
    let more = filter_nothing p xs in
    grind (arith, nat_tests, filter-yes, filter-no)

pub find_passes : {X : Type 0} (p : X → Bool) (xs : List X) (x : X) → find p xs ≡ Some x → p x ≡ true
find_passes p [] x h = cc
find_passes p (y ∷ xs) x h =
    let more = find_passes p xs x in
    grind (arith, nat_tests)

-- an element that passes is counted
pub found_among : {X : Type 0} (p : X → Bool) (xs : List X) (i : ℕ) (x : X) → slice_get xs i ≡ Some x → p x ≡ true → 1 ≤ length (filter p xs)
found_among p [] i x at h = cc
found_among p (y ∷ xs) zero x at h =
    let same : y ≡ x = cc in
    let first = filter-yes p y xs (ap p same ∙ h) in
    rw first (omega arith)
found_among p (y ∷ xs) (suc i) x at h =
    let more = found_among p xs i x at h in
    grind (arith, nat_tests, filter-yes, filter-no)

pub filter-map : {X Y : Type 0} (f : X → Y) (p : Y → Bool) (xs : List X) → filter p (map f xs) ≡ map f (filter (λ x. p (f x)) xs)
filter-map f p [] = refl
filter-map f p (x ∷ xs) =
    let more = filter-map f p xs in
    grind (arith, nat_tests)

-- how many pass a test of what f makes of them
pub count_by-map : {X Y : Type 0} (f : X → Y) (p : Y → Bool) (xs : List X) → count_by p (map f xs) ≡ length (filter (λ x. p (f x)) xs)
count_by-map f p xs = sym (length-filter p (map f xs)) ∙ ap length (filter-map f p xs) ∙ length-map (filter (λ x. p (f x)) xs) f

prefix_step : (b : Bool) (n : ℕ) → cond (not b) (1 + n) 0 ≡ cond b 0 (1 + n)
prefix_step true n = refl
prefix_step false n = refl

position_or_len-map : {X Y : Type 0} (f : X → Y) (p : Y → Bool) (xs : List X) → position_or_len p (map f xs) ≡ position_or_len (λ x. p (f x)) xs
position_or_len-map f p xs = is_position_or_len (λ ys. position_or_len p (map f ys)) (λ x. p (f x)) refl (λ x ys. prefix_step (p (f x)) _) xs

pub find_index : {X Y : Type 0} (f : X → Y) (p : Y → Bool) (xs : List X) (i : ℕ) → position p (map f xs) ≡ Some i → slice_get xs i ≡ find (λ x. p (f x)) xs
find_index f p xs i h =
    let n = position_or_len-map f p xs in
    let at = find_at (λ x. p (f x)) xs in
    let same : position_or_len p (map f xs) ≡ i = cond_both (nat_lt (position_or_len p (map f xs)) (length (map f xs))) (Some (position_or_len p (map f xs))) None (λ o. o ≡ Some i → position_or_len p (map f xs) ≡ i) (λ _ e. cc) (λ _ e. cc) h in
    cc

pub find_within : {X Y : Type 0} (f : X → Y) (p : Y → Bool) (xs : List X) (i : ℕ) → position p (map f xs) ≡ Some i → i < length xs
find_within f p xs i h =
    let low : i < length (map f xs) = cond_both (nat_lt (position_or_len p (map f xs)) (length (map f xs))) (Some (position_or_len p (map f xs))) None (λ o. o ≡ Some i → i < length (map f xs)) (λ e s. (let same : position_or_len p (map f xs) ≡ i = cc in omega (arith, ltb-true _ _ e))) (λ _ e. cc) h in
    omega (arith, length-map xs f)

pub find_none : {X Y : Type 0} (f : X → Y) (p : Y → Bool) (xs : List X) → position p (map f xs) ≡ None → find (λ x. p (f x)) xs ≡ None
find_none f p xs h =
    let n = position_or_len-map f p xs in
    let at = find_at (λ x. p (f x)) xs in
    let long : length (map f xs) ≤ position_or_len p (map f xs) = cond_both (nat_lt (position_or_len p (map f xs)) (length (map f xs))) (Some (position_or_len p (map f xs))) None (λ o. o ≡ None → length (map f xs) ≤ position_or_len p (map f xs)) (λ _ e. cc) (λ e _. ltb-false _ _ e) h in
    at ∙ slice_get_past xs _ (omega (arith, length-map xs f))
