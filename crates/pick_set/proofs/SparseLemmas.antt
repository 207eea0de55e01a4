-- The picks of one node in its slots.
use Rattle.std.specs.Prelude.{◌≡◌, ◌≢◌, ◌<◌, ◌≤◌, ◌+◌, ◌||◌, ℕ, zero, suc, Bool, true, false, List, ◌∷◌, length, get_or, slice_index, nat_eq, nat_lt}
use Rattle.std.proofs.Common.{refl, sym, ◌∙◌, ap, subst, arith}
use Rattle.std.specs.List.{list_any}
use Rattle.std.proofs.lemmas.List.{get_or_default}
use Rattle.std.proofs.lemmas.Bool.Decides.{nat_tests, Decides-eqb}
use Rattle.std.proofs.lemmas.Map.Made.{IsDistinct-from_AllPairs}
use Rattle.std.proofs.lemmas.Map.Steps.{length-le_from_distinct_below}
use Rattle.std.proofs.Math.Dec.{eqb}
use Rattle.pick_set.specs.Picks.{is_picked}
use Rattle.pick_set.specs.Rows.{picks_of, IsSparse}
use Rattle.pick_set.specs.declared.row.Row.{Row}
use Rattle.pick_set.proofs.ListLemmas.{clash, same_number, same_test, window_length, window_at, any_where, picked_where, picked_at, not_picked_at}

pub as_many : (row : Row) (order spot : List ℕ) → IsSparse row order spot → length (picks_of row order) ≡ row.count
as_many row order spot s = window_length row.base row.count order (let r = s.order_room in let f = s.few in omega arith)

pub pick_at : (row : Row) (order spot : List ℕ) (i : ℕ) → IsSparse row order spot → i < row.count → get_or (picks_of row order) i 0 ≡ slice_index order (row.base + i)
pick_at row order spot i s h = window_at row.base row.count i order h

-- a pick is of an element, and its spot leads to it
pub picked_spot : (row : Row) (order spot : List ℕ) (k : ℕ) → IsSparse row order spot → is_picked (picks_of row order) k ≡ true
    → (k < row.room) × (slice_index spot (row.base + k) < row.count) × (slice_index order (row.base + slice_index spot (row.base + k)) ≡ k)
picked_spot row order spot k s h =
    let w = picked_where (picks_of row order) k h in
    let i = w.0 in
    let less : i < row.count = subst (λ (n : ℕ). i < n) (as_many row order spot s) w.1 in
    let is : slice_index order (row.base + i) ≡ k = sym (pick_at row order spot i s less) ∙ w.2 in
    let back : slice_index spot (row.base + k) ≡ i = ap (λ (j : ℕ). slice_index spot (row.base + j)) (sym is) ∙ s.found i less in (
      subst (λ (j : ℕ). j < row.room) is (s.below i less),
      subst (λ (j : ℕ). j < row.count) (sym back) less,
      ap (λ (j : ℕ). slice_index order (row.base + j)) back ∙ is,
    )

not_true : (b : Bool) → (b ≡ true → ⊥) → false ≡ b
not_true true h = absurd (h refl)
not_true false h = refl

pub beyond : (row : Row) (order spot : List ℕ) (k : ℕ) → IsSparse row order spot → row.room ≤ k → false ≡ is_picked (picks_of row order) k
beyond row order spot k s h = not_true (is_picked (picks_of row order) k) (λ e. (let r = (picked_spot row order spot k s e).0 in omega arith))

pub unpicked_spot : (row : Row) (order spot : List ℕ) (k : ℕ) → IsSparse row order spot → row.count ≤ slice_index spot (row.base + k) → nat_lt (slice_index spot (row.base + k)) row.count ≡ is_picked (picks_of row order) k
unpicked_spot row order spot k s h =
    not_less (slice_index spot (row.base + k)) row.count h ∙ not_true (is_picked (picks_of row order) k) (λ e. (let r = (picked_spot row order spot k s e).1 in omega arith))
  where
    not_less : (a b : ℕ) → b ≤ a → nat_lt a b ≡ false
    not_less a b l = grind (arith, nat_tests)

pub spot_says : (row : Row) (order spot : List ℕ) (k : ℕ) → IsSparse row order spot → slice_index spot (row.base + k) < row.count
    → nat_eq (slice_index order (row.base + slice_index spot (row.base + k))) k ≡ is_picked (picks_of row order) k
spot_says row order spot k s h = go (nat_eq (slice_index order (row.base + at)) k) refl
  where
    at : ℕ
    at = slice_index spot (row.base + k)

    go : (b : Bool) → nat_eq (slice_index order (row.base + slice_index spot (row.base + k))) k ≡ b → nat_eq (slice_index order (row.base + slice_index spot (row.base + k))) k ≡ is_picked (picks_of row order) k
    go true e =
        let there = slice_index spot (row.base + k) in
        e ∙ sym (picked_at (picks_of row order) k there (subst (λ (n : ℕ). there < n) (sym (as_many row order spot s)) h) (pick_at row order spot there s h ∙ same_number (slice_index order (row.base + there)) k e))
    go false e = e ∙ not_true (is_picked (picks_of row order) k) (λ p. clash (nat_eq (slice_index order (row.base + slice_index spot (row.base + k))) k) (same_test _ k (picked_spot row order spot k s p).2) e)

-- where one is left, not all were picked
pub room_left : (row : Row) (order spot : List ℕ) (k : ℕ) → IsSparse row order spot → k < row.room → is_picked (picks_of row order) k ≡ false → row.count < row.room
room_left row order spot k s l n =
    let ks = picks_of row order in
    let many = as_many row order spot s in
    let few = length-le_from_distinct_below (k ∷ ks) row.room (IsDistinct-from_AllPairs {eq = eqb} (λ a b. Decides-eqb a b) (k ∷ ks) (λ i j d h g. apart i j d h g)) (λ q h. below q h) in
    omega (arith, few, many)
  where
    here : (i : ℕ) → i < length (picks_of row order) → i < row.count
    here i h = subst (λ (m : ℕ). i < m) (as_many row order spot s) h

    apart : (i j : ℕ) (d : ℕ) → i < j → j < suc (length (picks_of row order)) → get_or (k ∷ picks_of row order) i d ≢ get_or (k ∷ picks_of row order) j d
    apart i zero d h g = absurd (omega (arith, h))
    apart zero (suc j) d h g = λ e. not_picked_at (picks_of row order) k j n (omega (arith, g)) (get_or_default (picks_of row order) j 0 d (omega (arith, g)) ∙ sym e)
    apart (suc i) (suc j) d h g = λ e.
        let ks = picks_of row order in
        let gj : j < length ks = omega (arith, g) in
        let gi : i < length ks = omega (arith, g, h) in
        let same : slice_index order (row.base + i) ≡ slice_index order (row.base + j) =
        sym (pick_at row order spot i s (here i gi)) ∙ (get_or_default ks i 0 d gi ∙ (e ∙ (sym (get_or_default ks j 0 d gj) ∙ pick_at row order spot j s (here j gj)))) in
        let one : i ≡ j = sym (s.found i (here i gi)) ∙ (ap (λ (m : ℕ). slice_index spot (row.base + m)) same ∙ s.found j (here j gj)) in
        omega (arith, one, h)

    below : (q : ℕ) → list_any (eqb q) (k ∷ picks_of row order) ≡ true → q < row.room
    below q h = go (eqb q k) refl
      where
        go : (b : Bool) → eqb q k ≡ b → q < row.room
        go true e = let w : q ≡ k = same_number q k e in omega (arith, w, l)
        go false e =
            let w = any_where (eqb q) (picks_of row order) (sym (ap (λ (b : Bool). b || list_any (eqb q) (picks_of row order)) e) ∙ h) in
            let is : q ≡ get_or (picks_of row order) w.0 0 = same_number q _ w.2 in
            let less = here w.0 w.1 in
            subst (λ (m : ℕ). m < row.room) (sym (is ∙ pick_at row order spot w.0 s less)) (s.below w.0 less)
