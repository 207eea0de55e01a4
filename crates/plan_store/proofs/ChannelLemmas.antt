-- Steps that stand in windows are the windows of the channels, one behind the other.
use Rattle.std.proofs.Common.{◌≡◌, ◌≤◌, ◌<◌, ◌+◌, ℕ, zero, suc, Bool, true, false, List, [], ◌∷◌, ◌++◌, filter, nat_eq, nat_lt, nat_le, refl, sym, ◌∙◌, ap, subst, inl, inr, arith}
use Rattle.std.specs.List.{list_all, flat_map, range_with_len}
use Rattle.std.proofs.lemmas.Bool.{cases_eq, cases_lt, leb-true, leb-false, le-leb, lt-leb, lt-ltb, le-ltb, eq-eqb, ne_eqb, ltb-true}
use Rattle.std.proofs.lemmas.Bool.Decides.{nat_tests}
use Rattle.plan_store.specs.declared.limits.TheConstants.{WINDOW_CHANNELS}
use Rattle.plan_store.specs.StepAhead.{StepAhead, window, up_to, behind}
use Rattle.plan_store.specs.Windows.{AreWindows}
use Rattle.plan_store.proofs.ListLemmas.{filter-yes, filter-no, filter_everything, filter_without}
use Rattle.plan_store.proofs.WindowLemmas.{windows_filter}

-- two tests in a row that are one
filter_as : {X : Type 0} (p q r : X → Bool) → ((x : X) → q x ≡ true → p x ≡ r x) → ((x : X) → q x ≡ false → r x ≡ false) → (xs : List X) → filter p (filter q xs) ≡ filter r xs
filter_as p q r with_q without_q [] = refl
filter_as p q r with_q without_q (x ∷ xs) =
    let more = filter_as p q r with_q without_q xs in
    let there = with_q x in
    let gone = without_q x in
    grind (arith, nat_tests, filter-yes, filter-no)

-- the steps of the channels from this one on
from : List StepAhead → ℕ → List StepAhead
from xs s = filter (λ a. nat_le s a.channel) xs

least_is : (s c : ℕ) → nat_le s c ≡ true → nat_le c s ≡ nat_eq c s
least_is s c h =
    elim (cases_eq c s) [
      | inl e ↦ le-leb c s (subst (λ n. c ≤ n) e (omega arith)) ∙ sym (eq-eqb c s e)
      | inr e ↦ (let above : s < c = omega (arith, leb-true s c h) in lt-leb c s above ∙ sym (ne_eqb c s e))
    ]

next_is : (s c : ℕ) → nat_le s c ≡ true → nat_lt s c ≡ nat_le (suc s) c
next_is s c h =
    elim (cases_lt s c) [
      | inl e ↦ lt-ltb s c e ∙ sym (le-leb (suc s) c (omega arith))
      | inr e ↦ le-ltb s c e ∙ sym (lt-leb (suc s) c (omega arith))
    ]

from_step : (xs : List StepAhead) (s : ℕ) → AreWindows xs → from xs s ≡ window xs s ++ from xs (suc s)
unfolding from
from_step xs s w =
    let q : StepAhead → Bool = λ a. nat_le s a.channel in
    let apart = (windows_filter q xs w).in_order s in
    let low : up_to (filter q xs) s ≡ window xs s = filter_as (λ a. nat_le a.channel s) q (λ a. nat_eq a.channel s) (λ a e. least_is s a.channel e) (λ a e. ne_eqb a.channel s (λ same. absurd (omega (arith, leb-false s a.channel e, same)))) xs in
    let high : behind (filter q xs) s ≡ filter (λ a. nat_le (suc s) a.channel) xs = filter_as (λ a. nat_lt s a.channel) q (λ a. nat_le (suc s) a.channel) (λ a e. next_is s a.channel e) (λ a e. lt-leb (suc s) a.channel (omega (arith, leb-false s a.channel e))) xs in
    sym apart ∙ ap (λ ys. ys ++ behind (filter q xs) s) low ∙ ap (λ ys. window xs s ++ ys) high

windows_from : (xs : List StepAhead) → AreWindows xs → (n s e : ℕ) → s + n ≡ e → list_all (λ a. nat_lt a.channel e) xs ≡ true → flat_map (window xs) (range_with_len s n) ≡ from xs s
unfolding from
windows_from xs w zero s e end within =
    let all = filter_everything (λ a. nat_lt a.channel e) xs within in
    let none = filter_without (λ a. nat_le s a.channel) (λ a. nat_lt a.channel e) (λ a h. lt-leb s a.channel (omega (arith, ltb-true a.channel e h))) xs in
    sym (ap (filter (λ a. nat_le s a.channel)) (sym all) ∙ none)
windows_from xs w (suc n) s e end within =
    let more : flat_map (window xs) (range_with_len (suc s) n) ≡ from xs (suc s) = windows_from xs w n (suc s) e (omega arith) within in
    let next : s + 1 ≡ suc s = omega arith in
    ap (λ k. window xs s ++ flat_map (window xs) (range_with_len k n)) next ∙ ap (λ ys. window xs s ++ ys) more ∙ sym (from_step xs s w)

from_first : (xs : List StepAhead) → from xs 0 ≡ xs
unfolding from
from_first [] = refl
from_first (x ∷ xs) = filter-yes (λ a. nat_le 0 a.channel) x xs (le-leb 0 x.channel (omega arith)) ∙ ap (λ ys. x ∷ ys) (from_first xs)

pub windows_in_a_row : (xs : List StepAhead) → AreWindows xs → flat_map (window xs) (range_with_len 0 WINDOW_CHANNELS) ≡ xs
windows_in_a_row xs w = windows_from xs w WINDOW_CHANNELS 0 WINDOW_CHANNELS (omega arith) w.channels ∙ from_first xs
