-- The windows stay windows where steps are changed, taken and placed, and where one of them has room the store has.
use Rattle.std.proofs.Common.{◌≡◌, ◌≤◌, ◌<◌, ◌+◌, ◌*◌, ℕ, zero, suc, Bool, true, false, not, cond, List, [], ◌∷◌, ◌++◌, length, map, filter, nat_eq, nat_lt, nat_le, refl, sym, ◌∙◌, ap, subst, inl, inr, arith}
use Rattle.std.proofs.lemmas.Bool.{and_from, cases_Bool, eqb-true, cases_lt, cases_eq, leb-true, ltb-true, le-leb, lt-leb, lt-ltb, le-ltb}
use Rattle.std.proofs.lemmas.Bool.Decides.{nat_tests}
use Rattle.std.proofs.lemmas.List.{length-map, length-append, map-append, append_assoc, append-nil}
use Rattle.std.proofs.lemmas.List.Elements.{filter-append}
use Rattle.std.proofs.lemmas.List.Folds.{list_all-append}
use Rattle.plan_store.specs.declared.limits.TheConstants.{WINDOW_CHANNELS, MAX_WINDOW, MAX_TICKETS}
use Rattle.plan_store.specs.StepAhead.{StepAhead, is_step, window, up_to, behind, changed, taken, placed, wanted}
use Rattle.plan_store.specs.Windows.{AreWindows}
use Rattle.plan_store.proofs.ListLemmas.{filter-yes, filter-no, filter-map_same, filter_comm, filter_within, filter_without, length-filter_filter, list_all-filter, list_all-map_same, filter_everything}

-- a change that leaves steps and channels
windows_map : (g : StepAhead → StepAhead) → ((a : StepAhead) → (g a).step ≡ a.step) → ((a : StepAhead) → (g a).channel ≡ a.channel) → (xs : List StepAhead) → AreWindows xs → AreWindows (map g xs)
windows_map g s c xs w = record {
  channels = list_all-map_same (λ a. nat_lt a.channel WINDOW_CHANNELS) g (λ a. ap (λ k. nat_lt k WINDOW_CHANNELS) (c a)) xs ∙ w.channels;
  in_order = λ k.
      let before = filter-map_same (λ a. nat_le a.channel k) g (λ a. ap (λ n. nat_le n k) (c a)) xs in
      let after = filter-map_same (λ a. nat_lt k a.channel) g (λ a. ap (λ n. nat_lt k n) (c a)) xs in
      let both = map-append g (up_to xs k) (behind xs k) in
      let same = ap (map g) (w.in_order k) in
      cc;
  few = λ k.
      let same = ap length (filter-map_same (λ a. nat_eq a.channel k) g (λ a. ap (λ n. nat_eq n k) (c a)) xs) ∙ length-map (window xs k) g in
      subst (λ n. n ≤ MAX_WINDOW) (sym same) (w.few k);
  once = λ n.
      let same = ap length (filter-map_same (is_step n) g (λ a. ap (λ m. nat_eq m n) (s a)) xs) ∙ length-map (filter (is_step n) xs) g in
      subst (λ m. m ≤ 1) (sym same) (w.once n);
}

pub windows_changed : (n : ℕ) (f : StepAhead → StepAhead) → ((a : StepAhead) → (f a).step ≡ a.step) → ((a : StepAhead) → (f a).channel ≡ a.channel) → (xs : List StepAhead) → AreWindows xs → AreWindows (changed n f xs)
windows_changed n f s c xs w =
    windows_map
    (λ a. cond (is_step n a) (f a) a)
    (λ a. elim (is_step n a) as (λ b. (cond b (f a) a).step ≡ a.step) [ true ↦ s a | false ↦ refl ])
    (λ a. elim (is_step n a) as (λ b. (cond b (f a) a).channel ≡ a.channel) [ true ↦ c a | false ↦ refl ])
    xs
    w

pub windows_filter : (q : StepAhead → Bool) (xs : List StepAhead) → AreWindows xs → AreWindows (filter q xs)
windows_filter q xs w = record {
  channels = list_all-filter (λ a. nat_lt a.channel WINDOW_CHANNELS) q xs w.channels;
  in_order = λ k.
      let before = filter_comm (λ a. nat_le a.channel k) q xs in
      let after = filter_comm (λ a. nat_lt k a.channel) q xs in
      let both = filter-append q (up_to xs k) (behind xs k) in
      let same = ap (filter q) (w.in_order k) in
      cc;
  few = λ k. omega (arith, length-filter_filter (λ a. nat_eq a.channel k) q xs, w.few k);
  once = λ n. omega (arith, length-filter_filter (is_step n) q xs, w.once n);
}

pub windows_taken : (n : ℕ) (xs : List StepAhead) → AreWindows xs → AreWindows (taken xs n)
windows_taken n xs w = windows_filter (λ a. not (is_step n a)) xs w

-- what a step more adds to a count
counted_placed : (p : StepAhead → Bool) (xs : List StepAhead) (n c v : ℕ) → AreWindows xs → length (filter p (placed xs n c v)) ≡ length (filter p (wanted n c v ∷ [])) + length (filter p xs)
counted_placed p xs n c v w =
    let a = wanted n c v in
    let new = ap length (filter-append p (up_to xs c) (a ∷ behind xs c)) ∙ length-append (filter p (up_to xs c)) (filter p (a ∷ behind xs c)) in
    let one = ap length (filter-append p (a ∷ []) (behind xs c)) ∙ length-append (filter p (a ∷ [])) (filter p (behind xs c)) in
    let old = ap length (ap (filter p) (sym (w.in_order c)) ∙ filter-append p (up_to xs c) (behind xs c)) ∙ length-append (filter p (up_to xs c)) (filter p (behind xs c)) in
    omega arith

few_placed : (p : StepAhead → Bool) (xs : List StepAhead) (n c v most : ℕ) → AreWindows xs → (p (wanted n c v) ≡ true → length (filter p xs) < most) → length (filter p xs) ≤ most → length (filter p (placed xs n c v)) ≤ most
few_placed p xs n c v most w room few =
    let all = counted_placed p xs n c v w in
    elim (cases_Bool (p (wanted n c v))) [
      | inl h ↦ (let one = ap length (filter-yes p (wanted n c v) [] h) in let r = room h in omega arith)
      | inr h ↦ (let one = ap length (filter-no p (wanted n c v) [] h) in omega arith)
    ]

-- the channels up to a later one, and those behind an earlier one
order_placed : (xs : List StepAhead) (n c v k : ℕ) → AreWindows xs → up_to (placed xs n c v) k ++ behind (placed xs n c v) k ≡ placed xs n c v
order_placed xs n c v k w =
    let a = wanted n c v in
    let low = up_to xs c in
    let high = behind xs c in
    let ps : StepAhead → Bool = λ x. nat_le x.channel k in
    let qs : StepAhead → Bool = λ x. nat_lt k x.channel in
    let p_split = filter-append ps low (a ∷ high) in
    let q_split = filter-append qs low (a ∷ high) in
    elim (cases_lt k c) [
      | inl h ↦ (
          let low_in = (windows_filter (λ x. nat_le x.channel c) xs w).in_order k in
          let p_here = filter-no ps a high (lt-leb c k h) in
          let p_high = filter_without ps (λ x. nat_lt c x.channel) (λ x e. lt-leb x.channel k (omega (arith, ltb-true c x.channel e))) xs in
          let q_here = filter-yes qs a high (lt-ltb k c h) in
          let q_high = filter_within qs (λ x. nat_lt c x.channel) (λ x e. lt-ltb k x.channel (omega (arith, ltb-true c x.channel e))) xs in
          let p_all : filter ps (low ++ a ∷ high) ≡ filter ps low = p_split ∙ ap (λ ys. filter ps low ++ ys) (p_here ∙ p_high) ∙ append-nil (filter ps low) in
          let q_all : filter qs (low ++ a ∷ high) ≡ filter qs low ++ a ∷ high = q_split ∙ ap (λ ys. filter qs low ++ ys) (q_here ∙ ap (λ ys. a ∷ ys) q_high) in
          rw (p_all, q_all) (sym (append_assoc (filter ps low) (filter qs low) (a ∷ high)) ∙ ap (λ ys. ys ++ a ∷ high) low_in))
      | inr h ↦ (
          let high_in = (windows_filter (λ x. nat_lt c x.channel) xs w).in_order k in
          let p_here = filter-yes ps a high (le-leb c k h) in
          let p_low = filter_within ps (λ x. nat_le x.channel c) (λ x e. le-leb x.channel k (omega (arith, leb-true x.channel c e))) xs in
          let q_here = filter-no qs a high (le-ltb k c h) in
          let q_low = filter_without qs (λ x. nat_le x.channel c) (λ x e. le-ltb k x.channel (omega (arith, leb-true x.channel c e))) xs in
          let p_all : filter ps (low ++ a ∷ high) ≡ low ++ a ∷ filter ps high = p_split ∙ ap (λ ys. ys ++ filter ps (a ∷ high)) p_low ∙ ap (λ ys. low ++ ys) p_here in
          let q_all : filter qs (low ++ a ∷ high) ≡ filter qs high = q_split ∙ ap (λ ys. ys ++ filter qs (a ∷ high)) q_low ∙ q_here in
          rw (p_all, q_all) (append_assoc low (a ∷ filter ps high) (filter qs high) ∙ ap (λ ys. low ++ a ∷ ys) high_in))
    ]

pub windows_placed : (xs : List StepAhead) (n c v : ℕ) → AreWindows xs → c < WINDOW_CHANNELS → length (filter (is_step n) xs) ≡ 0 → length (window xs c) < MAX_WINDOW → AreWindows (placed xs n c v)
windows_placed xs n c v w within new room = record {
  channels =
      let p : StepAhead → Bool = λ x. nat_lt x.channel WINDOW_CHANNELS in
      list_all-append p (up_to xs c) (wanted n c v ∷ behind xs c)
      ∙ and_from _ _ (list_all-filter p (λ x. nat_le x.channel c) xs w.channels) (and_from _ _ (lt-ltb c WINDOW_CHANNELS within) (list_all-filter p (λ x. nat_lt c x.channel) xs w.channels));
  in_order = λ k. order_placed xs n c v k w;
  few = λ k. few_placed (λ x. nat_eq x.channel k) xs n c v MAX_WINDOW w (λ e. subst (λ j. length (window xs j) < MAX_WINDOW) (eqb-true c k e) room) (w.few k);
  once = λ m. few_placed (is_step m) xs n c v 1 w (λ e. subst (λ j. length (filter (is_step j) xs) < 1) (eqb-true n m e) (omega arith)) (w.once m);
}

-- those of the channels below the next one are those of the channels below this one, and this one's
one_channel_more : (k : ℕ) (xs : List StepAhead) → length (filter (λ a. nat_lt a.channel (suc k)) xs) ≡ length (filter (λ a. nat_lt a.channel k) xs) + length (window xs k)
one_channel_more k [] = omega arith
one_channel_more k (x ∷ xs) =
    let more = one_channel_more k xs in
    grind (arith, nat_tests, filter-yes, filter-no)

none_below : (xs : List StepAhead) → length (filter (λ a. nat_lt a.channel 0) xs) ≡ 0
none_below [] = refl
none_below (x ∷ xs) =
    ap length (filter-no (λ a. nat_lt a.channel 0) x xs (le-ltb x.channel 0 (omega arith))) ∙ none_below xs

all_below : (xs : List StepAhead) → AreWindows xs → (k : ℕ) → length (filter (λ a. nat_lt a.channel k) xs) ≤ MAX_WINDOW * k
all_below xs w zero = subst (λ n. n ≤ MAX_WINDOW * 0) (sym (none_below xs)) (omega arith)
all_below xs w (suc k) = omega (arith, one_channel_more k xs, all_below xs w k, w.few k)

room_below : (xs : List StepAhead) (c : ℕ) → AreWindows xs → length (window xs c) < MAX_WINDOW → (k : ℕ) → c < k → length (filter (λ a. nat_lt a.channel k) xs) < MAX_WINDOW * k
room_below xs c w room zero h = omega arith
room_below xs c w room (suc k) h =
    elim (cases_eq c k) [
      | inl e ↦ (let here : length (window xs k) < MAX_WINDOW = subst (λ j. length (window xs j) < MAX_WINDOW) e room in omega (arith, one_channel_more k xs, all_below xs w k))
      | inr e ↦ (let low : c < k = omega arith in omega (arith, one_channel_more k xs, room_below xs c w room k low, w.few k))
    ]

-- a channel with room is room in the store
pub room_in_all : (xs : List StepAhead) (c : ℕ) → AreWindows xs → c < WINDOW_CHANNELS → length (window xs c) < MAX_WINDOW → length xs < MAX_TICKETS
room_in_all xs c w within room =
    let all = ap length (filter_everything (λ a. nat_lt a.channel WINDOW_CHANNELS) xs w.channels) in
    omega (arith, room_below xs c w room WINDOW_CHANNELS within)
