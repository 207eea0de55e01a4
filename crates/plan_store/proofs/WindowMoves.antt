-- What each call of the store does to the window of one channel.
use Rattle.std.proofs.Common.{◌≡◌, ◌<◌, ◌+◌, ℕ, zero, suc, Bool, true, false, not, cond, List, [], ◌∷◌, ◌++◌, filter, nat_eq, nat_lt, nat_le, refl, sym, ◌∙◌, ap, arith}
use Rattle.std.specs.List.{flat_map, range_with_len}
use Rattle.std.proofs.lemmas.Bool.{eqb-true, le-leb, le-ltb, eq-eqb, ne_eqb}
use Rattle.std.proofs.lemmas.List.Elements.{filter-append}
use Rattle.plan_store.specs.declared.limits.TheConstants.{WINDOW_CHANNELS}
use Rattle.plan_store.specs.StepAhead.{StepAhead, is_step, window, up_to, behind, placed, taken, changed, wanted}
use Rattle.plan_store.specs.Windows.{AreWindows}
use Rattle.plan_store.proofs.ListLemmas.{filter-yes, filter-no, filter_comm, filter_within, filter_without, filter-map_same}
use Rattle.plan_store.proofs.ChannelLemmas.{windows_in_a_row}

-- of the steps up to a channel its window is the whole one
window_up_to : (all : List StepAhead) (c : ℕ) → window (up_to all c) c ≡ window all c
window_up_to all c =
    filter_comm (λ a. nat_eq a.channel c) (λ a. nat_le a.channel c) all
    ∙ filter_within (λ a. nat_le a.channel c) (λ a. nat_eq a.channel c) (λ a e. le-leb a.channel c (omega (arith, eqb-true a.channel c e))) all

window_behind : (all : List StepAhead) (c : ℕ) → window (behind all c) c ≡ []
window_behind all c =
    filter_comm (λ a. nat_eq a.channel c) (λ a. nat_lt c a.channel) all
    ∙ filter_without (λ a. nat_lt c a.channel) (λ a. nat_eq a.channel c) (λ a e. le-ltb c a.channel (omega (arith, eqb-true a.channel c e))) all

pub window_placed : (all : List StepAhead) (n c v : ℕ) → window (placed all n c v) c ≡ window all c ++ wanted n c v ∷ []
window_placed all n c v =
    let p : StepAhead → Bool = λ a. nat_eq a.channel c in
    let a = wanted n c v in
    let apart = filter-append p (up_to all c) (a ∷ behind all c) in
    let here = filter-yes p a (behind all c) (eq-eqb c c refl) in
    apart ∙ ap (λ ys. ys ++ filter p (a ∷ behind all c)) (window_up_to all c) ∙ ap (λ ys. window all c ++ ys) (here ∙ ap (λ ys. a ∷ ys) (window_behind all c))

pub window_placed_elsewhere : (all : List StepAhead) (n c v k : ℕ) → AreWindows all → (c ≡ k → ⊥) → window (placed all n c v) k ≡ window all k
window_placed_elsewhere all n c v k w other =
    let p : StepAhead → Bool = λ a. nat_eq a.channel k in
    let a = wanted n c v in
    let apart = filter-append p (up_to all c) (a ∷ behind all c) in
    let here = filter-no p a (behind all c) (ne_eqb c k other) in
    let old = filter-append p (up_to all c) (behind all c) in
    apart ∙ ap (λ ys. filter p (up_to all c) ++ ys) here ∙ sym old ∙ ap (filter p) (w.in_order c)

pub window_taken : (all : List StepAhead) (n k : ℕ) → window (taken all n) k ≡ taken (window all k) n
window_taken all n k = filter_comm (λ a. nat_eq a.channel k) (λ a. not (is_step n a)) all

pub window_changed : (all : List StepAhead) (n k : ℕ) (f : StepAhead → StepAhead) → ((a : StepAhead) → (f a).channel ≡ a.channel) → window (changed n f all) k ≡ changed n f (window all k)
window_changed all n k f same =
    filter-map_same (λ a. nat_eq a.channel k) (λ a. cond (is_step n a) (f a) a) (λ a. elim (is_step n a) as (λ b. nat_eq (cond b (f a) a).channel k ≡ nat_eq a.channel k) [ true ↦ ap (λ c. nat_eq c k) (same a) | false ↦ refl ]) all

same_rows : (xs ys : List StepAhead) (n s e : ℕ) → s + n ≡ e → ((k : ℕ) → k < e → window xs k ≡ window ys k) → flat_map (window xs) (range_with_len s n) ≡ flat_map (window ys) (range_with_len s n)
same_rows xs ys zero s e end h = refl
same_rows xs ys (suc n) s e end h =
    let here = h s (omega arith) in
    let more = same_rows xs ys n (s + 1) e (omega arith) h in
    cc

pub same_windows : (xs ys : List StepAhead) → AreWindows xs → AreWindows ys → ((k : ℕ) → k < WINDOW_CHANNELS → window xs k ≡ window ys k) → xs ≡ ys
same_windows xs ys u w h = sym (windows_in_a_row xs u) ∙ same_rows xs ys WINDOW_CHANNELS 0 WINDOW_CHANNELS (omega arith) h ∙ windows_in_a_row ys w
