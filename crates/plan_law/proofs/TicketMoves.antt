-- The tickets of a run move with a dispatch.
use Rattle.std.proofs.Common.{◌≡◌, ◌≤◌, ◌+◌, ◌==◌, ℕ, zero, suc, Bool, true, false, not, cond, List, [], ◌∷◌, ◌++◌, Option, Some, None, IfSome, length, map, filter, nat_eq, nat_lt, nat_le, take, drop, refl, sym, ◌∙◌, ap, subst, inl, inr, arith}
use Rattle.std.specs.List.{All, find, slice_get}
use Rattle.std.proofs.lemmas.Bool.{cases_eq, cases_Bool, cond-true, cond-false, eq-eqb, ne_eqb}
use Rattle.std.proofs.lemmas.Bool.Decides.{nat_tests}
use Rattle.std.proofs.lemmas.List.{map-append, append-nil, nil_from_length}
use Rattle.std.proofs.lemmas.List.Elements.{All-filter, All-append}
use Rattle.path_blocks.specs.declared.def.Def.{Def}
use Rattle.run_log.specs.declared.entry.Entry.{Entry}
use Rattle.exec_tree.specs.Exec.{has, AreDistinct}
use Rattle.run_law.specs.Rules.{Rules}
use Rattle.run_law.specs.Ahead.{ahead, steps_of, unsent, without, window_without}
use Rattle.plan_store.specs.Stage.{Wanted, plan_at}
use Rattle.plan_store.specs.StepAhead.{StepAhead, is_step, step_in, window, up_to, behind, placed, taken, wanted, told}
use Rattle.plan_store.specs.Windows.{AreWindows}
use Rattle.plan_store.proofs.ListLemmas.{filter-yes, filter-no, filter-map, filter-map_same, filter_comm, filter_nothing}
use Rattle.plan_store.proofs.WindowLemmas.{windows_taken}
use Rattle.plan_law.specs.Tickets.{AreTickets, LeavesSteps, next_in, moved, renewal, all_renewed}
use Rattle.plan_store.proofs.WindowMoves.{window_placed, window_placed_elsewhere, window_taken}

filter_same : {X : Type 0} (p q : X → Bool) → ((x : X) → p x ≡ q x) → (xs : List X) → filter p xs ≡ filter q xs
filter_same p q h [] = refl
filter_same p q h (x ∷ xs) =
    let more = filter_same p q h xs in
    let here = h x in
    cc

pub flipped : (m n : ℕ) → (m == n) ≡ (n == m)
flipped m n = elim (cases_eq m n) [ inl e ↦ eq-eqb m n e ∙ sym (eq-eqb n m (sym e)) | inr e ↦ ne_eqb m n e ∙ sym (ne_eqb n m (λ s. e (sym s))) ]

pub steps_taken : (xs : List StepAhead) (n : ℕ) → map (λ a. a.step) (taken xs n) ≡ without n (map (λ a. a.step) xs)
steps_taken xs n =
    ap (map (λ (a : StepAhead). a.step)) (filter_same (λ (a : StepAhead). not (a.step == n)) (λ (a : StepAhead). not (n == a.step)) (λ a. ap not (flipped a.step n)) xs)
    ∙ sym (filter-map (λ (a : StepAhead). a.step) (λ m. not (n == m)) xs)

-- the only one that passes
pub filter_one : {X : Type 0} (p : X → Bool) (xs : List X) (x : X) → length (filter p xs) ≤ 1 → find p xs ≡ Some x → filter p xs ≡ x ∷ []
filter_one p [] x few h = cc
filter_one p (y ∷ xs) x few h =
    elim (cases_Bool (p y)) [
      | inl e ↦ (
          let first = filter-yes p y xs e in
          let found : find p (y ∷ xs) ≡ Some y = cond-true (p y) (Some y) (find p xs) e in
          let none : length (filter p xs) ≡ 0 = omega (arith, ap length first) in
          let rest = nil_from_length (filter p xs) none in
          cc)
      | inr e ↦ (
          let past = filter-no p y xs e in
          let found : find p (y ∷ xs) ≡ find p xs = cond-false (p y) (Some y) (find p xs) e in
          past ∙ filter_one p xs x (subst (λ (zs : List _). length zs ≤ 1) past few) (sym found ∙ h))
    ]

pub has_step : (xs : List StepAhead) (n : ℕ) → has (map (λ a. a.step) xs) n ≡ nat_lt 0 (length (filter (is_step n) xs))
has_step [] n = refl
has_step (x ∷ xs) n =
    let more = has_step xs n in
    grind (arith, nat_tests, filter-yes, filter-no)

-- whether the step stands in a channel's window
pub in_window : (all : List StepAhead) (n : ℕ) (a : StepAhead) (k : ℕ) → AreWindows all → step_in all n ≡ Some a → has (map (λ b. b.step) (window all k)) n ≡ (a.channel == k)
in_window all n a k w at =
    let one = filter_one (is_step n) all a (w.once n) at in
    let here : filter (is_step n) (window all k) ≡ window (a ∷ []) k = filter_comm (is_step n) (λ b. nat_eq b.channel k) all ∙ ap (filter (λ (b : StepAhead). nat_eq b.channel k)) one in
    has_step (window all k) n ∙ ap (λ (ys : List StepAhead). nat_lt 0 (length ys)) here ∙ elim (a.channel == k) as (λ b. nat_lt 0 (length (cond b (a ∷ []) [])) ≡ b) [ true ↦ refl | false ↦ refl ]

-- the fifth, where there is one
fifth_none : (ns : List ℕ) (i : ℕ) → slice_get ns i ≡ None → take 1 (drop i ns) ≡ []
fifth_none [] zero h = refl
fifth_none [] (suc i) h = refl
fifth_none (n ∷ ns) zero h = cc
fifth_none (n ∷ ns) (suc i) h = fifth_none ns i h

fifth_some : (ns : List ℕ) (i m : ℕ) → slice_get ns i ≡ Some m → take 1 (drop i ns) ≡ m ∷ []
fifth_some [] zero m h = cc
fifth_some [] (suc i) m h = cc
fifth_some (n ∷ ns) zero m h = (let same : n ≡ m = cc in ap (λ k. k ∷ take 0 ns) same)
fifth_some (n ∷ ns) (suc i) m h = fifth_some ns i m h

-- the steps ahead of a channel after step n was dispatched
ahead_moves : (r : Rules) (t u : List Entry) (n k : ℕ) → LeavesSteps r t u → ((i m : ℕ) (ns : List ℕ) → AreDistinct ns → take i (without m ns) ≡ window_without i m ns) → ((ns : List ℕ) → unsent u ns ≡ without n (unsent t ns)) → AreDistinct (unsent t (steps_of r t k)) → ahead r u k ≡ window_without 4 n (unsent t (steps_of r t k))
ahead_moves r t u n k stays windows leaves distinct =
    ap (λ (ns : List ℕ). take 4 (unsent u ns)) (stays.same_steps k) ∙ ap (take 4) (leaves (steps_of r t k)) ∙ windows 4 n (unsent t (steps_of r t k)) distinct

-- a window of which the step isn't
elsewhere : (n : ℕ) (ns : List ℕ) → has (take 4 ns) n ≡ false → without n (take 4 ns) ≡ window_without 4 n ns
elsewhere n ns none = sym (ap (λ (b : Bool). without n (take 4 ns) ++ cond b (take 1 (drop 4 ns)) []) none ∙ append-nil (without n (take 4 ns)))

pub steps_without : (all : List StepAhead) (n k : ℕ) (ns : List ℕ) → map (λ a. a.step) (window all k) ≡ ns → map (λ a. a.step) (window (taken all n) k) ≡ without n ns
steps_without all n k ns e = ap (map (λ (a : StepAhead). a.step)) (window_taken all n k) ∙ steps_taken (window all k) n ∙ ap (without n) e

steps_moved : (r : Rules) (t : List Entry) (all : List StepAhead) (n : ℕ) (a : StepAhead) (next : Option ℕ) (k : ℕ) (ns : List ℕ) → AreWindows all → step_in all n ≡ Some a → map (λ b. b.step) (window all k) ≡ take 4 ns → (a.channel ≡ k → slice_get ns 4 ≡ next) → map (λ b. b.step) (window (moved (r.version t) all n a.channel next) k) ≡ window_without 4 n ns
steps_moved r t all n a None k ns w at same fifth =
    let was : has (take 4 ns) n ≡ (a.channel == k) = ap (λ (ms : List ℕ). has ms n) (sym same) ∙ in_window all n a k w at in
    let out = steps_without all n k (take 4 ns) same in
    elim (cases_eq a.channel k) [
      | inl e ↦ (let none = fifth_none ns 4 (fifth e) in
          let yes : has (take 4 ns) n ≡ true = was ∙ eq-eqb a.channel k e in
          out ∙ sym (ap (λ (b : Bool). without n (take 4 ns) ++ cond b (take 1 (drop 4 ns)) []) yes ∙ ap (λ (ms : List ℕ). without n (take 4 ns) ++ ms) none ∙ append-nil (without n (take 4 ns))))
      | inr e ↦ out ∙ elsewhere n ns (was ∙ ne_eqb a.channel k e)
    ]
steps_moved r t all n a (Some m) k ns w at same fifth =
    let was : has (take 4 ns) n ≡ (a.channel == k) = ap (λ (ms : List ℕ). has ms n) (sym same) ∙ in_window all n a k w at in
    let out = steps_without all n k (take 4 ns) same in
    let v = r.version t m in
    elim (cases_eq a.channel k) [
      | inl e ↦ (let one = fifth_some ns 4 m (fifth e) in
          let yes : has (take 4 ns) n ≡ true = was ∙ eq-eqb a.channel k e in
          let placed_there : window (placed (taken all n) m a.channel v) k ≡ window (taken all n) k ++ wanted m a.channel v ∷ [] = subst (λ (j : ℕ). window (placed (taken all n) m a.channel v) j ≡ window (taken all n) j ++ wanted m a.channel v ∷ []) e (window_placed (taken all n) m a.channel v) in
          ap (map (λ (b : StepAhead). b.step)) placed_there
          ∙ map-append (λ (b : StepAhead). b.step) (window (taken all n) k) (wanted m a.channel v ∷ [])
          ∙ ap (λ (ms : List ℕ). ms ++ m ∷ []) out
          ∙ sym (ap (λ (b : Bool). without n (take 4 ns) ++ cond b (take 1 (drop 4 ns)) []) yes ∙ ap (λ (ms : List ℕ). without n (take 4 ns) ++ ms) one))
      | inr e ↦ ap (map (λ (b : StepAhead). b.step)) (window_placed_elsewhere (taken all n) m a.channel v k (windows_taken n all w) e) ∙ out ∙ elsewhere n ns (was ∙ ne_eqb a.channel k e)
    ]

-- what holds of each step holds where one is taken and another placed
pub All-one : (P : StepAhead → Type 0) (a : StepAhead) → P a → All P (a ∷ [])
All-one P a h zero d l = h
All-one P a h (suc k) d l = absurd (omega arith)

All-moved : (P : StepAhead → Type 0) (r : Rules) (t : List Entry) (all : List StepAhead) (n c : ℕ) (next : Option ℕ) → All P all → ((m : ℕ) → P (wanted m c (r.version t m))) → All P (moved (r.version t) all n c next)
All-moved P r t all n c None h new = All-filter (λ a. not (is_step n a)) P all h
All-moved P r t all n c (Some m) h new =
    let left = All-filter (λ a. not (is_step n a)) P all h in
    let a = wanted m c (r.version t m) in
    All-append P (up_to (taken all n) c) (a ∷ behind (taken all n) c)
    (All-filter (λ b. nat_le b.channel c) P (taken all n) left)
    (All-append P (a ∷ []) (behind (taken all n) c) (All-one P a (new m)) (All-filter (λ b. nat_lt c b.channel) P (taken all n) left))

-- the tickets after a step was dispatched that had one
pub tickets_after : (r : Rules) (definition : ℕ → Option Def) (t u : List Entry) (n : ℕ) (all : List StepAhead) (a : StepAhead) → ((i m : ℕ) (ns : List ℕ) → AreDistinct ns → take i (without m ns) ≡ window_without i m ns) → ((ns : List ℕ) → unsent u ns ≡ without n (unsent t ns)) → LeavesSteps r t u → ((k : ℕ) → AreDistinct (unsent t (steps_of r t k))) → AreWindows all → AreTickets r definition t all → step_in all n ≡ Some a → AreTickets r definition u (moved (r.version t) all n a.channel (next_in r t a.channel))
tickets_after r definition t u n all a windows leaves stays distinct w tickets at = record {
  steps = λ k low.
      steps_moved r t all n a (next_in r t a.channel) k (unsent t (steps_of r t k)) w at (tickets.steps k low) (λ e. ap (next_in r t) (sym e))
      ∙ sym (ahead_moves r t u n k stays windows leaves (distinct k));
  versions = All-moved (λ b. b.version ≡ r.version u b.step) r t all n a.channel (next_in r t a.channel) (λ k d l. tickets.versions k d l ∙ sym (stays.same_versions _)) (λ m. sym (stays.same_versions m));
  present = All-moved (λ b. IfSome (plan_at b.stage) (λ d. definition b.step ≡ Some d)) r t all n a.channel (next_in r t a.channel) tickets.present (λ m. tt);
}

-- an entry that dispatches none
pub tickets_stay : (r : Rules) (definition : ℕ → Option Def) (t u : List Entry) (all : List StepAhead) → ((ns : List ℕ) → unsent u ns ≡ unsent t ns) → LeavesSteps r t u → AreTickets r definition t all → AreTickets r definition u all
tickets_stay r definition t u all same stays tickets = record {
  steps = λ k low. tickets.steps k low ∙ sym (ap (λ (ns : List ℕ). take 4 (unsent u ns)) (stays.same_steps k) ∙ ap (take 4) (same (steps_of r t k)));
  versions = λ k d l. tickets.versions k d l ∙ sym (stays.same_versions _);
  present = tickets.present;
}

pub without_none : (n : ℕ) (ns : List ℕ) → has ns n ≡ false → without n ns ≡ ns
without_none n [] h = refl
without_none n (m ∷ ns) h =
    let more = without_none n ns in
    let turned = flipped m n in
    grind (arith, nat_tests, filter-yes, filter-no)

-- the dispatch of a step that has no ticket
pub tickets_wait : (r : Rules) (definition : ℕ → Option Def) (t u : List Entry) (n : ℕ) (all : List StepAhead) → ((i m : ℕ) (ns : List ℕ) → AreDistinct ns → take i (without m ns) ≡ window_without i m ns) → ((ns : List ℕ) → unsent u ns ≡ without n (unsent t ns)) → LeavesSteps r t u → ((k : ℕ) → AreDistinct (unsent t (steps_of r t k))) → AreTickets r definition t all → step_in all n ≡ None → AreTickets r definition u all
tickets_wait r definition t u n all windows leaves stays distinct tickets at = record {
  steps = λ k low.
      let ns = unsent t (steps_of r t k) in
      let gone : filter (is_step n) (window all k) ≡ [] = filter_comm (is_step n) (λ b. nat_eq b.channel k) all ∙ ap (filter (λ (b : StepAhead). nat_eq b.channel k)) (filter_nothing (is_step n) all at) in
      let none : has (take 4 ns) n ≡ false = ap (λ (ms : List ℕ). has ms n) (sym (tickets.steps k low)) ∙ has_step (window all k) n ∙ ap (λ (ys : List StepAhead). nat_lt 0 (length ys)) gone in
      tickets.steps k low ∙ sym (ahead_moves r t u n k stays windows leaves (distinct k) ∙ sym (elsewhere n ns none) ∙ without_none n (take 4 ns) none);
  versions = λ k d l. tickets.versions k d l ∙ sym (stays.same_versions _);
  present = tickets.present;
}

-- the same steps stand in each window where each is renewed that has another version
pub window_renewed : (version : ℕ → ℕ) (all : List StepAhead) (k : ℕ) → window (all_renewed version all) k ≡ all_renewed version (window all k)
window_renewed version all k =
    filter-map_same (λ a. nat_eq a.channel k) (renewal version) (λ a. elim (a.version == version a.step) as (λ b. nat_eq (cond b a (told (version a.step) Wanted a)).channel k ≡ nat_eq a.channel k) [ true ↦ refl | false ↦ refl ]) all

pub steps_renewed : (version : ℕ → ℕ) (all : List StepAhead) → map (λ a. a.step) (all_renewed version all) ≡ map (λ a. a.step) all
steps_renewed version [] = refl
steps_renewed version (a ∷ all) =
    let here : (renewal version a).step ≡ a.step = elim (a.version == version a.step) as (λ b. (cond b a (told (version a.step) Wanted a)).step ≡ a.step) [ true ↦ refl | false ↦ refl ] in
    let more = steps_renewed version all in
    cc

-- what holds of each step when it is renewed
All-renewed : (P Q : StepAhead → Type 0) (version : ℕ → ℕ) → ((a : StepAhead) → P a → Q (renewal version a)) → (all : List StepAhead) → All P all → All Q (all_renewed version all)
All-renewed P Q version h [] each k d l = absurd (omega arith)
All-renewed P Q version h (a ∷ all) each zero d l = h a (each zero a (omega arith))
All-renewed P Q version h (a ∷ all) each (suc k) d l = All-renewed P Q version h all (λ j e m. each (suc j) e (omega arith)) k d (omega arith)

version_renewed : (version : ℕ → ℕ) (a : StepAhead) → (renewal version a).version ≡ version (renewal version a).step
version_renewed version a =
    elim (cases_eq a.version (version a.step)) [
      | inl e ↦ (let is : renewal version a ≡ a = cond-true (a.version == version a.step) a (told (version a.step) Wanted a) (eq-eqb a.version (version a.step) e) in
          subst (λ (b : StepAhead). b.version ≡ version b.step) (sym is) e)
      | inr e ↦ (let is : renewal version a ≡ told (version a.step) Wanted a = cond-false (a.version == version a.step) a (told (version a.step) Wanted a) (ne_eqb a.version (version a.step) e) in
          subst (λ (b : StepAhead). b.version ≡ version b.step) (sym is) refl)
    ]

-- the plan that is there after the renewals is of the definition after them
present_renewed : (before after : ℕ → Option Def) (old new : ℕ → ℕ) → ((n : ℕ) → new n ≡ old n → after n ≡ before n) → (a : StepAhead) → a.version ≡ old a.step → IfSome (plan_at a.stage) (λ d. before a.step ≡ Some d) → IfSome (plan_at (renewal new a).stage) (λ d. after (renewal new a).step ≡ Some d)
present_renewed before after old new stays a v h =
    elim (cases_eq a.version (new a.step)) [
      | inl e ↦ (let is : renewal new a ≡ a = cond-true (a.version == new a.step) a (told (new a.step) Wanted a) (eq-eqb a.version (new a.step) e) in
          subst (λ (b : StepAhead). IfSome (plan_at b.stage) (λ d. after b.step ≡ Some d)) (sym is)
          (subst (λ (def : Option Def). IfSome (plan_at a.stage) (λ d. def ≡ Some d)) (sym (stays a.step (sym e ∙ v))) h))
      | inr e ↦ (let is : renewal new a ≡ told (new a.step) Wanted a = cond-false (a.version == new a.step) a (told (new a.step) Wanted a) (ne_eqb a.version (new a.step) e) in
          subst (λ (b : StepAhead). IfSome (plan_at b.stage) (λ d. after b.step ≡ Some d)) (sym is) tt)
    ]

-- the tickets after an accepted edit
pub tickets_renewed : (r : Rules) (before after : ℕ → Option Def) (t u : List Entry) (all : List StepAhead) → ((ns : List ℕ) → unsent u ns ≡ unsent t ns) → ((c : ℕ) → steps_of r u c ≡ steps_of r t c) → ((n : ℕ) → r.version u n ≡ r.version t n → after n ≡ before n) → AreTickets r before t all → AreTickets r after u (all_renewed (r.version u) all)
tickets_renewed r before after t u all same steps stays tickets = record {
  steps = λ k low.
      ap (map (λ (a : StepAhead). a.step)) (window_renewed (r.version u) all k)
      ∙ steps_renewed (r.version u) (window all k)
      ∙ tickets.steps k low
      ∙ sym (ap (λ (ns : List ℕ). take 4 (unsent u ns)) (steps k) ∙ ap (take 4) (same (steps_of r t k)));
  versions = All-renewed (λ a. a.version ≡ r.version t a.step) (λ a. a.version ≡ r.version u a.step) (r.version u) (λ a h. version_renewed (r.version u) a) all tickets.versions;
  present = All-renewed (λ a. (a.version ≡ r.version t a.step) × IfSome (plan_at a.stage) (λ d. before a.step ≡ Some d)) (λ a. IfSome (plan_at a.stage) (λ d. after a.step ≡ Some d)) (r.version u) (λ a h. present_renewed before after (r.version t) (r.version u) stays a h.0 h.1) all (λ k d l. (tickets.versions k d l, tickets.present k d l));
}
