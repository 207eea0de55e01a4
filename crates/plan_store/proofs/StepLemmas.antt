-- Steps ahead as tickets and plans in two rows, and lists of them that are changed at one step.
use Rattle.std.proofs.Common.{◌≡◌, ◌≤◌, ℕ, zero, suc, true, false, not, List, [], ◌∷◌, Option, Some, length, map, filter, set, refl, sym, ◌∙◌, ap, subst, inl, inr, arith}
use Rattle.std.specs.List.{slice_get, remove}
use Rattle.std.proofs.lemmas.Bool.{cond-true, cond-false, cases_Bool}
use Rattle.std.proofs.lemmas.Bool.Decides.{nat_tests}
use Rattle.path_blocks.specs.declared.def.Def.{Def}
use Rattle.plan_store.specs.declared.ticket.Ticket.{Ticket}
use Rattle.plan_store.specs.Stage.{Stage, Wanted, Asked, Held, state_of, plan_at, stage_of}
use Rattle.plan_store.specs.StepAhead.{StepAhead, ticket_of, plan_of, ahead_all, is_step, changed, taken, told}
use Rattle.plan_store.specs.Windows.{AreWindows}
use Rattle.plan_store.specs.Holds.{Holds}
use Rattle.plan_store.proofs.ListLemmas.{filter-yes, filter-no, found_among}

told_together : (s : Stage) → stage_of (state_of s) (plan_at s) ≡ s
told_together Wanted = refl
told_together Asked = refl
told_together (Held d) = refl

-- a ticket and its plan tell all
pub together : (xs : List StepAhead) → ahead_all (map ticket_of xs) (map plan_of xs) ≡ xs
together [] = refl
together (x ∷ xs) =
    let here = ap (λ (s : Stage). told x.version s x) (told_together x.stage) in
    let more = together xs in
    cc

pub view_of : (ts : List Ticket) (ps : List (Option Def)) (xs : List StepAhead) → ts ≡ map ticket_of xs → ps ≡ map plan_of xs → ahead_all ts ps ≡ xs
view_of ts ps xs t p = rw (t, p) (together xs)

pub holds_of : (ts : List Ticket) (ps : List (Option Def)) (xs : List StepAhead) → ts ≡ map ticket_of xs → ps ≡ map plan_of xs → AreWindows xs → Holds ts ps (ahead_all ts ps)
holds_of ts ps xs t p w = subst (λ (ys : List StepAhead). Holds ts ps ys) (sym (view_of ts ps xs t p)) (record { tickets_are = t; plans_are = p; windows = w })

-- where the step isn't among them, nothing is changed or taken
changed_none : (n : ℕ) (f : StepAhead → StepAhead) (xs : List StepAhead) → length (filter (is_step n) xs) ≡ 0 → changed n f xs ≡ xs
changed_none n f [] h = refl
changed_none n f (x ∷ xs) h =
    let more = changed_none n f xs in
    let yes = filter-yes (is_step n) x xs in
    let no = filter-no (is_step n) x xs in
    grind (arith, nat_tests)

pub taken_none : (n : ℕ) (xs : List StepAhead) → length (filter (is_step n) xs) ≡ 0 → taken xs n ≡ xs
taken_none n [] h = refl
taken_none n (x ∷ xs) h =
    let more = taken_none n xs in
    let yes = filter-yes (is_step n) x xs in
    let no = filter-no (is_step n) x xs in
    grind (arith, nat_tests)

-- the one place where the step stands is written
pub changed_at : (n : ℕ) (f : StepAhead → StepAhead) (xs : List StepAhead) (i : ℕ) (a : StepAhead) → length (filter (is_step n) xs) ≤ 1 → slice_get xs i ≡ Some a → is_step n a ≡ true → set xs i (f a) ≡ changed n f xs
changed_at n f [] i a one at is = cc
changed_at n f (x ∷ xs) zero a one at is =
    let same : x ≡ a = cc in
    let first : is_step n x ≡ true = ap (is_step n) same ∙ is in
    let alone : length (filter (is_step n) xs) ≡ 0 = omega (arith, ap length (filter-yes (is_step n) x xs first)) in
    let here = cond-true (is_step n x) (f x) x first in
    let rest = changed_none n f xs alone in
    let given = ap f same in
    cc
changed_at n f (x ∷ xs) (suc i) a one at is =
    let counted = found_among (is_step n) xs i a at is in
    let other : is_step n x ≡ false = elim (cases_Bool (is_step n x)) [ inl h ↦ absurd (omega (arith, ap length (filter-yes (is_step n) x xs h))) | inr h ↦ h ] in
    let left : length (filter (is_step n) xs) ≤ 1 = omega (arith, ap length (filter-no (is_step n) x xs other)) in
    let more = changed_at n f xs i a left at is in
    let here = cond-false (is_step n x) (f x) x other in
    cc

-- the one place where the step stands is removed
pub taken_at : (n : ℕ) (xs : List StepAhead) (i : ℕ) (a : StepAhead) → length (filter (is_step n) xs) ≤ 1 → slice_get xs i ≡ Some a → is_step n a ≡ true → remove xs i ≡ taken xs n
taken_at n [] i a one at is = cc
taken_at n (x ∷ xs) zero a one at is =
    let same : x ≡ a = cc in
    let first : is_step n x ≡ true = ap (is_step n) same ∙ is in
    let alone : length (filter (is_step n) xs) ≡ 0 = omega (arith, ap length (filter-yes (is_step n) x xs first)) in
    let gone : taken (x ∷ xs) n ≡ taken xs n = filter-no (λ y. not (is_step n y)) x xs (ap not first) in
    sym (gone ∙ taken_none n xs alone)
taken_at n (x ∷ xs) (suc i) a one at is =
    let counted = found_among (is_step n) xs i a at is in
    let other : is_step n x ≡ false = elim (cases_Bool (is_step n x)) [ inl h ↦ absurd (omega (arith, ap length (filter-yes (is_step n) x xs h))) | inr h ↦ h ] in
    let left : length (filter (is_step n) xs) ≤ 1 = omega (arith, ap length (filter-no (is_step n) x xs other)) in
    let more = taken_at n xs i a left at is in
    let stays : taken (x ∷ xs) n ≡ x ∷ taken xs n = filter-yes (λ y. not (is_step n y)) x xs (ap not other) in
    ap (λ (ys : List StepAhead). x ∷ ys) more ∙ sym stays
