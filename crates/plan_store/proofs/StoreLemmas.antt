-- What the two rows of the store say of the steps ahead.
use Rattle.std.proofs.Common.{◌≡◌, ◌≤◌, ◌<◌, ◌==◌, ℕ, suc, true, false, List, ◌∷◌, ◌++◌, Option, Some, None, length, map, filter, nat_le, set, get_or, take, drop, refl, sym, ◌∙◌, ap, subst, inl, inr, arith}
use Rattle.std.specs.List.{slice_get, position, count_by, insert, remove, refill}
use Rattle.std.specs.Option.{is_some, option_map, IsSomeAnd}
use Rattle.std.proofs.lemmas.Bool.{true≢false, eq-eqb}
use Rattle.std.proofs.lemmas.List.{take_at, drop_at, length-set, length-map, map-set, map-append, take-map, drop-map}
use Rattle.std.proofs.lemmas.List.Sums.{length-filter, count_by-le-length}
use Rattle.std.proofs.lemmas.Option.{slice_get_cases, slice_get-map, get_or_from_slice_get}
use Rattle.path_blocks.specs.declared.def.Def.{Def}
use Rattle.plan_store.specs.declared.ticket.Ticket.{Ticket}
use Rattle.plan_store.specs.declared.ticket.TicketState.{TicketState}
use Rattle.plan_store.specs.Stage.{Stage, state_of, is_waiting}
use Rattle.plan_store.specs.StepAhead.{StepAhead, ticket_of, ahead_all, is_step, step_in, ticket_in, first_waiting, window, up_to, behind, placed, wanted, told, changed}
use Rattle.plan_store.specs.Windows.{AreWindows}
use Rattle.plan_store.specs.Holds.{Holds}
use Rattle.plan_store.proofs.ListLemmas.{count_by-map, find_index, find_none, find_within, find_passes, filter_nothing}
use Rattle.plan_store.proofs.StepLemmas.{changed_at}
use Rattle.plan_store.proofs.WindowLemmas.{windows_changed}

-- the rows of a store that is seen as these steps
pub rows_of : (ts : List Ticket) (ps : List (Option Def)) (xs : List StepAhead) → Holds ts ps (ahead_all ts ps) → ahead_all ts ps ≡ xs → Holds ts ps xs
rows_of ts ps xs h v = subst (λ (ys : List StepAhead). Holds ts ps ys) v h

pub step_at : (n : ℕ) (xs : List StepAhead) (i : ℕ) → position (λ (t : Ticket). t.step == n) (map ticket_of xs) ≡ Some i → slice_get xs i ≡ step_in xs n
step_at n xs i h = find_index ticket_of (λ (t : Ticket). t.step == n) xs i h

pub step_nowhere : (n : ℕ) (xs : List StepAhead) → position (λ (t : Ticket). t.step == n) (map ticket_of xs) ≡ None → step_in xs n ≡ None
step_nowhere n xs h = find_none ticket_of (λ (t : Ticket). t.step == n) xs h

pub some_at : (xs : List StepAhead) (i : ℕ) → i < length xs → (a : StepAhead) × (slice_get xs i ≡ Some a)
some_at xs i h = elim (slice_get_cases xs i).1 [ inl e ↦ (e.0, e.2) | inr e ↦ absurd (omega arith) ]

pub some_of : {X : Type 0} (o : Option X) → is_some o ≡ true → (x : X) × (o ≡ Some x)
some_of None h = absurd (true≢false (sym h))
some_of (Some x) h = (x, refl)

pub none_of : {X : Type 0} (o : Option X) → is_some o ≡ false → o ≡ None
none_of None h = refl
none_of (Some x) h = absurd (true≢false h)

pub row_at : {Y : Type 0} (f : StepAhead → Y) (xs : List StepAhead) (i : ℕ) (a : StepAhead) → slice_get xs i ≡ Some a → slice_get (map f xs) i ≡ Some (f a)
row_at f xs i a at = slice_get-map f xs i ∙ ap (option_map f) at

pub row_read : {Y : Type 0} (f : StepAhead → Y) (ys : List Y) (xs : List StepAhead) (i : ℕ) (a : StepAhead) (d : Y) → ys ≡ map f xs → slice_get xs i ≡ Some a → get_or ys i d ≡ f a
row_read f ys xs i a d e at = get_or_from_slice_get ys i (f a) d (ap (λ (zs : List _). slice_get zs i) e ∙ row_at f xs i a at)

-- what is written into a row through a slice
pub row_written : {Y : Type 0} (f : StepAhead → Y) (ys zs : List Y) (xs : List StepAhead) (i : ℕ) (y : Y) (a : StepAhead) → ys ≡ map f xs → zs ≡ ys → y ≡ f a → refill (length ys) ys (set zs i y) ≡ map f (set xs i a)
row_written f ys zs xs i y a e same here =
    let all = take_at (set zs i y) (drop (length (set zs i y)) ys) (length ys) (length-set zs i y ∙ ap length same) in
    let written = map-set f xs i a in
    cc

pub row_removed : {Y : Type 0} (f : StepAhead → Y) (xs : List StepAhead) (i : ℕ) → remove (map f xs) i ≡ map f (remove xs i)
row_removed f xs i =
    let front = take-map f i xs in
    let back = drop-map f (suc i) xs in
    let both = map-append f (take i xs) (drop (suc i) xs) in
    cc

pub row_placed : {Y : Type 0} (f : StepAhead → Y) (xs : List StepAhead) (n c v : ℕ) → AreWindows xs → insert (map f xs) (length (up_to xs c)) (f (wanted n c v)) ≡ map f (placed xs n c v)
row_placed f xs n c v w =
    let low = up_to xs c in
    let high = behind xs c in
    let apart : map f xs ≡ map f low ++ map f high = ap (map f) (sym (w.in_order c)) ∙ map-append f low high in
    let front = take_at (map f low) (map f high) (length low) (length-map low f) in
    let back = drop_at (map f low) (map f high) (length low) (length-map low f) in
    let all = map-append f low (wanted n c v ∷ high) in
    rw apart (rw (front, back) (sym all))

pub end_of : (xs : List StepAhead) (c : ℕ) → count_by (λ (t : Ticket). nat_le t.channel c) (map ticket_of xs) ≡ length (up_to xs c)
end_of xs c = count_by-map ticket_of (λ (t : Ticket). nat_le t.channel c) xs

pub end_within : (xs : List StepAhead) (c : ℕ) → length (up_to xs c) ≤ length xs
end_within xs c = omega (arith, length-filter (λ (a : StepAhead). nat_le a.channel c) xs, count_by-le-length (λ (a : StepAhead). nat_le a.channel c) xs)

pub count_is : (xs : List StepAhead) (c : ℕ) → count_by (λ (t : Ticket). t.channel == c) (map ticket_of xs) ≡ length (window xs c)
count_is xs c = count_by-map ticket_of (λ (t : Ticket). t.channel == c) xs

pub waiting_at : (xs : List StepAhead) (i : ℕ) → position (λ (t : Ticket). is_waiting t.state) (map ticket_of xs) ≡ Some i → slice_get xs i ≡ first_waiting xs
waiting_at xs i h = find_index ticket_of (λ (t : Ticket). is_waiting t.state) xs i h

pub waiting_nowhere : (xs : List StepAhead) → position (λ (t : Ticket). is_waiting t.state) (map ticket_of xs) ≡ None → first_waiting xs ≡ None
waiting_nowhere xs h = find_none ticket_of (λ (t : Ticket). is_waiting t.state) xs h

-- the step at an index is told anew
pub told_at : (v : ℕ) (s : Stage) (xs : List StepAhead) (i : ℕ) (a : StepAhead) → AreWindows xs → slice_get xs i ≡ Some a → set xs i (told v s a) ≡ changed a.step (told v s) xs
told_at v s xs i a w at = changed_at a.step (told v s) xs i a (w.once a.step) at (eq-eqb a.step a.step refl)

pub windows_told : (v : ℕ) (s : Stage) (xs : List StepAhead) (i : ℕ) (a : StepAhead) → AreWindows xs → slice_get xs i ≡ Some a → AreWindows (set xs i (told v s a))
windows_told v s xs i a w at =
    subst AreWindows (sym (told_at v s xs i a w at)) (windows_changed a.step (told v s) (λ _. refl) (λ _. refl) xs w)

-- a step that is ahead has a ticket
ticket_if_step : (o : Option StepAhead) → is_some (option_map ticket_of o) ≡ is_some o
ticket_if_step None = refl
ticket_if_step (Some a) = refl

pub step_of_ticket : (n : ℕ) (xs : List StepAhead) → is_some (ticket_in xs n) ≡ true → (a : StepAhead) × (step_in xs n ≡ Some a)
step_of_ticket n xs h = some_of (step_in xs n) (sym (ticket_if_step (step_in xs n)) ∙ h)

pub none_counted : (n : ℕ) (xs : List StepAhead) → is_some (ticket_in xs n) ≡ false → length (filter (is_step n) xs) ≡ 0
none_counted n xs h = ap length (filter_nothing (is_step n) xs (none_of (step_in xs n) (sym (ticket_if_step (step_in xs n)) ∙ h)))

pub step_found : (n : ℕ) (xs : List StepAhead) (a : StepAhead) → step_in xs n ≡ Some a → is_step n a ≡ true
step_found n xs a h = find_passes (is_step n) xs a h

ticket_and : (o : Option StepAhead) (P : Ticket → Type 0) → IsSomeAnd (option_map ticket_of o) P → (a : StepAhead) × (o ≡ Some a) × P (ticket_of a)
ticket_and None P h = absurd h
ticket_and (Some a) P h = (a, refl, h)

pub step_and : (n : ℕ) (xs : List StepAhead) (P : Ticket → Type 0) → IsSomeAnd (ticket_in xs n) P → (a : StepAhead) × (step_in xs n ≡ Some a) × P (ticket_of a)
step_and n xs P h = ticket_and (step_in xs n) P h

-- the step's ticket at an index
pub step_within : (n : ℕ) (xs : List StepAhead) (i : ℕ) → position (λ (t : Ticket). t.step == n) (map ticket_of xs) ≡ Some i → i < length xs
step_within n xs i h = find_within ticket_of (λ (t : Ticket). t.step == n) xs i h

pub waiting_within : (xs : List StepAhead) (i : ℕ) → position (λ (t : Ticket). is_waiting t.state) (map ticket_of xs) ≡ Some i → i < length xs
waiting_within xs i h = find_within ticket_of (λ (t : Ticket). is_waiting t.state) xs i h

pub told_ticket : (t : Ticket) (a : StepAhead) (v : ℕ) (state : TicketState) (s : Stage) → t ≡ ticket_of a → state_of s ≡ state → let told_of : Ticket = record { step = t.step; channel = t.channel; version = v; state = state } in told_of ≡ ticket_of (told v s a)
told_ticket t a v state s same here =
    let step : t.step ≡ a.step = ap (λ (u : Ticket). u.step) same in
    let channel : t.channel ≡ a.channel = ap (λ (u : Ticket). u.channel) same in
    cc

pub row_inserted : {Y : Type 0} (f : StepAhead → Y) (ys new : List Y) (xs : List StepAhead) (i : ℕ) (n c v : ℕ) → AreWindows xs → new ≡ insert ys i (f (wanted n c v)) → ys ≡ map f xs → i ≡ length (up_to xs c) → new ≡ map f (placed xs n c v)
row_inserted {Y = Y} f ys new xs i n c v w made row end =
    made
    ∙ ap (λ (zs : List Y). insert zs i (f (wanted n c v))) row
    ∙ ap (λ (j : ℕ). insert (map f xs) j (f (wanted n c v))) end
    ∙ row_placed f xs n c v w
