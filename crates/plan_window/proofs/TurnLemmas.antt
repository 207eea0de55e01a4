-- How the windows of the channels follow a run.
use Rattle.std.specs.Prelude.{Contains, IfSome}
use Rattle.std.proofs.Common.{◌≡◌, ◌≤◌, ◌<◌, ◌+◌, ◌==◌, ◌||◌, ◌&&◌, ℕ, zero, suc, Bool, true, false, not, cond, List, [], ◌∷◌, ◌++◌, Option, Some, None, length, map, filter, nat_eq, nat_lt, take, drop, set, get_or, refl, sym, ◌∙◌, ap, subst, inl, inr, arith}
use Rattle.std.specs.List.{find, slice_get, list_all}
use Rattle.std.specs.Option.{option_map}
use Rattle.std.proofs.lemmas.Bool.{cases_eq, cases_Bool, eq-eqb, ne_eqb, ltb-true}
use Rattle.std.proofs.lemmas.Bool.Decides.{nat_tests}
use Rattle.std.proofs.lemmas.List.{map-append, append-nil, append_assoc, length-map, length-append, get_or-set_same, get_or-set_other, length-set}
use Rattle.std.proofs.lemmas.List.Elements.{filter-append}
use Rattle.exec_tree.specs.Exec.{has, AreDistinct}
use Rattle.run_law.specs.Ahead.{without}
use Rattle.project_versions.specs.Versioned.{Versioned}
use Rattle.plan_store.specs.declared.limits.TheConstants.{WINDOW_CHANNELS, MAX_WINDOW}
use Rattle.plan_store.specs.declared.ticket.Ticket.{Ticket}
use Rattle.plan_store.specs.StepAhead.{StepAhead, ticket_of, is_step, step_in, window, taken, wanted, changed, asked, asked_for, with_plan, handed, kept, first_waiting}
use Rattle.plan_store.specs.Windows.{AreWindows}
use Rattle.plan_store.proofs.ListLemmas.{filter-yes, filter-no, filter_comm, filter_nothing}
use Rattle.plan_store.proofs.StepLemmas.{taken_none}
use Rattle.plan_store.proofs.WindowLemmas.{windows_taken}
use Rattle.plan_store.proofs.WindowMoves.{window_placed, window_placed_elsewhere, window_taken, window_changed}
use Rattle.plan_law.specs.Tickets.{joined, all_renewed}
use Rattle.plan_law.proofs.TicketMoves.{filter_one, in_window, steps_without, without_none, steps_renewed, window_renewed}
use Rattle.plan_window.specs.Window.{IsWindow, line, unsent_by, ahead_without, ahead_after}
use Rattle.plan_window.specs.Kept.{coming, IsFollowed, IsKept}
use Rattle.plan_window.proofs.NumberLemmas.{no_way, has_filter, has_drop, has_front, has_head, has_later, has_once, distinct_filter, unsent_without}

-- ---- lists

take_front : (xs ys : List ℕ) (k : ℕ) → length xs ≡ k → take k (xs ++ ys) ≡ xs
take_front [] ys zero e = refl
take_front [] ys (suc k) e = absurd (omega (arith, e))
take_front (x ∷ xs) ys zero e = absurd (omega (arith, e))
take_front (x ∷ xs) ys (suc k) e = ap (λ (zs : List ℕ). x ∷ zs) (take_front xs ys k (omega (arith, e)))

take_few : (xs : List ℕ) (k : ℕ) → length xs ≤ k → take k xs ≡ xs
take_few [] zero e = refl
take_few [] (suc k) e = refl
take_few (x ∷ xs) zero e = absurd (omega (arith, e))
take_few (x ∷ xs) (suc k) e = ap (λ (zs : List ℕ). x ∷ zs) (take_few xs k (omega (arith, e)))

get_behind : (xs ys : List ℕ) (k : ℕ) → length xs ≡ k → slice_get (xs ++ ys) k ≡ slice_get ys 0
get_behind [] ys zero e = refl
get_behind [] ys (suc k) e = absurd (omega (arith, e))
get_behind (x ∷ xs) ys zero e = absurd (omega (arith, e))
get_behind (x ∷ xs) ys (suc k) e = get_behind xs ys k (omega (arith, e))

get_past : (xs : List ℕ) (k : ℕ) → length xs ≤ k → slice_get xs k ≡ None
get_past [] zero e = refl
get_past [] (suc k) e = refl
get_past (x ∷ xs) zero e = absurd (omega (arith, e))
get_past (x ∷ xs) (suc k) e = get_past xs k (omega (arith, e))

all_found : {X : Type 0} (p q : X → Bool) (xs : List X) (x : X) → list_all p xs ≡ true → find q xs ≡ Some x → p x ≡ true
all_found p q [] x h at = cc
all_found p q (y ∷ xs) x h at = go (p y) refl h (q y) refl at (all_found p q xs x)
  where
    go : (a : Bool) → p y ≡ a → (a && list_all p xs) ≡ true → (b : Bool) → q y ≡ b → cond b (Some y) (find q xs) ≡ Some x → (list_all p xs ≡ true → find q xs ≡ Some x → p x ≡ true) → p x ≡ true
    go false e g b f i rec = absurd (no_way g)
    go true e g true f i rec = (let same : y ≡ x = cc in subst (λ z. p z ≡ true) same e)
    go true e g false f i rec = rec g i

all_at : {X : Type 0} (p : X → Bool) (xs : List X) (i : ℕ) (x : X) → list_all p xs ≡ true → slice_get xs i ≡ Some x → p x ≡ true
all_at p [] zero x h at = cc
all_at p [] (suc i) x h at = cc
all_at p (y ∷ xs) i x h at = go (p y) refl h i at (λ j. all_at p xs j x)
  where
    go : (a : Bool) → p y ≡ a → (a && list_all p xs) ≡ true → (j : ℕ) → slice_get (y ∷ xs) j ≡ Some x → ((k : ℕ) → list_all p xs ≡ true → slice_get xs k ≡ Some x → p x ≡ true) → p x ≡ true
    go false e g j f rec = absurd (no_way g)
    go true e g zero f rec = (let same : y ≡ x = cc in subst (λ z. p z ≡ true) same e)
    go true e g (suc j) f rec = rec j g f

counted : (n : ℕ) (xs : List StepAhead) → length (taken xs n) + length (filter (is_step n) xs) ≡ length xs
counted n [] = refl
counted n (x ∷ xs) =
    let more = counted n xs in
    elim (cases_Bool (is_step n x)) [
      | inl e ↦ (let a = ap length (filter-yes (is_step n) x xs e) in let b = ap length (filter-no (λ y. not (is_step n y)) x xs (ap not e)) in omega (arith, more, a, b))
      | inr e ↦ (let a = ap length (filter-no (is_step n) x xs e) in let b = ap length (filter-yes (λ y. not (is_step n y)) x xs (ap not e)) in omega (arith, more, a, b))
    ]

-- ---- the tickets

-- what the ticket that is found tells
pub found_step : (o : Option StepAhead) (t : Ticket) → option_map ticket_of o ≡ Some t → (a : StepAhead) × (o ≡ Some a) × (t ≡ ticket_of a)
found_step None t e = cc
found_step (Some a) t e = (a, refl, (let s : ticket_of a ≡ t = cc in sym s))

pub none_found : (o : Option StepAhead) → option_map ticket_of o ≡ None → o ≡ None
none_found None e = refl
none_found (Some a) e = cc

pub channel_found : (all : List StepAhead) (n : ℕ) (a : StepAhead) → AreWindows all → step_in all n ≡ Some a → a.channel < WINDOW_CHANNELS
channel_found all n a w at = ltb-true a.channel WINDOW_CHANNELS (all_found (λ b. nat_lt b.channel WINDOW_CHANNELS) (is_step n) all a w.channels at)

-- the step's own ticket in the window of a channel
own : (all : List StepAhead) (n : ℕ) (a : StepAhead) (c : ℕ) → AreWindows all → step_in all n ≡ Some a → filter (is_step n) (window all c) ≡ window (a ∷ []) c
own all n a c w at = filter_comm (is_step n) (λ b. nat_eq b.channel c) all ∙ ap (filter (λ (b : StepAhead). nat_eq b.channel c)) (filter_one (is_step n) all a (w.once n) at)

-- the windows of the other channels stay where its ticket is taken away
pub taken_elsewhere : (all : List StepAhead) (n : ℕ) (a : StepAhead) (c : ℕ) → AreWindows all → step_in all n ≡ Some a → (a.channel ≡ c → ⊥) → window (taken all n) c ≡ window all c
taken_elsewhere all n a c w at other =
    let none = own all n a c w at ∙ filter-no (λ (b : StepAhead). nat_eq b.channel c) a [] (ne_eqb a.channel c other) in
    window_taken all n c ∙ taken_none n (window all c) (ap length none)

-- in its own there is one less
pub taken_here : (all : List StepAhead) (n : ℕ) (a : StepAhead) → AreWindows all → step_in all n ≡ Some a → length (window (taken all n) a.channel) + 1 ≡ length (window all a.channel)
taken_here all n a w at =
    let one = ap length (own all n a a.channel w at ∙ filter-yes (λ (b : StepAhead). nat_eq b.channel a.channel) a [] (eq-eqb a.channel a.channel refl)) in
    omega (arith, ap length (window_taken all n a.channel), counted n (window all a.channel), one)

-- ---- one channel

pub followed_same : (all new : List StepAhead) (c : ℕ) (sent ns : List ℕ) (next : ℕ) → map (λ a. a.step) (window new c) ≡ map (λ a. a.step) (window all c) → IsFollowed all c sent ns next → IsFollowed new c sent ns next
followed_same all new c sent ns next same f = record {
  rest = ap (λ (ms : List ℕ). ms ++ coming sent ns next) same ∙ f.rest;
  full = λ few. f.full (omega (arith, few, sym (length-map (window new c) (λ (a : StepAhead). a.step)) ∙ ap length same ∙ length-map (window all c) (λ (a : StepAhead). a.step)));
}

pub rest_taken : (all : List StepAhead) (n c : ℕ) (old new ns : List ℕ) (next : ℕ) → ((m : ℕ) → has new m ≡ (has old m || (n == m))) → IsFollowed all c old ns next → map (λ a. a.step) (window (taken all n) c) ++ coming new ns next ≡ unsent_by new ns
rest_taken all n c old new ns next adds f =
    let ms = map (λ (a : StepAhead). a.step) (window all c) in
    ap (λ (ks : List ℕ). ks ++ coming new ns next) (steps_without all n c ms refl)
    ∙ ap (λ (ks : List ℕ). without n ms ++ ks) (unsent_without old new n (drop next ns) adds)
    ∙ sym (filter-append (λ m. not (n == m)) ms (coming old ns next))
    ∙ ap (without n) f.rest
    ∙ sym (unsent_without old new n ns adds)

followed_taken : (all : List StepAhead) (n c : ℕ) (old new ns : List ℕ) (next : ℕ) → ((m : ℕ) → has new m ≡ (has old m || (n == m))) → window (taken all n) c ≡ window all c → IsFollowed all c old ns next → IsFollowed (taken all n) c new ns next
followed_taken all n c old new ns next adds same f = record {
  rest = rest_taken all n c old new ns next adds f;
  full = λ few. unsent_without old new n (drop next ns) adds ∙ ap (without n) (f.full (omega (arith, few, ap length same)));
}

followed_joined : (version : ℕ → ℕ) (all : List StepAhead) (c : ℕ) (sent ns : List ℕ) (next : ℕ) (ks : List ℕ) → coming sent ns next ≡ drop 1 ks → map (λ a. a.step) (window all c) ++ ks ≡ unsent_by sent ns → (length (window all c) + 1 < MAX_WINDOW → ks ≡ []) → IsFollowed (joined version all c (slice_get ks 0)) c sent ns next
followed_joined version all c sent ns next [] e h few = record {
  rest = ap (λ (ms : List ℕ). map (λ a. a.step) (window all c) ++ ms) e ∙ h;
  full = λ room. e;
}
followed_joined version all c sent ns next (m ∷ ks) e h few = record {
  rest =
      ap (λ (ys : List StepAhead). map (λ a. a.step) ys ++ coming sent ns next) (window_placed all m c (version m))
      ∙ ap (λ (ms : List ℕ). ms ++ coming sent ns next) (map-append (λ (a : StepAhead). a.step) (window all c) (wanted m c (version m) ∷ []))
      ∙ ap (λ (ms : List ℕ). (map (λ a. a.step) (window all c) ++ m ∷ []) ++ ms) e
      ∙ append_assoc (map (λ (a : StepAhead). a.step) (window all c)) (m ∷ []) ks
      ∙ h;
  full = λ room. absurd (let none : m ∷ ks ≡ [] = few (omega (arith, room, ap length (window_placed all m c (version m)), length-append (window all c) (wanted m c (version m) ∷ []))) in cc);
}

-- ---- all channels

-- the same steps in each window
pub kept_same : (all new : List StepAhead) (lines : List (List ℕ)) (known sent nexts : List ℕ) → ((c : ℕ) → map (λ a. a.step) (window new c) ≡ map (λ a. a.step) (window all c)) → IsKept all lines known sent nexts → IsKept new lines known sent nexts
kept_same all new lines known sent nexts same k = record {
  lines_are = k.lines_are;
  nexts_are = k.nexts_are;
  followed = λ c low. followed_same all new c sent (line lines c) (get_or nexts c 0) (same c) (k.followed c low);
}

steps_changed : (n : ℕ) (f : StepAhead → StepAhead) → ((a : StepAhead) → (f a).step ≡ a.step) → (xs : List StepAhead) → map (λ a. a.step) (changed n f xs) ≡ map (λ a. a.step) xs
steps_changed n f same [] = refl
steps_changed n f same (x ∷ xs) =
    let here : (cond (is_step n x) (f x) x).step ≡ x.step = elim (is_step n x) as (λ b. (cond b (f x) x).step ≡ x.step) [ true ↦ same x | false ↦ refl ] in
    let more = steps_changed n f same xs in
    cc

changed_steps : (n : ℕ) (f : StepAhead → StepAhead) → ((a : StepAhead) → (f a).step ≡ a.step) → ((a : StepAhead) → (f a).channel ≡ a.channel) → (all : List StepAhead) (c : ℕ) → map (λ a. a.step) (window (changed n f all) c) ≡ map (λ a. a.step) (window all c)
changed_steps n f step channel all c = ap (map (λ (a : StepAhead). a.step)) (window_changed all n c f channel) ∙ steps_changed n f step (window all c)

pub kept_steps : (all : List StepAhead) (n : ℕ) (d : _) (c : ℕ) → map (λ a. a.step) (window (kept all n d) c) ≡ map (λ a. a.step) (window all c)
kept_steps all n d c = changed_steps n (with_plan d) (λ a. refl) (λ a. refl) all c

asked_steps : (all : List StepAhead) (o : Option StepAhead) (c : ℕ) → map (λ a. a.step) (window (asked_for all o) c) ≡ map (λ a. a.step) (window all c)
asked_steps all None c = refl
asked_steps all (Some a) c = changed_steps a.step asked (λ b. refl) (λ b. refl) all c

pub handed_steps : (all : List StepAhead) (c : ℕ) → map (λ a. a.step) (window (handed all) c) ≡ map (λ a. a.step) (window all c)
handed_steps all c = asked_steps all (first_waiting all) c

pub renewed_steps : (version : ℕ → ℕ) (all : List StepAhead) (c : ℕ) → map (λ a. a.step) (window (all_renewed version all) c) ≡ map (λ a. a.step) (window all c)
renewed_steps version all c = ap (map (λ (a : StepAhead). a.step)) (window_renewed version all c) ∙ steps_renewed version (window all c)

-- a dispatch of a step that has no ticket
pub kept_beyond : (all : List StepAhead) (lines : List (List ℕ)) (known old new nexts : List ℕ) (n : ℕ) → step_in all n ≡ None → ((m : ℕ) → has new m ≡ (has old m || (n == m))) → IsKept all lines known old nexts → IsKept all lines known new nexts
kept_beyond all lines known old new nexts n at adds k =
    let gone : taken all n ≡ all = taken_none n all (ap length (filter_nothing (is_step n) all at)) in
    record {
      lines_are = k.lines_are;
      nexts_are = k.nexts_are;
      followed = λ c low. subst (λ (ys : List StepAhead). IsFollowed ys c new (line lines c) (get_or nexts c 0)) gone (followed_taken all n c old new (line lines c) (get_or nexts c 0) adds (ap (λ (ys : List StepAhead). window ys c) gone) (k.followed c low));
    }

-- what comes has no ticket yet
pub coming_is_new : (all : List StepAhead) (lines : List (List ℕ)) (known old new nexts : List ℕ) (n c m : ℕ) → c < WINDOW_CHANNELS → AreWindows all → ((i : ℕ) → has new i ≡ (has old i || (n == i))) → IsKept all lines known old nexts → has (coming new (line lines c) (get_or nexts c 0)) m ≡ true → step_in (taken all n) m ≡ None
coming_is_new all lines known old new nexts n c m low w adds k comes = go (step_in (taken all n) m) refl
  where
    left : (d : ℕ) → d < WINDOW_CHANNELS → map (λ a. a.step) (window (taken all n) d) ++ coming new (line lines d) (get_or nexts d 0) ≡ unsent_by new (line lines d)
    left d under = rest_taken all n d old new (line lines d) (get_or nexts d 0) adds (k.followed d under)

    twice : (b : StepAhead) → step_in (taken all n) m ≡ Some b → ⊥
    twice b at =
        let v = windows_taken n all w in
        let under = channel_found (taken all n) m b v at in
        let there : has (map (λ a. a.step) (window (taken all n) b.channel)) m ≡ true = in_window (taken all n) m b b.channel v at ∙ eq-eqb b.channel b.channel refl in
        let own : has (line lines b.channel) m ≡ true = has_filter (λ i. not (has new i)) (line lines b.channel) m (subst (λ (ms : List ℕ). has ms m ≡ true) (left b.channel under) (has_front (map (λ a. a.step) (window (taken all n) b.channel)) (coming new (line lines b.channel) (get_or nexts b.channel 0)) m there)) in
        let here : has (line lines c) m ≡ true = has_drop (get_or nexts c 0) (line lines c) m (has_filter (λ i. not (has new i)) (drop (get_or nexts c 0) (line lines c)) m comes) in
        let same : b.channel ≡ c = k.lines_are.apart b.channel c m own here in
        let distinct : AreDistinct (map (λ a. a.step) (window (taken all n) c) ++ coming new (line lines c) (get_or nexts c 0)) = subst AreDistinct (sym (left c low)) (distinct_filter (λ i. not (has new i)) (line lines c) (k.lines_are.distinct c)) in
        let once = has_once (map (λ a. a.step) (window (taken all n) c)) (coming new (line lines c) (get_or nexts c 0)) m distinct (subst (λ (d : ℕ). has (map (λ a. a.step) (window (taken all n) d)) m ≡ true) same there) in
        no_way (sym once ∙ comes)

    go : (o : Option StepAhead) → step_in (taken all n) m ≡ o → step_in (taken all n) m ≡ None
    go None e = e
    go (Some b) e = absurd (twice b e)

-- what comes is of the known steps
pub coming_is_known : (all : List StepAhead) (lines : List (List ℕ)) (known old nexts sent : List ℕ) (c m : ℕ) → IsKept all lines known old nexts → has (coming sent (line lines c) (get_or nexts c 0)) m ≡ true → Contains known m
coming_is_known all lines known old nexts sent c m k comes = k.lines_are.known_are c m (has_drop (get_or nexts c 0) (line lines c) m (has_filter (λ i. not (has sent i)) (drop (get_or nexts c 0) (line lines c)) m comes))

joined_elsewhere : (version : ℕ → ℕ) (all : List StepAhead) (c : ℕ) (o : Option ℕ) (d : ℕ) → AreWindows all → (c ≡ d → ⊥) → window (joined version all c o) d ≡ window all d
joined_elsewhere version all c None d w other = refl
joined_elsewhere version all c (Some m) d w other = window_placed_elsewhere all m c (version m) d w other

-- a dispatch of a step that has a ticket
pub kept_turned : (version : ℕ → ℕ) (all : List StepAhead) (lines : List (List ℕ)) (known old new nexts : List ℕ) (n : ℕ) (a : StepAhead) (next : ℕ) → AreWindows all → step_in all n ≡ Some a → ((m : ℕ) → has new m ≡ (has old m || (n == m))) → coming new (line lines a.channel) next ≡ drop 1 (coming new (line lines a.channel) (get_or nexts a.channel 0)) → IsKept all lines known old nexts
    → IsKept (joined version (taken all n) a.channel (slice_get (coming new (line lines a.channel) (get_or nexts a.channel 0)) 0)) lines known new (set nexts a.channel next)
kept_turned version all lines known old new nexts n a next w at adds passed k = record {
  lines_are = k.lines_are;
  nexts_are = length-set nexts a.channel next ∙ k.nexts_are;
  followed = λ d low. elim (cases_eq a.channel d) [ inl e ↦ subst (λ (c : ℕ). IsFollowed after c new (line lines c) (get_or (set nexts a.channel next) c 0)) e here | inr e ↦ there d low e ];
}
  where
    ks : List ℕ
    ks = coming new (line lines a.channel) (get_or nexts a.channel 0)

    after : List StepAhead
    after = joined version (taken all n) a.channel (slice_get ks 0)

    under : a.channel < WINDOW_CHANNELS
    under = channel_found all n a w at

    here : IsFollowed after a.channel new (line lines a.channel) (get_or (set nexts a.channel next) a.channel 0)
    here =
        let f = k.followed a.channel under in
        let same : get_or (set nexts a.channel next) a.channel 0 ≡ next = get_or-set_same nexts a.channel next 0 (omega (arith, under, k.nexts_are)) in
        subst (λ (i : ℕ). IsFollowed after a.channel new (line lines a.channel) i) (sym same)
        (followed_joined version (taken all n) a.channel new (line lines a.channel) next ks passed
        (rest_taken all n a.channel old new (line lines a.channel) (get_or nexts a.channel 0) adds f)
        (λ few. unsent_without old new n (drop (get_or nexts a.channel 0) (line lines a.channel)) adds ∙ ap (without n) (f.full (omega (arith, few, taken_here all n a w at)))))

    there : (d : ℕ) → d < WINDOW_CHANNELS → (a.channel ≡ d → ⊥) → IsFollowed after d new (line lines d) (get_or (set nexts a.channel next) d 0)
    there d low other =
        let f = followed_taken all n d old new (line lines d) (get_or nexts d 0) adds (taken_elsewhere all n a d w at other) (k.followed d low) in
        let same : get_or (set nexts a.channel next) d 0 ≡ get_or nexts d 0 = get_or-set_other nexts a.channel d next 0 (λ e. other (sym e)) in
        subst (λ (i : ℕ). IsFollowed after d new (line lines d) i) (sym same)
        (followed_same (taken all n) after d new (line lines d) (get_or nexts d 0) (ap (map (λ (b : StepAhead). b.step)) (joined_elsewhere version (taken all n) a.channel (slice_get ks 0) d (windows_taken n all w) other)) f)

-- the step that comes in is the fifth
pub fifth_comes : (all : List StepAhead) (lines : List (List ℕ)) (known old new nexts : List ℕ) (n : ℕ) (a : StepAhead) → AreWindows all → step_in all n ≡ Some a → ((m : ℕ) → has new m ≡ (has old m || (n == m))) → IsKept all lines known old nexts
    → slice_get (coming new (line lines a.channel) (get_or nexts a.channel 0)) 0 ≡ slice_get (unsent_by old (line lines a.channel)) 4
fifth_comes all lines known old new nexts n a w at adds k =
    let c = a.channel in
    let ns = line lines c in
    let i = get_or nexts c 0 in
    let f = k.followed c (channel_found all n a w at) in
    let ms = map (λ (b : StepAhead). b.step) (window all c) in
    let long = length-map (window all c) (λ (b : StepAhead). b.step) in
    let now = unsent_without old new n (drop i ns) adds in
    let parts = ap (λ (xs : List ℕ). slice_get xs 4) (sym f.rest) in
    elim (cases_Bool (nat_lt (length (window all c)) 4)) [
      | inl e ↦ (let few = ltb-true (length (window all c)) 4 e in
          let none = f.full few in
          ap (λ (xs : List ℕ). slice_get xs 0) (now ∙ ap (without n) none)
          ∙ sym (parts ∙ ap (λ (xs : List ℕ). slice_get (ms ++ xs) 4) none ∙ ap (λ (xs : List ℕ). slice_get xs 4) (append-nil ms) ∙ get_past ms 4 (omega (arith, long, few))))
      | inr e ↦ (let four : length ms ≡ 4 = (let most = w.few c in let least = not_less (length (window all c)) 4 e in omega (arith, long, most, least)) in
          let distinct : AreDistinct (ms ++ coming old ns i) = subst AreDistinct (sym f.rest) (distinct_filter (λ j. not (has old j)) ns (k.lines_are.distinct c)) in
          let there : has ms n ≡ true = in_window all n a c w at ∙ eq-eqb c c refl in
          let stays = without_none n (coming old ns i) (has_once ms (coming old ns i) n distinct there) in
          ap (λ (xs : List ℕ). slice_get xs 0) (now ∙ stays) ∙ sym (parts ∙ get_behind ms (coming old ns i) 4 four))
    ]
  where
    not_less : (x y : ℕ) → nat_lt x y ≡ false → y ≤ x
    not_less x y e = grind (arith, nat_tests)

-- ---- what is told

steps_ahead : (all : List StepAhead) (c : ℕ) (sent ns : List ℕ) (next : ℕ) → length (window all c) ≤ MAX_WINDOW → IsFollowed all c sent ns next → map (λ a. a.step) (window all c) ≡ take 4 (unsent_by sent ns)
steps_ahead all c sent ns next most f =
    let ms = map (λ (a : StepAhead). a.step) (window all c) in
    let long = length-map (window all c) (λ (a : StepAhead). a.step) in
    sym (ap (take 4) (sym f.rest) ∙ elim (cases_eq (length (window all c)) 4) [
      | inl e ↦ take_front ms (coming sent ns next) 4 (long ∙ e)
      | inr e ↦ ap (λ (xs : List ℕ). take 4 (ms ++ xs)) (f.full (omega (arith, e, most))) ∙ ap (take 4) (append-nil ms) ∙ take_few ms 4 (omega (arith, long, most))
    ])

pub is_window : (all : List StepAhead) (lines : List (List ℕ)) (known sent nexts : List ℕ) → AreWindows all → IsKept all lines known sent nexts → IsWindow (record { ahead = all; lines = lines; known = known; sent = sent })
is_window all lines known sent nexts w k = record {
  windows = w;
  lines_are = k.lines_are;
  steps = λ c low. steps_ahead all c sent (line lines c) (get_or nexts c 0) (w.few c) (k.followed c low);
}

has_at : (xs : List StepAhead) (i : ℕ) (a : StepAhead) → slice_get xs i ≡ Some a → has (map (λ b. b.step) (window xs a.channel)) a.step ≡ true
has_at [] zero a at = cc
has_at [] (suc i) a at = cc
has_at (x ∷ xs) zero a at =
    let same : x ≡ a = cc in
    let first = filter-yes (λ (b : StepAhead). nat_eq b.channel a.channel) x xs (eq-eqb x.channel a.channel (ap (λ (b : StepAhead). b.channel) same)) in
    ap (λ (ys : List StepAhead). has (map (λ b. b.step) ys) a.step) first ∙ has_head x.step a.step (map (λ b. b.step) (window xs a.channel)) (ap (λ (b : StepAhead). b.step) same)
has_at (x ∷ xs) (suc i) a at =
    let more = has_at xs i a at in
    elim (cases_eq x.channel a.channel) [
      | inl e ↦ ap (λ (ys : List StepAhead). has (map (λ b. b.step) ys) a.step) (filter-yes (λ (b : StepAhead). nat_eq b.channel a.channel) x xs (eq-eqb x.channel a.channel e)) ∙ has_later x.step a.step (map (λ b. b.step) (window xs a.channel)) more
      | inr e ↦ ap (λ (ys : List StepAhead). has (map (λ b. b.step) ys) a.step) (filter-no (λ (b : StepAhead). nat_eq b.channel a.channel) x xs (ne_eqb x.channel a.channel e)) ∙ more
    ]

-- each ticket is of a known step
pub ahead_is_known : (all : List StepAhead) (lines : List (List ℕ)) (known sent nexts : List ℕ) → AreWindows all → IsKept all lines known sent nexts → (i : ℕ) (a : StepAhead) → slice_get all i ≡ Some a → Contains known a.step
ahead_is_known all lines known sent nexts w k i a at =
    let c = a.channel in
    let under = ltb-true c WINDOW_CHANNELS (all_at (λ b. nat_lt b.channel WINDOW_CHANNELS) all i a w.channels at) in
    let f = k.followed c under in
    k.lines_are.known_are c a.step (has_filter (λ j. not (has sent j)) (line lines c) a.step (subst (λ (ms : List ℕ). has ms a.step ≡ true) f.rest (has_front (map (λ b. b.step) (window all c)) (coming sent (line lines c) (get_or nexts c 0)) a.step (has_at all i a at))))

-- ---- a dispatch

-- what holds where the ticket of step n is taken away, of channel c with the line ns, of which the steps from next on come
pub record IsTurn (all : List StepAhead) (lines : List (List ℕ)) (known old new nexts : List ℕ) (n c : ℕ) (ns : List ℕ) (next : ℕ) : Type 0 where
  pub within : c < WINDOW_CHANNELS
  pub room : length (window (taken all n) c) < MAX_WINDOW
  pub fresh : (m : ℕ) → has (coming new ns next) m ≡ true → step_in (taken all n) m ≡ None
  pub are_known : (m : ℕ) → has (coming new ns next) m ≡ true → Contains known m
  pub stays : (version : ℕ → ℕ) (i : ℕ) → coming new ns i ≡ drop 1 (coming new ns next) → IsKept (joined version (taken all n) c (slice_get (coming new ns next) 0)) lines known new (set nexts c i)
  pub follows : (version : ℕ → ℕ) → joined version (taken all n) c (slice_get (coming new ns next) 0) ≡ ahead_after version (record { ahead = all; lines = lines; known = known; sent = old }) n

turn_of : (all : List StepAhead) (lines : List (List ℕ)) (known old new nexts : List ℕ) (n : ℕ) (a : StepAhead) → AreWindows all → step_in all n ≡ Some a → ((m : ℕ) → has new m ≡ (has old m || (n == m))) → IsKept all lines known old nexts → IsTurn all lines known old new nexts n a.channel (line lines a.channel) (get_or nexts a.channel 0)
turn_of all lines known old new nexts n a w at adds k = record {
  within = channel_found all n a w at;
  room = (let most = w.few a.channel in omega (arith, most, taken_here all n a w at));
  fresh = λ m comes. coming_is_new all lines known old new nexts n a.channel m (channel_found all n a w at) w adds k comes;
  are_known = λ m comes. coming_is_known all lines known old nexts new a.channel m k comes;
  stays = λ version i passed. kept_turned version all lines known old new nexts n a i w at adds passed k;
  follows = λ version.
      ap (joined version (taken all n) a.channel) (fifth_comes all lines known old new nexts n a w at adds k)
      ∙ sym (ap (ahead_without version (record { ahead = all; lines = lines; known = known; sent = old }) n) at);
}

pub is_turn : (all : List StepAhead) (lines : List (List ℕ)) (known old new nexts : List ℕ) (n : ℕ) (a : StepAhead) (c : ℕ) (ns : List ℕ) (next : ℕ) → AreWindows all → step_in all n ≡ Some a → ((m : ℕ) → has new m ≡ (has old m || (n == m))) → IsKept all lines known old nexts → a.channel ≡ c → line lines c ≡ ns → get_or nexts c 0 ≡ next → IsTurn all lines known old new nexts n c ns next
is_turn all lines known old new nexts n a c ns next w at adds k e f g =
    subst (IsTurn all lines known old new nexts n c ns) g
    (subst (λ (ms : List ℕ). IsTurn all lines known old new nexts n c ms (get_or nexts c 0)) f
    (subst (λ (d : ℕ). IsTurn all lines known old new nexts n d (line lines d) (get_or nexts d 0)) e (turn_of all lines known old new nexts n a w at adds k)))

-- where versions are kept of the known steps, a known step has one
pub knows : (o : Option Versioned) (known : List ℕ) (n : ℕ) → IfSome o (λ v. v.steps ≡ known) → Contains known n → IfSome o (λ v. Contains v.steps n)
knows None known n same there = tt
knows (Some v) known n same there = subst (λ (ns : List ℕ). Contains ns n) (sym same) there
