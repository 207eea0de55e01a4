-- The windows before the first entry, and what they tell of a run.
use Rattle.std.specs.Prelude.{◌↔◌, Contains}
use Rattle.std.proofs.Common.{◌≡◌, ◌≤◌, ◌<◌, ◌+◌, ◌==◌, ℕ, Bool, true, false, not, List, [], ◌∷◌, ◌++◌, Option, Some, None, length, map, filter, nat_eq, nat_lt, nat_le, take, drop, get_or, refl, sym, ◌∙◌, ap, subst, inl, inr, arith}
use Rattle.std.specs.List.{slice_get, range_with_len}
use Rattle.std.proofs.lemmas.Bool.{cases_eq, cases_Bool, eqb-true, eq-eqb}
use Rattle.std.proofs.lemmas.Bool.Decides.{nat_tests}
use Rattle.std.proofs.lemmas.List.{map-append, append_assoc, length-append, length-map, get_or_past, get_or_push, get_or_append_left}
use Rattle.std.proofs.lemmas.List.Elements.{All-filter, All-append}
use Rattle.std.proofs.lemmas.List.FromFn.{length-range_with_len, get_or-map-range_with_len}
use Rattle.run_log.specs.declared.entry.Entry.{Entry}
use Rattle.exec_tree.specs.declared.node.BareNode.{BareNode}
use Rattle.exec_tree.specs.Exec.{has, AreDistinct}
use Rattle.exec_tree.specs.Arena.{numbers_in}
use Rattle.exec_tree.specs.Built.{steps_in, channel_in, is_work}
use Rattle.trace_law.specs.State.{sent}
use Rattle.run_law.specs.Rules.{Rules}
use Rattle.run_law.specs.Ahead.{ahead, steps_of, unsent}
use Rattle.plan_store.specs.declared.limits.TheConstants.{WINDOW_CHANNELS, MAX_WINDOW}
use Rattle.plan_store.specs.Stage.{Wanted}
use Rattle.plan_store.specs.StepAhead.{StepAhead, is_step, step_in, window, placed, wanted, up_to, behind}
use Rattle.plan_store.specs.Windows.{AreWindows}
use Rattle.plan_store.proofs.ListLemmas.{filter_comm, filter_nothing}
use Rattle.plan_store.proofs.WindowMoves.{window_placed, window_placed_elsewhere}
use Rattle.plan_law.specs.Tickets.{joined, next_in}
use Rattle.plan_law.proofs.TicketMoves.{in_window, has_step, All-one}
use Rattle.plan_window.specs.Window.{Windowed, IsWindow, AreLines, AreOpening, line, line_in, lines_in, unsent_by, fifth}
use Rattle.plan_window.specs.Kept.{coming, IsFollowed, IsFilled, StayBut, IsOpened, IsKept}
use Rattle.plan_window.proofs.TurnLemmas.{followed_same}
use Rattle.plan_window.proofs.NumberLemmas.{no_way, same_tests, has_contains, contains_has, has_filter, has_drop, has_front, has_once, has_head, has_split, has_later, distinct_filter}

-- ---- what the windows tell of a run

same_unsent : (ms ks : List ℕ) → ((n : ℕ) → has ms n ≡ has ks n) → (ns : List ℕ) → unsent_by ms ns ≡ unsent_by ks ns
same_unsent ms ks same [] = refl
same_unsent ms ks same (n ∷ ns) = go (has ks n) refl (same_unsent ms ks same ns)
  where
    go : (b : Bool) → has ks n ≡ b → unsent_by ms ns ≡ unsent_by ks ns → unsent_by ms (n ∷ ns) ≡ unsent_by ks (n ∷ ns)
    go true e rec = rw (same n, e) rec
    go false e rec = rw (same n, e) (ap (λ (is : List ℕ). n ∷ is) rec)

same_members : (ms ks : List ℕ) → ((n : ℕ) → Contains ms n ↔ Contains ks n) → (n : ℕ) → has ms n ≡ has ks n
same_members ms ks same n = same_tests (has ms n) (has ks n) (λ h. contains_has ks n ((same n).0 (has_contains ms n h))) (λ h. contains_has ms n ((same n).1 (has_contains ks n h)))

unsent_told : (r : Rules) (t : List Entry) (w : Windowed) (c : ℕ) → line w.lines c ≡ steps_of r t c → ((n : ℕ) → Contains w.sent n ↔ Contains (sent t) n) → unsent_by w.sent (line w.lines c) ≡ unsent t (steps_of r t c)
unsent_told r t w c lines_are sent_are = ap (unsent_by w.sent) lines_are ∙ same_unsent w.sent (sent t) (same_members w.sent (sent t) sent_are) (steps_of r t c)

pub tells_steps : (r : Rules) (t : List Entry) (w : Windowed) → IsWindow w → (c : ℕ) → c < WINDOW_CHANNELS → line w.lines c ≡ steps_of r t c → ((n : ℕ) → Contains w.sent n ↔ Contains (sent t) n) → map (λ a. a.step) (window w.ahead c) ≡ ahead r t c
tells_steps r t w is c low lines_are sent_are = is.steps c low ∙ ap (take 4) (unsent_told r t w c lines_are sent_are)

pub tells_next : (r : Rules) (t : List Entry) (w : Windowed) (c : ℕ) → line w.lines c ≡ steps_of r t c → ((n : ℕ) → Contains w.sent n ↔ Contains (sent t) n) → fifth w c ≡ next_in r t c
tells_next r t w c lines_are sent_are = ap (λ (ns : List ℕ). slice_get ns 4) (unsent_told r t w c lines_are sent_are)

-- ---- a channel's window filled

lower : (x y : ℕ) → nat_lt x y ≡ true → x < y
lower x y e = grind (arith, nat_tests)

upper : (x y : ℕ) → nat_lt x y ≡ false → y ≤ x
upper x y e = grind (arith, nat_tests)

pub filled_none : (all : List StepAhead) (c : ℕ) (sent ns : List ℕ) → window all c ≡ [] → IsFilled all c sent ns 0 0
filled_none all c sent ns none = record {
  rest = ap (λ (xs : List StepAhead). map (λ a. a.step) xs ++ unsent_by sent ns) none;
  few = omega (arith, ap length none);
  full = λ less. absurd (omega (arith, less));
}

filled_more : (version : ℕ → ℕ) (all : List StepAhead) (c : ℕ) (sent ns : List ℕ) (next most : ℕ) (ks : List ℕ) → coming sent ns next ≡ drop 1 ks → map (λ a. a.step) (window all c) ++ ks ≡ unsent_by sent ns → length (window all c) ≤ most → (length (window all c) < most → ks ≡ []) → IsFilled (joined version all c (slice_get ks 0)) c sent ns next (most + 1)
filled_more version all c sent ns next most [] e h few full = record {
  rest = ap (λ (ms : List ℕ). map (λ a. a.step) (window all c) ++ ms) e ∙ h;
  few = omega (arith, few);
  full = λ room. e;
}
filled_more version all c sent ns next most (m ∷ ks) e h few full =
    let long : length (window (placed all m c (version m)) c) ≡ length (window all c) + 1 = ap length (window_placed all m c (version m)) ∙ length-append (window all c) (wanted m c (version m) ∷ []) in
    record {
      rest =
          ap (λ (ys : List StepAhead). map (λ a. a.step) ys ++ coming sent ns next) (window_placed all m c (version m))
          ∙ ap (λ (ms : List ℕ). ms ++ coming sent ns next) (map-append (λ (a : StepAhead). a.step) (window all c) (wanted m c (version m) ∷ []))
          ∙ ap (λ (ms : List ℕ). (map (λ a. a.step) (window all c) ++ m ∷ []) ++ ms) e
          ∙ append_assoc (map (λ (a : StepAhead). a.step) (window all c)) (m ∷ []) ks
          ∙ h;
      few = omega (arith, few, long);
      full = λ room. absurd (let none : m ∷ ks ≡ [] = full (omega (arith, room, long)) in cc);
    }

pub filled_joined : (version : ℕ → ℕ) (all new : List StepAhead) (c : ℕ) (sent ns : List ℕ) (next i most : ℕ) → new ≡ joined version all c (slice_get (coming sent ns next) 0) → coming sent ns i ≡ drop 1 (coming sent ns next) → IsFilled all c sent ns next most → IsFilled new c sent ns i (most + 1)
filled_joined version all new c sent ns next i most is e f = subst (λ (xs : List StepAhead). IsFilled xs c sent ns i (most + 1)) (sym is) (filled_more version all c sent ns i most (coming sent ns next) e f.rest f.few f.full)

others_joined : (version : ℕ → ℕ) (all : List StepAhead) (c : ℕ) (o : Option ℕ) → AreWindows all → StayBut c all (joined version all c o)
others_joined version all c None w d other = refl
others_joined version all c (Some m) w d other = window_placed_elsewhere all m c (version m) d w other

pub others_stay : (version : ℕ → ℕ) (old all new : List StepAhead) (c : ℕ) (o : Option ℕ) → AreWindows all → new ≡ joined version all c o → StayBut c old all → StayBut c old new
others_stay version old all new c o w is stay = λ d other. ap (λ (xs : List StepAhead). window xs d) is ∙ others_joined version all c o w d other ∙ stay d other

opening_joined : (version : ℕ → ℕ) → ((m : ℕ) → version m ≡ 0) → (all : List StepAhead) (c : ℕ) (o : Option ℕ) → AreOpening all → AreOpening (joined version all c o)
opening_joined version zeros all c None h = h
opening_joined version zeros all c (Some m) h =
    let a = wanted m c (version m) in
    All-append (λ b. (b.version ≡ 0) × (b.stage ≡ Wanted)) (up_to all c) (a ∷ behind all c)
    (All-filter (λ b. nat_le b.channel c) (λ b. (b.version ≡ 0) × (b.stage ≡ Wanted)) all h)
    (All-append (λ b. (b.version ≡ 0) × (b.stage ≡ Wanted)) (a ∷ []) (behind all c) (All-one (λ b. (b.version ≡ 0) × (b.stage ≡ Wanted)) a (zeros m, refl)) (All-filter (λ b. nat_lt c b.channel) (λ b. (b.version ≡ 0) × (b.stage ≡ Wanted)) all h))

pub opening_stays : (all new : List StepAhead) (c : ℕ) (o : Option ℕ) → new ≡ joined (λ m. 0) all c o → AreOpening all → AreOpening new
opening_stays all new c o is h = subst AreOpening (sym is) (opening_joined (λ m. 0) (λ m. refl) all c o h)

-- where a step has a ticket, the window of its channel has it
there : (all : List StepAhead) (m : ℕ) (b : StepAhead) → AreWindows all → step_in all m ≡ Some b → has (map (λ a. a.step) (window all b.channel)) m ≡ true
there all m b w at = in_window all m b b.channel w at ∙ eq-eqb b.channel b.channel refl

-- where no ticket is there, no window has it
not_there : (all : List StepAhead) (m d : ℕ) → step_in all m ≡ None → has (map (λ a. a.step) (window all d)) m ≡ false
not_there all m d none =
    let gone : filter (is_step m) (window all d) ≡ [] = filter_comm (is_step m) (λ b. nat_eq b.channel d) all ∙ ap (filter (λ (b : StepAhead). nat_eq b.channel d)) (filter_nothing (is_step m) all none) in
    has_step (window all d) m ∙ ap (λ (ys : List StepAhead). nat_lt 0 (length ys)) gone

pub filled_new : (old all : List StepAhead) (c : ℕ) (sent ns : List ℕ) (next most m : ℕ) → AreWindows all → StayBut c old all → AreDistinct ns → ((n : ℕ) → has ns n ≡ true → step_in old n ≡ None) → IsFilled all c sent ns next most → has (coming sent ns next) m ≡ true → step_in all m ≡ None
filled_new old all c sent ns next most m w stay distinct new f comes = go (step_in all m) refl
  where
    own : has ns m ≡ true
    own = has_drop next ns m (has_filter (λ i. not (has sent i)) (drop next ns) m comes)

    twice : (b : StepAhead) → step_in all m ≡ Some b → ⊥
    twice b at =
        elim (cases_eq c b.channel) [
          | inl e ↦ (let apart : AreDistinct (map (λ a. a.step) (window all c) ++ coming sent ns next) = subst AreDistinct (sym f.rest) (distinct_filter (λ i. not (has sent i)) ns distinct) in
              let once = has_once (map (λ a. a.step) (window all c)) (coming sent ns next) m apart (subst (λ (d : ℕ). has (map (λ a. a.step) (window all d)) m ≡ true) (sym e) (there all m b w at)) in
              no_way (sym once ∙ comes))
          | inr e ↦ (let before = not_there old m b.channel (new m own) in
              no_way (sym before ∙ ap (λ (ys : List StepAhead). has (map (λ a. a.step) ys) m) (sym (stay b.channel e)) ∙ there all m b w at))
        ]

    go : (o : Option StepAhead) → step_in all m ≡ o → step_in all m ≡ None
    go None e = e
    go (Some b) e = absurd (twice b e)

-- ---- all windows filled

pub opened_none : (all : List StepAhead) (lines : List (List ℕ)) (sent : List ℕ) → all ≡ [] → IsOpened all lines sent [] 0
opened_none all lines sent none = record {
  nexts_are = refl;
  followed = λ d less. absurd (omega (arith, less));
  empty = λ d low. ap (λ (xs : List StepAhead). window xs d) none;
}

pub opened_new : (all : List StepAhead) (lines : List (List ℕ)) (known sent nexts : List ℕ) (c m : ℕ) → AreWindows all → AreLines lines known → IsOpened all lines sent nexts c → has (line lines c) m ≡ true → step_in all m ≡ None
opened_new all lines known sent nexts c m w are opened own = go (step_in all m) refl
  where
    twice : (b : StepAhead) → step_in all m ≡ Some b → ⊥
    twice b at =
        elim (cases_Bool (nat_lt b.channel c)) [
          | inl e ↦ (let f = opened.followed b.channel (lower b.channel c e) in
              let other : has (line lines b.channel) m ≡ true = has_filter (λ i. not (has sent i)) (line lines b.channel) m (subst (λ (ms : List ℕ). has ms m ≡ true) f.rest (has_front (map (λ a. a.step) (window all b.channel)) (coming sent (line lines b.channel) (get_or nexts b.channel 0)) m (there all m b w at))) in
              let same = are.apart b.channel c m other own in
              let less = lower b.channel c e in
              absurd (omega (arith, same, less)))
          | inr e ↦ no_way (sym (ap (λ (ys : List StepAhead). has (map (λ a. a.step) ys) m) (opened.empty b.channel (upper b.channel c e))) ∙ there all m b w at)
        ]

    go : (o : Option StepAhead) → step_in all m ≡ o → step_in all m ≡ None
    go None e = e
    go (Some b) e = absurd (twice b e)

pub opened_more : (old new : List StepAhead) (lines : List (List ℕ)) (sent nexts : List ℕ) (c next : ℕ) → IsOpened old lines sent nexts c → IsFilled new c sent (line lines c) next MAX_WINDOW → StayBut c old new → IsOpened new lines sent (nexts ++ next ∷ []) (c + 1)
opened_more old new lines sent nexts c next opened f stay = record {
  nexts_are = length-append nexts (next ∷ []) ∙ ap (λ (k : ℕ). k + 1) opened.nexts_are;
  followed = λ d less. elim (cases_eq c d) [
    | inl e ↦ subst (λ (k : ℕ). IsFollowed new k sent (line lines k) (get_or (nexts ++ next ∷ []) k 0)) e here
    | inr e ↦ (let low : d < c = omega (arith, less, e) in
        subst (λ (i : ℕ). IsFollowed new d sent (line lines d) i) (sym (front d low))
        (followed_same old new d sent (line lines d) (get_or nexts d 0) (ap (map (λ (a : StepAhead). a.step)) (stay d e)) (opened.followed d low)))
  ];
  empty = λ d low. stay d (λ e. omega (arith, low, e)) ∙ opened.empty d (omega (arith, low));
}
  where
    here : IsFollowed new c sent (line lines c) (get_or (nexts ++ next ∷ []) c 0)
    here = subst (λ (i : ℕ). IsFollowed new c sent (line lines c) i) (sym (get_or_push nexts next 0 c opened.nexts_are)) (record { rest = f.rest; full = f.full })

    front : (d : ℕ) → d < c → get_or (nexts ++ next ∷ []) d 0 ≡ get_or nexts d 0
    front d low = get_or_append_left nexts (next ∷ []) 0 d (omega (arith, low, opened.nexts_are))

pub kept_opened : (all : List StepAhead) (lines : List (List ℕ)) (known sent nexts : List ℕ) → AreLines lines known → IsOpened all lines sent nexts WINDOW_CHANNELS → IsKept all lines known sent nexts
kept_opened all lines known sent nexts are opened = record { lines_are = are; nexts_are = opened.nexts_are; followed = opened.followed }

-- ---- the lines of a tree

steps_among : (nodes : List BareNode) (n : ℕ) → has (steps_in nodes) n ≡ true → has (numbers_in nodes) n ≡ true
steps_among [] n h = h
steps_among (node ∷ nodes) n h = go node.number (is_work node.kind) refl refl h (steps_among nodes n)
  where
    go : (o : Option ℕ) (b : Bool) → node.number ≡ o → is_work node.kind ≡ b → has (steps_in (node ∷ nodes)) n ≡ true → (has (steps_in nodes) n ≡ true → has (numbers_in nodes) n ≡ true) → has (numbers_in (node ∷ nodes)) n ≡ true
    go None true e f i rec = rw e (rec (rw (f, e) at i))
    go None false e f i rec = rw e (rec (rw f at i))
    go (Some m) true e f i rec = rw e (elim (has_split m n (steps_in nodes) (rw (f, e) at i)) [ inl s ↦ has_head m n (numbers_in nodes) s | inr j ↦ has_later m n (numbers_in nodes) (rec j) ])
    go (Some m) false e f i rec = rw e (has_later m n (numbers_in nodes) (rec (rw f at i)))

steps_distinct : (nodes : List BareNode) → AreDistinct (numbers_in nodes) → AreDistinct (steps_in nodes)
steps_distinct [] d = d
steps_distinct (node ∷ nodes) d = go node.number (is_work node.kind) refl refl d (steps_distinct nodes)
  where
    out : (m : ℕ) → has (numbers_in nodes) m ≡ false → has (steps_in nodes) m ≡ false
    out m h = elim (cases_Bool (has (steps_in nodes) m)) [ inl e ↦ absurd (no_way (sym h ∙ steps_among nodes m e)) | inr e ↦ e ]

    go : (o : Option ℕ) (b : Bool) → node.number ≡ o → is_work node.kind ≡ b → AreDistinct (numbers_in (node ∷ nodes)) → (AreDistinct (numbers_in nodes) → AreDistinct (steps_in nodes)) → AreDistinct (steps_in (node ∷ nodes))
    go None true e f i rec = rw (f, e) (rec (rw e at i))
    go None false e f i rec = rw f (rec (rw e at i))
    go (Some m) true e f i rec = let j = rw e at i in rw (f, e) (out m j.0, rec j.1)
    go (Some m) false e f i rec = let j = rw e at i in rw f (rec j.1)

pub line_is : (nodes : List BareNode) (c : ℕ) → c < WINDOW_CHANNELS → line (lines_in nodes) c ≡ line_in nodes c
line_is nodes c low = get_or-map-range_with_len (line_in nodes) 0 WINDOW_CHANNELS c c [] low (omega arith)

lines_long : (nodes : List BareNode) → length (lines_in nodes) ≡ WINDOW_CHANNELS
lines_long nodes = length-map (range_with_len 0 WINDOW_CHANNELS) (line_in nodes) ∙ length-range_with_len 0 WINDOW_CHANNELS

line_past : (nodes : List BareNode) (c : ℕ) → nat_lt c WINDOW_CHANNELS ≡ false → line (lines_in nodes) c ≡ []
line_past nodes c e = get_or_past (lines_in nodes) c [] (let long = lines_long nodes in let above = upper c WINDOW_CHANNELS e in omega (arith, long, above))

passes : (p : ℕ → Bool) (ns : List ℕ) (n : ℕ) → has (filter p ns) n ≡ true → p n ≡ true
passes p [] n h = absurd (no_way h)
passes p (m ∷ ns) n h = go (p m) refl h (passes p ns n)
  where
    go : (b : Bool) → p m ≡ b → has (filter p (m ∷ ns)) n ≡ true → (has (filter p ns) n ≡ true → p n ≡ true) → p n ≡ true
    go true e i rec = elim (has_split m n (filter p ns) (rw e at i)) [ inl s ↦ subst (λ (k : ℕ). p k ≡ true) s e | inr j ↦ rec j ]
    go false e i rec = rec (rw e at i)

in_line : (nodes : List BareNode) (c n : ℕ) → has (line (lines_in nodes) c) n ≡ true → (channel_in nodes n ≡ c) × (has (steps_in nodes) n ≡ true)
in_line nodes c n h = elim (cases_Bool (nat_lt c WINDOW_CHANNELS)) [
  | inl e ↦ (let i : has (line_in nodes c) n ≡ true = subst (λ (ns : List ℕ). has ns n ≡ true) (line_is nodes c (lower c WINDOW_CHANNELS e)) h in
      (eqb-true (channel_in nodes n) c (passes (λ k. channel_in nodes k == c) (steps_in nodes) n i), has_filter (λ k. channel_in nodes k == c) (steps_in nodes) n i))
  | inr e ↦ absurd (no_way (subst (λ (ns : List ℕ). has ns n ≡ true) (line_past nodes c e) h))
]

pub tree_lines : (nodes : List BareNode) (known : List ℕ) → AreDistinct (numbers_in nodes) → known ≡ steps_in nodes → AreLines (lines_in nodes) known
tree_lines nodes known d is = record {
  channels = lines_long nodes;
  distinct = λ c. elim (cases_Bool (nat_lt c WINDOW_CHANNELS)) [
    | inl e ↦ subst AreDistinct (sym (line_is nodes c (lower c WINDOW_CHANNELS e))) (distinct_filter (λ n. channel_in nodes n == c) (steps_in nodes) (steps_distinct nodes d))
    | inr e ↦ subst AreDistinct (sym (line_past nodes c e)) tt
  ];
  apart = λ c e n h i. sym (in_line nodes c n h).0 ∙ (in_line nodes e n i).0;
  known_are = λ c n h. subst (λ (ns : List ℕ). Contains ns n) (sym is) (has_contains (steps_in nodes) n (in_line nodes c n h).1);
}
