-- A legal run stays legal where an edit is put at the script's end, and where one that isn't judged is taken off it.
use Rattle.std.specs.Prelude.{◌≡◌, ◌⊎◌, ◌<◌, ◌≤◌, ◌+◌, ℕ, zero, suc, Bool, true, false, ◌==◌, nat_le, nat_lt, ◌&&◌, ◌||◌, not, List, [], ◌∷◌, ◌++◌, length, slice_get, Option, Some, None, IsSomeAnd}
use Rattle.std.specs.List.{list_any}
use Rattle.std.specs.Option.{option_map_or}
use Rattle.std.proofs.Common.{refl, sym, ap, subst, ◌∙◌, inl, inr, arith, length-append}
use Rattle.std.proofs.lemmas.Bool.Decides.{nat_tests}
use Rattle.std.proofs.lemmas.Option.{slice_get_within, slice_get_past}
use Rattle.exec_tree.specs.Exec.{Exec, has, works}
use Rattle.trace_law.specs.Of.{is_of, number_of}
use Rattle.trace_law.specs.Part.{Part}
use Rattle.trace_law.specs.Next.{next}
use Rattle.trace_law.specs.State.{is_open, stage}
use Rattle.run_log.specs.declared.entry.Entry.{Entry}
use Rattle.run_log.specs.declared.entry.Entry.TheVariants.{Dispatch, Block, End, Pick, Test, Assign, Set, Pass, Note, Edit}
use Rattle.exec_tree.specs.declared.role.Role.{Role}
use Rattle.exec_tree.specs.declared.role.Role.TheVariants.{Cutting, Waiting, Free}
use Rattle.run_law.specs.Rules.{Rules}
use Rattle.run_law.specs.Fits.{Fits, FitsNode, FitsEdit, HasValues, plain, judged, next_of, is_busy, may_go_on, is_enabled, is_stuck, is_due}
use Rattle.run_law.specs.Legal.{Legal}
use Rattle.run_law.specs.Sound.{IsSound}
use Rattle.run_law.specs.Agree.{SaysSame, HasOneMore}
use Rattle.trace_law.proofs.StrayLemmas.{Offered}
use Rattle.nc_base.specs.declared.verdict.Verdict.{Verdict}

no_way : false ≡ true → ⊥
no_way e = cc

-- a run is legal up to each place
abbrev pub Front : Type 0
Front = (r : Rules) (t u : List Entry) → Legal r (t ++ u) → Legal r t

-- ---- what is the same where the rules say the same

any_same : (f g : ℕ → Bool) (ns : List ℕ) → ((n : ℕ) → f n ≡ g n) → list_any f ns ≡ list_any g ns
any_same f g [] h = refl
any_same f g (n ∷ ns) h = rw (h n, any_same f g ns h) refl

busy_same : (r q : Rules) (t : List Entry) → SaysSame r q t → (c : ℕ) → is_busy r t c ≡ is_busy q t c
busy_same r q t s c =
    ap (λ (e : Exec). list_any (λ m. (r.channel t m == c) && is_open m t) (works e)) s.tree
    ∙ any_same (λ m. (r.channel t m == c) && is_open m t) (λ m. (q.channel t m == c) && is_open m t) (works (q.tree t)) (λ m. ap (λ k. (k == c) && is_open m t) (s.channel m))

enabled_same : (r q : Rules) (t : List Entry) → SaysSame r q t → (n : ℕ) → is_enabled r t n ≡ is_enabled q t n
enabled_same r q t s n = ap (λ o. may_go_on r t n o) (s.role n) ∙ go (q.role t n)
  where
    go : (o : Role) → may_go_on r t n o ≡ may_go_on q t n o
    go Cutting = ap (λ b. is_open n t || not b) (busy_same r q t s (r.channel t n) ∙ ap (λ c. is_busy q t c) (s.channel n))
    go (Waiting m) = refl
    go Free = refl

next_same : (r q : Rules) (t : List Entry) → SaysSame r q t → next_of r t ≡ next_of q t
next_same r q t s = ap (λ e. next e (plain t)) s.tree

stuck_same : (r q : Rules) (t : List Entry) → SaysSame r q t → is_stuck r t ≡ is_stuck q t
stuck_same r q t s = ap not (ap (λ ns. list_any (is_enabled r t) ns) (next_same r q t s) ∙ any_same (is_enabled r t) (is_enabled q t) (next_of q t) (enabled_same r q t s))

values_there : (r q : Rules) (t : List Entry) (x : Entry) → SaysSame r q t → HasValues r t x → HasValues q t x
values_there r q t (Dispatch n v) s h = h ∙ s.version n
values_there r q t (Block n k b) s h = subst (λ p. slice_get p k ≡ Some b) (s.path n) h
values_there r q t (End n) s h = subst (λ p. stage n t ≡ Some (length p)) (s.path n) h
values_there r q t (Test n b) s h = h ∙ s.answer n
values_there r q t (Assign n v) s h = h ∙ s.value n
values_there r q t (Pick n k) s h = tt
values_there r q t (Set n) s h = tt
values_there r q t (Pass n) s h = tt
values_there r q t (Note n) s h = tt
values_there r q t (Edit i w) s h = tt

turned : (r q : Rules) (t : List Entry) → SaysSame r q t → SaysSame q r t
turned r q t s =
    record {
      tree = sym s.tree;
      role = λ n. sym (s.role n);
      channel = λ n. sym (s.channel n);
      version = λ n. sym (s.version n);
      path = λ n. sym (s.path n);
      answer = λ n. sym (s.answer n);
      value = λ n. sym (s.value n);
    }

enabled_there : (r q : Rules) (t : List Entry) → SaysSame r q t → (o : Option ℕ) → IsSomeAnd o (λ n. is_enabled r t n ≡ true) → IsSomeAnd o (λ n. is_enabled q t n ≡ true)
enabled_there r q t s None h = h
enabled_there r q t s (Some n) h = sym (enabled_same r q t s n) ∙ h

node_there : (r q : Rules) (t : List Entry) (x : Entry) → SaysSame r q t → is_due q t ≡ false → FitsNode r t x → FitsNode q t x
node_there r q t x s due f =
    record { not_due = due; goes_on = subst (λ e. Part e (plain t ++ x ∷ [])) s.tree f.goes_on; enabled = enabled_there r q t s (number_of x) f.enabled; values = values_there r q t x s f.values }

-- ---- lists

pub judged_append : (t u : List Entry) → judged (t ++ u) ≡ judged t + judged u
judged_append [] u = omega arith
judged_append (Edit i w ∷ t) u = omega (arith, judged_append t u)
judged_append (Dispatch n v ∷ t) u = judged_append t u
judged_append (Block n k b ∷ t) u = judged_append t u
judged_append (End n ∷ t) u = judged_append t u
judged_append (Pick n k ∷ t) u = judged_append t u
judged_append (Test n b ∷ t) u = judged_append t u
judged_append (Assign n v ∷ t) u = judged_append t u
judged_append (Set n ∷ t) u = judged_append t u
judged_append (Pass n ∷ t) u = judged_append t u
judged_append (Note n ∷ t) u = judged_append t u

get_front : (ns ms : List ℕ) (i : ℕ) → i < length ns → slice_get (ns ++ ms) i ≡ slice_get ns i
get_front [] ms i l = absurd (let f : ⊥ = omega (arith, l) in f)
get_front (n ∷ ns) ms zero l = refl
get_front (n ∷ ns) ms (suc i) l = get_front ns ms i (let f : i < length ns = omega (arith, l) in f)

get_last : (ns : List ℕ) (n i : ℕ) → i ≡ length ns → slice_get (ns ++ n ∷ []) i ≡ Some n
get_last [] n zero e = refl
get_last [] n (suc i) e = absurd (let f : ⊥ = omega (arith, e) in f)
get_last (m ∷ ns) n zero e = absurd (let f : ⊥ = omega (arith, e) in f)
get_last (m ∷ ns) n (suc i) e = get_last ns n i (let f : i ≡ length ns = omega (arith, e) in f)

any_there : (f : ℕ → Bool) (ns : List ℕ) (n : ℕ) → has ns n ≡ true → f n ≡ true → list_any f ns ≡ true
any_there f [] n h e = absurd (no_way h)
any_there f (m ∷ ns) n h e = go (m == n) refl (any_there f ns n)
  where
    or_left : (a b : Bool) → a ≡ true → (a || b) ≡ true
    or_left true b q = refl
    or_left false b q = absurd (no_way q)

    or_right : (a b : Bool) → b ≡ true → (a || b) ≡ true
    or_right true b q = refl
    or_right false b q = q

    go : (b : Bool) → (m == n) ≡ b → (has ns n ≡ true → f n ≡ true → list_any f ns ≡ true) → list_any f (m ∷ ns) ≡ true
    go true q rec = let s : m ≡ n = grind (arith, nat_tests) in or_left (f m) (list_any f ns) (subst (λ (k : ℕ). f k ≡ true) (sym s) e)
    go false q rec = or_right (f m) (list_any f ns) (rec (rw q at h) e)

-- ---- due

abbrev due_by : Rules → List Entry → Option ℕ → Bool
due_by r t o = option_map_or (λ a. nat_le a (length t) || is_stuck r t) o false

due_by_same : (r q : Rules) (t : List Entry) (o : Option ℕ) → SaysSame r q t → due_by r t o ≡ due_by q t o
due_by_same r q t None s = refl
due_by_same r q t (Some a) s = ap (λ b. nat_le a (length t) || b) (stuck_same r q t s)

-- before the last edit is judged, it is the old edits that are due
same_due : (r q : Rules) (at : ℕ) (t : List Entry) → SaysSame r q t → q.edits ≡ r.edits ++ at ∷ [] → judged t < length r.edits → is_due q t ≡ is_due r t
same_due r q at t s e l = ap (due_by q t) (ap (λ es. slice_get es (judged t)) e ∙ get_front r.edits (at ∷ []) (judged t) l) ∙ sym (due_by_same r q t (slice_get r.edits (judged t)) s)

none_due : (r : Rules) (t : List Entry) → length r.edits ≤ judged t → is_due r t ≡ false
none_due r t l = ap (due_by r t) (slice_get_past r.edits (judged t) l)

not_due_yet : (r q : Rules) (at : ℕ) (t : List Entry) → SaysSame r q t → q.edits ≡ r.edits ++ at ∷ [] → judged t ≡ length r.edits → length t < at → is_stuck r t ≡ false → is_due q t ≡ false
not_due_yet r q at t s e j l stuck =
    let le : nat_le at (length t) ≡ false = grind (arith, nat_tests) in
    ap (due_by q t) (ap (λ es. slice_get es (judged t)) e ∙ get_last r.edits at (judged t) j) ∙ rw (le, sym (stuck_same r q t s) ∙ stuck) refl

not_stuck : (r : Rules) (t : List Entry) (n : ℕ) → has (next_of r t) n ≡ true → is_enabled r t n ≡ true → is_stuck r t ≡ false
not_stuck r t n h e = rw (any_there (is_enabled r t) (next_of r t) n h e) refl

due_means : (r : Rules) (t : List Entry) → is_due r t ≡ true → judged t < length r.edits
due_means r t e = go (slice_get r.edits (judged t)) refl
  where
    go : (o : Option ℕ) → slice_get r.edits (judged t) ≡ o → judged t < length r.edits
    go None g = absurd (no_way (rw g at e))
    go (Some a) g = slice_get_within r.edits (judged t) a g

-- ---- entries that fit

fits_cases : (r : Rules) (t : List Entry) (x : Entry) → Fits r t x → ((i : ℕ) × (w : Verdict) × (x ≡ Edit i w) × FitsEdit r t i w) ⊎ ((n : ℕ) × (number_of x ≡ Some n) × FitsNode r t x)
fits_cases r t (Dispatch n v) f = inr (n, refl, f)
fits_cases r t (Block n k b) f = inr (n, refl, f)
fits_cases r t (End n) f = inr (n, refl, f)
fits_cases r t (Pick n k) f = inr (n, refl, f)
fits_cases r t (Test n b) f = inr (n, refl, f)
fits_cases r t (Assign n v) f = inr (n, refl, f)
fits_cases r t (Set n) f = inr (n, refl, f)
fits_cases r t (Pass n) f = inr (n, refl, f)
fits_cases r t (Note n) f = inr (n, refl, f)
fits_cases r t (Edit i w) f = inl (i, w, refl, f)

fits_node : (r : Rules) (t : List Entry) (x : Entry) (n : ℕ) → number_of x ≡ Some n → FitsNode r t x → Fits r t x
fits_node r t (Dispatch m v) n e f = f
fits_node r t (Block m k b) n e f = f
fits_node r t (End m) n e f = f
fits_node r t (Pick m k) n e f = f
fits_node r t (Test m b) n e f = f
fits_node r t (Assign m v) n e f = f
fits_node r t (Set m) n e f = f
fits_node r t (Pass m) n e f = f
fits_node r t (Note m) n e f = f
fits_node r t (Edit i w) n e f = absurd (cc)

at_number : (P : ℕ → Type 0) (o : Option ℕ) (n : ℕ) → o ≡ Some n → IsSomeAnd o P → P n
at_number P o n e h = rw e at h

in_number : (ns : List ℕ) (x : Entry) (n : ℕ) → number_of x ≡ Some n → is_of ns x ≡ true → has ns n ≡ true
in_number ns x n e h = rw e at h

-- ---- an edit is put at the end

pub legal_with_more : Offered → Front → (r q : Rules) (at : ℕ) (t : List Entry) → IsSound r → HasOneMore r q at t → Legal r t → judged t ≡ length r.edits → at ≡ length t → Legal q t
legal_with_more offered front r q at t sound more legal all here before x after e = go (fits_cases r before x (legal before x after e))
  where
    same : SaysSame r q before
    same = more.same before (x ∷ after) e

    counts : judged before + judged (x ∷ after) ≡ length r.edits
    counts = sym (judged_append before (x ∷ after)) ∙ (ap judged (sym e) ∙ all)

    long : length before < at
    long = let l : length (before ++ x ∷ after) ≡ length before + length (x ∷ after) = length-append before (x ∷ after) in let m : length t ≡ length (before ++ x ∷ after) = ap length e in omega (arith, l, m, here)

    of_node : (n : ℕ) → number_of x ≡ Some n → FitsNode r before x → Fits q before x
    of_node n z f = fits_node q before x n z (node_there r q before x same (not_due (nat_lt (judged before) (length r.edits)) refl) f)
      where
        not_due : (b : Bool) → nat_lt (judged before) (length r.edits) ≡ b → is_due q before ≡ false
        not_due true g = let l : judged before < length r.edits = grind (arith, nat_tests) in same_due r q at before same more.edits l ∙ f.not_due
        not_due false g =
            let l : length r.edits ≤ judged before = grind (arith, nat_tests) in
            let m : judged before ≡ length r.edits = omega (arith, l, counts) in
            let w = offered (r.tree before) (plain before) x n (sound.distinct before (front r before (x ∷ after) (subst (Legal r) e legal))) f.goes_on z in
            not_due_yet r q at before same more.edits m long (not_stuck r before n (in_number (next_of r before) x n z w.0) (at_number (λ k. is_enabled r before k ≡ true) (number_of x) n z f.enabled))

    go : ((i : ℕ) × (w : Verdict) × (x ≡ Edit i w) × FitsEdit r before i w) ⊎ ((n : ℕ) × (number_of x ≡ Some n) × FitsNode r before x) → Fits q before x
    go (inl (i, w, z, f)) =
        let l = due_means r before f.due in
        subst (λ (y : Entry). Fits q before y) (sym z)
        record { due = same_due r q at before same more.edits l ∙ f.due; next_one = f.next_one; verdict = f.verdict ∙ more.verdicts before (x ∷ after) i e (subst (λ (k : ℕ). k < length r.edits) (sym f.next_one) l) }
    go (inr (n, z, f)) = of_node n z f

-- ---- an edit that isn't judged is taken off the end

pub legal_with_less : (r q : Rules) (at : ℕ) (t : List Entry) → HasOneMore r q at t → Legal q t → judged t ≤ length r.edits → Legal r t
legal_with_less r q at t more legal few before x after e = go (fits_cases q before x (legal before x after e))
  where
    same : SaysSame r q before
    same = more.same before (x ∷ after) e

    counts : judged before + judged (x ∷ after) ≡ judged t
    counts = sym (judged_append before (x ∷ after)) ∙ ap judged (sym e)

    go : ((i : ℕ) × (w : Verdict) × (x ≡ Edit i w) × FitsEdit q before i w) ⊎ ((n : ℕ) × (number_of x ≡ Some n) × FitsNode q before x) → Fits r before x
    go (inl (i, w, z, f)) =
        let one : judged (x ∷ after) ≡ judged after + 1 = ap (λ (y : Entry). judged (y ∷ after)) z in
        let l : judged before < length r.edits = omega (arith, counts, few, one) in
        subst (λ (y : Entry). Fits r before y) (sym z)
        record { due = sym (same_due r q at before same more.edits l) ∙ f.due; next_one = f.next_one; verdict = f.verdict ∙ sym (more.verdicts before (x ∷ after) i e (subst (λ (k : ℕ). k < length r.edits) (sym f.next_one) l)) }
    go (inr (n, z, f)) = fits_node r before x n z (node_there q r before x (turned r q before same) (not_due (nat_lt (judged before) (length r.edits)) refl) f)
      where
        not_due : (b : Bool) → nat_lt (judged before) (length r.edits) ≡ b → is_due r before ≡ false
        not_due true g = let l : judged before < length r.edits = grind (arith, nat_tests) in sym (same_due r q at before same more.edits l) ∙ f.not_due
        not_due false g = none_due r before (let l : length r.edits ≤ judged before = grind (arith, nat_tests) in l)
