-- Of steps that rise the first with a fault is the least, and they are no more than any others that hold them.
use Rattle.std.specs.Prelude.{◌≡◌, ℕ, suc, ◌+◌, ◌<◌, ◌≤◌, Bool, true, false, ◌==◌, ◌||◌, not, nat_lt, if◌then◌else◌, List, [], ◌∷◌, length, filter, Option, Some, None, option_map, ◌⊎◌}
use Rattle.std.specs.Option.{option_or}
use Rattle.std.specs.List.Sorted.{IsStrictlyIncreasing}
use Rattle.std.proofs.Common.{refl, sym, ap, ◌∙◌, subst, arith, get_or, inl, inr}
use Rattle.std.proofs.lemmas.Bool.Decides.{nat_tests}
use Rattle.project_store.specs.Build.{lesser}
use Rattle.exec_tree.specs.Exec.{has}
use Rattle.edit_rules.specs.Judge.{least_step}
use Rattle.edit_rules.specs.Judging.{first_step}
use Rattle.edit_rules.proofs.JudgeLemmas.{no_way, kept_in}

-- ---- numbers that rise

-- they rise, from this one or more
abbrev pub Rises : ℕ → List ℕ → Type 0
Rises low [] = Unit {0}
Rises low (n ∷ ns) = (low ≤ n) × Rises (n + 1) ns

abbrev Starts : ℕ → List ℕ → Type 0
Starts low [] = Unit {0}
Starts low (n ∷ ns) = low ≤ n

tail_rises : (n : ℕ) (ns : List ℕ) → IsStrictlyIncreasing (n ∷ ns) → IsStrictlyIncreasing ns
tail_rises n ns up = λ k l. let e : suc k + 1 ≡ suc (k + 1) = omega arith in subst (λ j. get_or ns k 0 < get_or (n ∷ ns) j 0) e (up (suc k) (omega arith))

next_starts : (n : ℕ) (ns : List ℕ) → IsStrictlyIncreasing (n ∷ ns) → Starts (n + 1) ns
next_starts n [] up = tt
next_starts n (m ∷ ms) up = let l : n < m = up 0 (omega arith) in omega arith

rises_from : (low : ℕ) (ns : List ℕ) → Starts low ns → IsStrictlyIncreasing ns → Rises low ns
rises_from low [] s up = tt
rises_from low (n ∷ ns) s up = (s, rises_from (n + 1) ns (next_starts n ns up) (tail_rises n ns up))

pub rises : (ns : List ℕ) → IsStrictlyIncreasing ns → Rises 0 ns
rises ns up = rises_from 0 ns (from_zero ns) up
  where
    from_zero : (ms : List ℕ) → Starts 0 ms
    from_zero [] = tt
    from_zero (m ∷ ms) = omega arith

-- ---- members

same_number : (m n : ℕ) → (m == n) ≡ true → m ≡ n
same_number m n e = grind (arith, nat_tests)

-- a member is the first or one of the others
pub split : (n m : ℕ) (ns : List ℕ) → has (n ∷ ns) m ≡ true → (n ≡ m) ⊎ (has ns m ≡ true)
split n m ns h = go (n == m) refl h
  where
    go : (b : Bool) → (n == m) ≡ b → (b || has ns m) ≡ true → (n ≡ m) ⊎ (has ns m ≡ true)
    go true e i = inl (same_number n m e)
    go false e i = inr i

pub here : (n : ℕ) (ns : List ℕ) → has (n ∷ ns) n ≡ true
here n ns = let own : (n == n) ≡ true = grind (arith, nat_tests) in rw own refl

pub later : (n m : ℕ) (ns : List ℕ) → has ns m ≡ true → has (n ∷ ns) m ≡ true
later n m ns i = by (n == m)
  where
    by : (b : Bool) → (b || has ns m) ≡ true
    by true = refl
    by false = i

above : (low : ℕ) (ns : List ℕ) (m : ℕ) → Rises low ns → has ns m ≡ true → low ≤ m
above low [] m r h = absurd (no_way h)
above low (n ∷ ns) m r h = elim (split n m ns h) [ inl e ↦ (let l = r.0 in omega arith) | inr i ↦ (let l = r.0 in let g = above (n + 1) ns m r.1 i in omega arith) ]

-- ---- the least step with a fault

-- this is the least of the steps with a fault, with that fault, or none has one
abbrev IsLeastIn : (ℕ → Option ℕ) → List ℕ → Option (ℕ × ℕ) → Type 0
IsLeastIn fault ns None = (m : ℕ) → has ns m ≡ true → fault m ≡ None
IsLeastIn fault ns (Some p) = (has ns p.0 ≡ true) × (fault p.0 ≡ Some p.1) × ((m : ℕ) → has ns m ≡ true → m < p.0 → fault m ≡ None)

none_before : (fault : ℕ → Option ℕ) (n : ℕ) (ns : List ℕ) (o : Option (ℕ × ℕ)) → fault n ≡ None → IsLeastIn fault ns o → IsLeastIn fault (n ∷ ns) o
none_before fault n ns None e r = λ m h. elim (split n m ns h) [ inl q ↦ subst (λ k. fault k ≡ None) q e | inr i ↦ r m i ]
none_before fault n ns (Some p) e r = (later n p.0 ns r.0, r.1, λ m h l. elim (split n m ns h) [ inl q ↦ subst (λ k. fault k ≡ None) q e | inr i ↦ r.2 m i l ])

least_more : (fault : ℕ → Option ℕ) (n : ℕ) (ns : List ℕ) (a : Option ℕ) (o : Option (ℕ × ℕ)) → fault n ≡ a → IsLeastIn fault ns o → IsLeastIn fault (n ∷ ns) (lesser (option_map {U = ℕ × ℕ} (λ k. (n, k)) a) o)
least_more fault n ns None o e r = none_before fault n ns o e r
least_more fault n ns (Some j) None e r = (here n ns, e, λ m h l. elim (split n m ns h) [ inl q ↦ absurd (omega arith) | inr i ↦ r m i ])
least_more fault n ns (Some j) (Some p) e r = by (nat_lt p.0 n) refl
  where
    by : (b : Bool) → nat_lt p.0 n ≡ b → IsLeastIn fault (n ∷ ns) (if b then Some p else Some (n, j))
    by true q =
        let l : p.0 < n = grind (arith, nat_tests) in
        (later n p.0 ns r.0, r.1, λ m h k. elim (split n m ns h) [ inl s ↦ absurd (omega arith) | inr i ↦ r.2 m i k ])
    by false q =
        let l : n ≤ p.0 = grind (arith, nat_tests) in
        (here n ns, e, λ m h k. elim (split n m ns h) [ inl s ↦ absurd (omega arith) | inr i ↦ r.2 m i (omega arith) ])

least_is : (fault : ℕ → Option ℕ) (ns : List ℕ) → IsLeastIn fault ns (least_step fault ns)
least_is fault [] = λ m h. absurd (no_way h)
least_is fault (n ∷ ns) = least_more fault n ns (fault n) (least_step fault ns) refl (least_is fault ns)

first_more : (fault : ℕ → Option ℕ) (n : ℕ) (ns : List ℕ) (a : Option ℕ) (o : Option (ℕ × ℕ)) → Rises (n + 1) ns → fault n ≡ a → IsLeastIn fault ns o → IsLeastIn fault (n ∷ ns) (option_or (option_map {U = ℕ × ℕ} (λ k. (n, k)) a) o)
first_more fault n ns None o up e r = none_before fault n ns o e r
first_more fault n ns (Some j) o up e r = (here n ns, e, λ m h l. elim (split n m ns h) [ inl q ↦ absurd (omega arith) | inr i ↦ absurd (let g = above (n + 1) ns m up i in omega arith) ])

first_is : (fault : ℕ → Option ℕ) (low : ℕ) (ns : List ℕ) → Rises low ns → IsLeastIn fault ns (first_step fault ns)
first_is fault low [] up = λ m h. absurd (no_way h)
first_is fault low (n ∷ ns) up = first_more fault n ns (fault n) (first_step fault ns) up.1 refl (first_is fault (n + 1) ns up.1)

abbrev pub AreSame : List ℕ → List ℕ → Type 0
AreSame ns ms = ((m : ℕ) → has ns m ≡ true → has ms m ≡ true) × ((m : ℕ) → has ms m ≡ true → has ns m ≡ true)

of_same : (fault : ℕ → Option ℕ) (ns ms : List ℕ) (o : Option (ℕ × ℕ)) → AreSame ns ms → IsLeastIn fault ns o → IsLeastIn fault ms o
of_same fault ns ms None same r = λ m h. r m (same.1 m h)
of_same fault ns ms (Some p) same r = (same.0 p.0 r.0, r.1, λ m h l. r.2 m (same.1 m h) l)

none_some : (k : ℕ) (o : Option ℕ) → o ≡ None → o ≡ Some k → ⊥
none_some k o e f = let g : None ≡ Some k = sym e ∙ f in cc

same_pair : (a b c d : ℕ) → a ≡ c → b ≡ d → (let o : ℕ × ℕ = (a, b) in let p : ℕ × ℕ = (c, d) in o ≡ p)
same_pair a b c d e f = ap (λ k. let o : ℕ × ℕ = (k, b) in o) e ∙ ap (λ k. let o : ℕ × ℕ = (c, k) in o) f

pair_same : (o p : ℕ × ℕ) → o.0 ≡ p.0 → o.1 ≡ p.1 → Some o ≡ Some p
pair_same o p e f = ap Some (same_pair o.0 o.1 p.0 p.1 e f)

some_same : (j k : ℕ) → Some j ≡ Some k → j ≡ k
some_same j k e = cc

only_least : (fault : ℕ → Option ℕ) (ns : List ℕ) (o p : Option (ℕ × ℕ)) → IsLeastIn fault ns o → IsLeastIn fault ns p → o ≡ p
only_least fault ns None None r s = refl
only_least fault ns None (Some p) r s = absurd (none_some p.1 (fault p.0) (r p.0 s.0) s.1)
only_least fault ns (Some o) None r s = absurd (none_some o.1 (fault o.0) (s o.0 r.0) r.1)
only_least fault ns (Some o) (Some p) r s = by (nat_lt o.0 p.0) (nat_lt p.0 o.0) refl refl
  where
    by : (a b : Bool) → nat_lt o.0 p.0 ≡ a → nat_lt p.0 o.0 ≡ b → Some o ≡ Some p
    by true b e f = absurd (none_some o.1 (fault o.0) (s.2 o.0 r.0 (grind (arith, nat_tests))) r.1)
    by false true e f = absurd (none_some p.1 (fault p.0) (r.2 p.0 s.0 (grind (arith, nat_tests))) s.1)
    by false false e f =
        let q : o.0 ≡ p.0 = grind (arith, nat_tests) in
        pair_same o p q (some_same o.1 p.1 (sym r.1 ∙ subst (λ k. fault k ≡ Some p.1) (sym q) s.1))

-- of steps that rise, the first with a fault is the least of any list of the same steps
pub first_is_least : (fault : ℕ → Option ℕ) (ns ms : List ℕ) → IsStrictlyIncreasing ns → AreSame ns ms → first_step fault ns ≡ least_step fault ms
first_is_least fault ns ms up same =
    only_least fault ms (first_step fault ns) (least_step fault ms) (of_same fault ns ms (first_step fault ns) same (first_is fault 0 ns (rises ns up))) (least_is fault ms)

-- ---- how many they are

abbrev without : ℕ → List ℕ → List ℕ
without n ms = filter (λ m. not (m == n)) ms

no_longer : (test : ℕ → Bool) (ms : List ℕ) → length (filter test ms) ≤ length ms
no_longer test [] = omega arith
no_longer test (m ∷ ms) = by (test m) refl (no_longer test ms)
  where
    by : (b : Bool) → test m ≡ b → length (filter test ms) ≤ length ms → length (filter test (m ∷ ms)) ≤ length (m ∷ ms)
    by true e l = rw e (omega arith)
    by false e l = rw e (omega arith)

one_less : (n : ℕ) (ms : List ℕ) → has ms n ≡ true → length (without n ms) < length ms
one_less n [] h = absurd (no_way h)
one_less n (m ∷ ms) h = by (m == n) refl h (one_less n ms)
  where
    by : (b : Bool) → (m == n) ≡ b → (b || has ms n) ≡ true → (has ms n ≡ true → length (without n ms) < length ms) → length (without n (m ∷ ms)) < length (m ∷ ms)
    by true e i rec = let l = no_longer (λ k. not (k == n)) ms in rw e (omega arith)
    by false e i rec = let l = rec i in rw e (omega arith)

stays : (n : ℕ) (ms : List ℕ) (m : ℕ) → n < m → has ms m ≡ true → has (without n ms) m ≡ true
stays n ms m l h = kept_in (λ k. not (k == n)) ms m h (let e : (m == n) ≡ false = grind (arith, nat_tests) in rw e refl)

-- steps that rise are no more than those of a list that holds them
few_from : (low : ℕ) (ns ms : List ℕ) → Rises low ns → ((m : ℕ) → has ns m ≡ true → has ms m ≡ true) → length ns ≤ length ms
few_from low [] ms up h = omega arith
few_from low (n ∷ ns) ms up h =
    let rest = few_from (n + 1) ns (without n ms) up.1 (λ m i. stays n ms m (let g = above (n + 1) ns m up.1 i in omega arith) (h m (later n m ns i))) in
    let less = one_less n ms (h n (here n ns)) in
    omega arith

pub few : (ns ms : List ℕ) → IsStrictlyIncreasing ns → AreSame ns ms → length ns ≤ length ms
few ns ms up same = few_from 0 ns ms (rises ns up) same.0
