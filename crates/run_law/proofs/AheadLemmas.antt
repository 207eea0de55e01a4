-- How the steps ahead change with an entry.
use Rattle.std.specs.Prelude.{◌≡◌, ℕ, zero, suc, Bool, true, false, ◌==◌, ◌||◌, not, List, [], ◌∷◌, ◌++◌, take, drop, Some, None}
use Rattle.std.specs.List.{filter}
use Rattle.std.proofs.Common.{refl, sym, ap, ◌∙◌, arith}
use Rattle.std.proofs.lemmas.Bool.Decides.{nat_tests}
use Rattle.std.proofs.lemmas.List.{append-nil}
use Rattle.std.proofs.lemmas.List.Elements.{filter_map-append}
use Rattle.exec_tree.specs.Exec.{has, AreDistinct}
use Rattle.trace_law.specs.State.{sent, dispatched}
use Rattle.run_log.specs.declared.entry.Entry.{Entry}
use Rattle.run_law.specs.Ahead.{unsent, without, window_without}

no_way : false ≡ true → ⊥
no_way e = cc

take_more : (k : ℕ) (ns : List ℕ) → take (suc k) ns ≡ take k ns ++ take 1 (drop k ns)
take_more zero [] = refl
take_more zero (n ∷ ns) = refl
take_more (suc k) [] = refl
take_more (suc k) (n ∷ ns) = ap (λ (ms : List ℕ). n ∷ ms) (take_more k ns)

absent : (n : ℕ) (ns : List ℕ) → has ns n ≡ false → without n ns ≡ ns
absent n [] h = refl
absent n (m ∷ ns) h = go (m == n) refl (absent n ns)
  where
    go : (b : Bool) → (m == n) ≡ b → (has ns n ≡ false → without n ns ≡ ns) → without n (m ∷ ns) ≡ m ∷ ns
    go true e rec = absurd (no_way (let f : (true || has ns n) ≡ false = rw e at h in sym f))
    go false e rec = let f : (n == m) ≡ false = grind (arith, nat_tests) in rw f (ap (λ (ms : List ℕ). m ∷ ms) (rec (rw e at h)))

absent_take : (k n : ℕ) (ns : List ℕ) → has ns n ≡ false → has (take k ns) n ≡ false
absent_take zero n ns h = refl
absent_take (suc k) n [] h = refl
absent_take (suc k) n (m ∷ ns) h = go (m == n) refl (absent_take k n ns)
  where
    go : (b : Bool) → (m == n) ≡ b → (has ns n ≡ false → has (take k ns) n ≡ false) → has (take (suc k) (m ∷ ns)) n ≡ false
    go true e rec = absurd (no_way (let f : (true || has ns n) ≡ false = rw e at h in sym f))
    go false e rec = rw e (rec (rw e at h))

pub window_moves : (k n : ℕ) (ns : List ℕ) → AreDistinct ns → take k (without n ns) ≡ window_without k n ns
window_moves zero n ns d = refl
window_moves (suc k) n [] d = refl
window_moves (suc k) n (m ∷ ns) d = go (n == m) refl (window_moves k n ns d.1)
  where
    go : (b : Bool) → (n == m) ≡ b → take k (without n ns) ≡ window_without k n ns → take (suc k) (without n (m ∷ ns)) ≡ window_without (suc k) n (m ∷ ns)
    go true e rec =
        let s : n ≡ m = grind (arith, nat_tests) in
        let f : (m == n) ≡ true = grind (arith, nat_tests) in
        let out : has ns n ≡ false = rw s d.0 in
        rw (e, f, absent n ns out, absent n (take k ns) (absent_take k n ns out)) (take_more k ns)
    go false e rec =
        let f : (m == n) ≡ false = grind (arith, nat_tests) in
        rw (e, f) (ap (λ (ms : List ℕ). m ∷ ms) rec)

-- ---- what is dispatched

same_unsent : (s t : List ℕ) (n : ℕ) (ns : List ℕ) → ((m : ℕ) → has t m ≡ (has s m || (n == m))) → filter (λ m. not (has t m)) ns ≡ without n (filter (λ m. not (has s m)) ns)
same_unsent s t n [] h = refl
same_unsent s t n (m ∷ ns) h = go (has s m) (n == m) refl refl (same_unsent s t n ns h)
  where
    go : (a b : Bool) → has s m ≡ a → (n == m) ≡ b → filter (λ m. not (has t m)) ns ≡ without n (filter (λ m. not (has s m)) ns) → filter (λ m. not (has t m)) (m ∷ ns) ≡ without n (filter (λ m. not (has s m)) (m ∷ ns))
    go true b e f rec = rw (h m, e) rec
    go false true e f rec = rw (h m, e, f) rec
    go false false e f rec = rw (h m, e, f) (ap (λ (ms : List ℕ). m ∷ ms) rec)

has_append : (ms ns : List ℕ) (n : ℕ) → has (ms ++ ns) n ≡ (has ms n || has ns n)
has_append [] ns n = refl
has_append (m ∷ ms) ns n = rw (has_append ms ns n) (or_assoc (m == n) (has ms n) (has ns n))
  where
    or_assoc : (a b c : Bool) → (a || (b || c)) ≡ ((a || b) || c)
    or_assoc false b c = refl
    or_assoc true b c = refl

-- a dispatch takes its step from those that were never dispatched
pub unsent_dispatch : (t : List Entry) (x : Entry) (n : ℕ) (ns : List ℕ) → dispatched x ≡ Some n → unsent (t ++ x ∷ []) ns ≡ without n (unsent t ns)
unsent_dispatch t x n ns e =
    same_unsent (sent t) (sent (t ++ x ∷ [])) n ns (λ m. ap (λ (ms : List ℕ). has ms m) more ∙ (has_append (sent t) (n ∷ []) m ∙ ap (λ (b : Bool). has (sent t) m || b) (or_false (n == m))))
  where
    more : sent (t ++ x ∷ []) ≡ sent t ++ n ∷ []
    more = filter_map-append dispatched t (x ∷ []) ∙ rw e refl

    or_false : (b : Bool) → (b || false) ≡ b
    or_false true = refl
    or_false false = refl

-- any other entry leaves them
pub unsent_other : (t : List Entry) (x : Entry) (ns : List ℕ) → dispatched x ≡ None → unsent (t ++ x ∷ []) ns ≡ unsent t ns
unsent_other t x ns e = ap (λ (s : List ℕ). filter (λ m. not (has s m)) ns) (filter_map-append dispatched t (x ∷ []) ∙ rw e (append-nil (sent t)))
