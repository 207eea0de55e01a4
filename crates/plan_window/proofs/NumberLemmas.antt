-- Numbers in lists, as a test and as a fact.
use Rattle.std.specs.Prelude.{◌≡◌, ◌↔◌, ◌⊎◌, ℕ, zero, suc, Bool, true, false, ◌==◌, ◌||◌, List, [], ◌∷◌, ◌++◌, drop, filter, nat_eq, IsTrue, Contains}
use Rattle.std.specs.List.{list_any}
use Rattle.std.proofs.Common.{refl, sym, ap, ◌∙◌, subst, inl, inr, arith}
use Rattle.std.proofs.lemmas.Bool.{cases_Bool}
use Rattle.std.proofs.lemmas.Bool.Decides.{nat_tests}
use Rattle.std.proofs.lemmas.Cmp.{nat_eq_equiv}
use Rattle.std.proofs.lemmas.Map.Views.{Contains-from_any, list_any-from_Contains}
use Rattle.exec_tree.specs.Exec.{has, AreDistinct}
use Rattle.run_law.specs.Ahead.{without}
use Rattle.plan_window.specs.Window.{unsent_by}

pub no_way : false ≡ true → ⊥
no_way e = cc

same_number : (n m : ℕ) → nat_eq n m ≡ true → n ≡ m
same_number n m e = grind (arith, nat_tests)

has_among : (ns : List ℕ) (n : ℕ) → has ns n ≡ list_any (nat_eq n) ns
has_among [] n = refl
has_among (m ∷ ns) n = ap (λ (b : Bool). b || has ns n) (turned m n) ∙ ap (λ (b : Bool). nat_eq n m || b) (has_among ns n)
  where
    turned : (a b : ℕ) → (a == b) ≡ nat_eq b a
    turned a b = grind (arith, nat_tests)

pub has_contains : (ns : List ℕ) (n : ℕ) → has ns n ≡ true → Contains ns n
has_contains ns n h = Contains-from_any same_number n ns (sym (has_among ns n) ∙ h)

pub contains_has : (ns : List ℕ) (n : ℕ) → Contains ns n → has ns n ≡ true
contains_has ns n h = has_among ns n ∙ list_any-from_Contains nat_eq_equiv n ns h

pub same_tests : (x y : Bool) → (x ≡ true → y ≡ true) → (y ≡ true → x ≡ true) → x ≡ y
same_tests true y f g = sym (f refl)
same_tests false true f g = g refl
same_tests false false f g = refl

-- a test that tells members is the test of them
pub decides : (b : Bool) (ns : List ℕ) (n : ℕ) → (IsTrue b ↔ Contains ns n) → b ≡ has ns n
decides b ns n told = same_tests b (has ns n) (λ e. contains_has ns n (told.0 e)) (λ i. told.1 (has_contains ns n i))

pub has_head : (m n : ℕ) (ns : List ℕ) → m ≡ n → has (m ∷ ns) n ≡ true
has_head m n ns e = grind (arith, nat_tests)

pub has_later : (m n : ℕ) (ns : List ℕ) → has ns n ≡ true → has (m ∷ ns) n ≡ true
has_later m n ns h = go (m == n)
  where
    go : (b : Bool) → (b || has ns n) ≡ true
    go true = refl
    go false = h

pub has_split : (m n : ℕ) (ns : List ℕ) → has (m ∷ ns) n ≡ true → (m ≡ n) ⊎ (has ns n ≡ true)
has_split m n ns h = go (m == n) refl h
  where
    go : (b : Bool) → (m == n) ≡ b → (b || has ns n) ≡ true → (m ≡ n) ⊎ (has ns n ≡ true)
    go true e i = inl (grind (arith, nat_tests))
    go false e i = inr i

-- a list without some of its front, or with those alone that pass a test, has no others
pub has_drop : (k : ℕ) (ns : List ℕ) (n : ℕ) → has (drop k ns) n ≡ true → has ns n ≡ true
has_drop zero ns n h = h
has_drop (suc k) [] n h = h
has_drop (suc k) (m ∷ ns) n h = has_later m n ns (has_drop k ns n h)

pub has_filter : (p : ℕ → Bool) (ns : List ℕ) (n : ℕ) → has (filter p ns) n ≡ true → has ns n ≡ true
has_filter p [] n h = h
has_filter p (m ∷ ns) n h = go (p m) refl h (has_filter p ns n)
  where
    go : (b : Bool) → p m ≡ b → has (filter p (m ∷ ns)) n ≡ true → (has (filter p ns) n ≡ true → has ns n ≡ true) → has (m ∷ ns) n ≡ true
    go true e i rec = elim (has_split m n (filter p ns) (rw e at i)) [ inl s ↦ has_head m n ns s | inr j ↦ has_later m n ns (rec j) ]
    go false e i rec = has_later m n ns (rec (rw e at i))

absent_filter : (p : ℕ → Bool) (ns : List ℕ) (n : ℕ) → has ns n ≡ false → has (filter p ns) n ≡ false
absent_filter p ns n h = elim (cases_Bool (has (filter p ns) n)) [ inl e ↦ absurd (no_way (sym h ∙ has_filter p ns n e)) | inr e ↦ e ]

pub distinct_filter : (p : ℕ → Bool) (ns : List ℕ) → AreDistinct ns → AreDistinct (filter p ns)
distinct_filter p [] d = d
distinct_filter p (m ∷ ns) d = go (p m) refl (distinct_filter p ns d.1)
  where
    go : (b : Bool) → p m ≡ b → AreDistinct (filter p ns) → AreDistinct (filter p (m ∷ ns))
    go true e rec = rw e (absent_filter p ns m d.0, rec)
    go false e rec = rw e rec

-- what stands in the front of a list without repeats doesn't stand behind it
pub has_once : (ms ns : List ℕ) (n : ℕ) → AreDistinct (ms ++ ns) → has ms n ≡ true → has ns n ≡ false
has_once [] ns n d h = absurd (no_way h)
has_once (m ∷ ms) ns n d h = elim (has_split m n ms h) [ inl e ↦ behind ms (subst (λ (k : ℕ). has (ms ++ ns) k ≡ false) e d.0) | inr i ↦ has_once ms ns n d.1 i ]
  where
    behind : (ks : List ℕ) → has (ks ++ ns) n ≡ false → has ns n ≡ false
    behind [] f = f
    behind (k ∷ ks) f = elim (cases_Bool (has (ks ++ ns) n)) [ inl e ↦ absurd (no_way (sym f ∙ has_later k n (ks ++ ns) e)) | inr e ↦ behind ks e ]

pub has_front : (ms ns : List ℕ) (n : ℕ) → has ms n ≡ true → has (ms ++ ns) n ≡ true
has_front [] ns n h = absurd (no_way h)
has_front (m ∷ ms) ns n h = elim (has_split m n ms h) [ inl e ↦ has_head m n (ms ++ ns) e | inr i ↦ has_later m n (ms ++ ns) (has_front ms ns n i) ]

-- with one more dispatched, those that aren't are the others
pub unsent_without : (old new : List ℕ) (n : ℕ) (ns : List ℕ) → ((m : ℕ) → has new m ≡ (has old m || (n == m))) → unsent_by new ns ≡ without n (unsent_by old ns)
unsent_without old new n [] h = refl
unsent_without old new n (m ∷ ns) h = go (has old m) (n == m) refl refl (unsent_without old new n ns h)
  where
    go : (a b : Bool) → has old m ≡ a → (n == m) ≡ b → unsent_by new ns ≡ without n (unsent_by old ns) → unsent_by new (m ∷ ns) ≡ without n (unsent_by old (m ∷ ns))
    go true b e f rec = rw (h m, e) rec
    go false true e f rec = rw (h m, e, f) rec
    go false false e f rec = rw (h m, e, f) (ap (λ (ms : List ℕ). m ∷ ms) rec)

-- the set with one more, as a test
pub has_added : (old new : List ℕ) (n : ℕ) → ((m : ℕ) → Contains new m ↔ (m ≡ n) ⊎ Contains old m) → (m : ℕ) → has new m ≡ (has old m || (n == m))
has_added old new n adds m = same_tests (has new m) (has old m || (n == m)) forth back
  where
    either : (a b : Bool) → (a ≡ true) ⊎ (b ≡ true) → (a || b) ≡ true
    either true b h = refl
    either false b (inl e) = absurd (no_way e)
    either false b (inr e) = e

    apart : (a b : Bool) → (a || b) ≡ true → (a ≡ true) ⊎ (b ≡ true)
    apart true b h = inl refl
    apart false b h = inr h

    forth : has new m ≡ true → (has old m || (n == m)) ≡ true
    forth h = either (has old m) (n == m) (elim ((adds m).0 (has_contains new m h)) [ inl e ↦ inr (grind (arith, nat_tests)) | inr i ↦ inl (contains_has old m i) ])

    back : (has old m || (n == m)) ≡ true → has new m ≡ true
    back h = contains_has new m ((adds m).1 (elim (apart (has old m) (n == m) h) [ inl e ↦ inr (has_contains old m e) | inr e ↦ inl (grind (arith, nat_tests)) ]))

-- the first of these numbers
pub unsent_first : (sent : List ℕ) (n : ℕ) (ns : List ℕ) → has sent n ≡ false → unsent_by sent (n ∷ ns) ≡ n ∷ unsent_by sent ns
unsent_first sent n ns h = rw h refl
