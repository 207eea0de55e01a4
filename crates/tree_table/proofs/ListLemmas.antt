-- Numbers in lists, and items that are written.
use Rattle.std.specs.Prelude.{◌≡◌, ◌<◌, ◌+◌, ◌==◌, ◌||◌, ℕ, zero, suc, Bool, true, false, List, [], ◌∷◌, ◌++◌, map, length, drop, slice_get, slice_set, Some}
use Rattle.std.proofs.Common.{refl, sym, ◌∙◌, ap, subst, arith, get_or}
use Rattle.std.proofs.lemmas.Bool.Decides.{nat_tests}
use Rattle.exec_tree.specs.Exec.{has, AreDistinct}

pub same_number : (m q : ℕ) → (m == q) ≡ true → m ≡ q
same_number m q h = grind (arith, nat_tests)

pub clash : (b : Bool) → b ≡ true → b ≡ false → ⊥
clash b h g = let w : true ≡ false = sym h ∙ g in cc

or_true : (b : Bool) → (b || true) ≡ true
or_true true = refl
or_true false = refl

or_assoc : (a b c : Bool) → (a || (b || c)) ≡ ((a || b) || c)
or_assoc true b c = refl
or_assoc false b c = refl

pub has_append : (ms ns : List ℕ) (q : ℕ) → has (ms ++ ns) q ≡ (has ms q || has ns q)
has_append [] ns q = refl
has_append (m ∷ ms) ns q = rw (has_append ms ns q) (or_assoc (m == q) (has ms q) (has ns q))

pub has_left : (ms ns : List ℕ) (q : ℕ) → has ms q ≡ true → has (ms ++ ns) q ≡ true
has_left ms ns q h = has_append ms ns q ∙ ap (λ (b : Bool). b || has ns q) h

pub has_right : (ms ns : List ℕ) (q : ℕ) → has ns q ≡ true → has (ms ++ ns) q ≡ true
has_right [] ns q h = h
has_right (m ∷ ms) ns q h = rw (has_right ms ns q h) (or_true (m == q))

pub has_self : (n : ℕ) (ns : List ℕ) → has (n ∷ ns) n ≡ true
has_self n ns = let h : (n == n) ≡ true = grind (arith, nat_tests) in rw h refl

pub has_rest : (n : ℕ) (ns : List ℕ) (q : ℕ) → has ns q ≡ true → has (n ∷ ns) q ≡ true
has_rest n ns q h = rw h (or_true (n == q))

-- what a list has is its first or one of the rest
pub rest_has : (n : ℕ) (ns : List ℕ) (q : ℕ) → has (n ∷ ns) q ≡ true → (n == q) ≡ false → has ns q ≡ true
rest_has n ns q h e = ap (λ (b : Bool). b || has ns q) (sym e) ∙ h

pub right_has : (ms ns : List ℕ) (q : ℕ) → has (ms ++ ns) q ≡ true → has ms q ≡ false → has ns q ≡ true
right_has ms ns q h e = ap (λ (b : Bool). b || has ns q) (sym e) ∙ (sym (has_append ms ns q) ∙ h)

pub not_own : (n : ℕ) (ns : List ℕ) (q : ℕ) → has (n ∷ ns) q ≡ false → n ≡ q → ⊥
not_own n ns q h e = clash (has (n ∷ ns) q) (subst (λ (m : ℕ). has (n ∷ ns) m ≡ true) e (has_self n ns)) h

pub not_rest : (n : ℕ) (ns : List ℕ) (q : ℕ) → has (n ∷ ns) q ≡ false → has ns q ≡ false
not_rest n ns q h = go (has ns q) refl
  where
    go : (b : Bool) → has ns q ≡ b → has ns q ≡ false
    go true e = absurd (clash (has (n ∷ ns) q) (has_rest n ns q e) h)
    go false e = e

pub not_left : (ms ns : List ℕ) (q : ℕ) → has (ms ++ ns) q ≡ false → has ms q ≡ false
not_left ms ns q h = go (has ms q) refl
  where
    go : (b : Bool) → has ms q ≡ b → has ms q ≡ false
    go true e = absurd (clash (has (ms ++ ns) q) (has_left ms ns q e) h)
    go false e = e

pub not_right : (ms ns : List ℕ) (q : ℕ) → has (ms ++ ns) q ≡ false → has ns q ≡ false
not_right ms ns q h = go (has ns q) refl
  where
    go : (b : Bool) → has ns q ≡ b → has ns q ≡ false
    go true e = absurd (clash (has (ms ++ ns) q) (has_right ms ns q e) h)
    go false e = e

-- ---- numbers that stand once

pub once_left : (ms ns : List ℕ) → AreDistinct (ms ++ ns) → AreDistinct ms
once_left [] ns d = tt
once_left (m ∷ ms) ns d = (not_left ms ns m d.0, once_left ms ns d.1)

pub once_right : (ms ns : List ℕ) → AreDistinct (ms ++ ns) → AreDistinct ns
once_right [] ns d = d
once_right (m ∷ ms) ns d = once_right ms ns d.1

pub once_across : (ms ns : List ℕ) → AreDistinct (ms ++ ns) → (q : ℕ) → has ms q ≡ true → has ns q ≡ false
once_across [] ns d q i = absurd (let w : false ≡ true = i in cc)
once_across (m ∷ ms) ns d q i = go (m == q) refl (once_across ms ns d.1 q)
  where
    go : (b : Bool) → (m == q) ≡ b → (has ms q ≡ true → has ns q ≡ false) → has ns q ≡ false
    go true e f = subst (λ (n : ℕ). has ns n ≡ false) (same_number m q e) (not_right ms ns m d.0)
    go false e f = f (sym (ap (λ (b : Bool). b || has ms q) e) ∙ i)

pub once_back : (ms ns : List ℕ) → AreDistinct (ms ++ ns) → (q : ℕ) → has ns q ≡ true → has ms q ≡ false
once_back ms ns d q i = go (has ms q) refl
  where
    go : (b : Bool) → has ms q ≡ b → has ms q ≡ false
    go true e = absurd (clash (has ns q) i (once_across ms ns d q e))
    go false e = e

mapped_has : (r : ℕ → ℕ) (ns : List ℕ) (m : ℕ) → has ns m ≡ true → has (map r ns) (r m) ≡ true
mapped_has r [] m h = absurd (let w : false ≡ true = h in cc)
mapped_has r (n ∷ ns) m h = go (n == m) refl (λ i. mapped_has r ns m i)
  where
    go : (b : Bool) → (n == m) ≡ b → (has ns m ≡ true → has (map r ns) (r m) ≡ true) → has (r n ∷ map r ns) (r m) ≡ true
    go true e f = subst (λ (q : ℕ). has (r n ∷ map r ns) (r q) ≡ true) (same_number n m e) (has_self (r n) (map r ns))
    go false e f = has_rest (r n) (map r ns) (r m) (f (sym (ap (λ (b : Bool). b || has ns m) e) ∙ h))

pub distinct_back : (r : ℕ → ℕ) (ns : List ℕ) → AreDistinct (map r ns) → AreDistinct ns
distinct_back r [] d = tt
distinct_back r (n ∷ ns) d = (go (has ns n) refl, distinct_back r ns d.1)
  where
    go : (b : Bool) → has ns n ≡ b → has ns n ≡ false
    go true e = absurd (clash (has (map r ns) (r n)) (mapped_has r ns n e) d.0)
    go false e = e

-- ---- lists

pub nil_right : (l : List ℕ) → l ++ [] ≡ l
nil_right [] = refl
nil_right (x ∷ l) = ap (λ (w : List ℕ). x ∷ w) (nil_right l)

pub get_set : {A : Type 0} (l : List A) (p : ℕ) (x : A) → p < length l → slice_get (slice_set l p x) p ≡ Some x
get_set [] p x h = absurd (omega arith)
get_set (y ∷ l) zero x h = refl
get_set (y ∷ l) (suc p) x h = get_set l p x (omega arith)

pub get_other : {A : Type 0} (l : List A) (p r : ℕ) (x : A) → (p ≡ r → ⊥) → slice_get (slice_set l p x) r ≡ slice_get l r
get_other [] p r x h = refl
get_other (y ∷ l) zero zero x h = absurd (h refl)
get_other (y ∷ l) zero (suc r) x h = refl
get_other (y ∷ l) (suc p) zero x h = refl
get_other (y ∷ l) (suc p) (suc r) x h = get_other l p r x (λ e. h (ap suc e))

pub length_set : {A : Type 0} (l : List A) (p : ℕ) (x : A) → length (slice_set l p x) ≡ length l
length_set [] p x = refl
length_set (y ∷ l) zero x = refl
length_set (y ∷ l) (suc p) x = ap suc (length_set l p x)

pub get_some : {A : Type 0} (l : List A) (p : ℕ) → p < length l → (x : A) × (slice_get l p ≡ Some x)
get_some [] p h = absurd (omega arith)
get_some (y ∷ l) zero h = (y, refl)
get_some (y ∷ l) (suc p) h = get_some l p (omega arith)

-- an item and what comes after it
pub drop_at : (l : List ℕ) (k : ℕ) → k < length l → drop k l ≡ get_or l k 0 ∷ drop (k + 1) l
drop_at [] k h = absurd (omega (arith, h))
drop_at (x ∷ l) zero h = refl
drop_at (x ∷ l) (suc k) h = let e : suc k + 1 ≡ suc (k + 1) = omega arith in rw e (drop_at l k (omega (arith, h)))

pub drop_all : (l : List ℕ) → drop (length l) l ≡ []
drop_all [] = refl
drop_all (x ∷ l) = drop_all l

pub has_at : (l : List ℕ) (k : ℕ) → k < length l → has l (get_or l k 0) ≡ true
has_at [] k h = absurd (omega (arith, h))
has_at (x ∷ l) zero h = has_self x l
has_at (x ∷ l) (suc k) h = has_rest x l (get_or l k 0) (has_at l k (omega (arith, h)))
