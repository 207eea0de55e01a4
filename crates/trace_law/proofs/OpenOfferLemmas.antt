-- Where a node can go on there is something that it can do.
use Rattle.std.specs.Prelude.{◌≡◌, ◌⊎◌, ◌<◌, ◌≤◌, ℕ, zero, suc, Bool, true, false, ◌||◌, ◌==◌, if◌then◌else◌, List, [], ◌∷◌, ◌++◌, length, Option, Some, None, IsSomeAnd}
use Rattle.std.proofs.Common.{refl, sym, ◌∙◌, subst, inl, inr, arith}
use Rattle.std.proofs.lemmas.Bool.Decides.{nat_tests}
use Rattle.exec_tree.specs.Exec.{Exec, Work, Leaf, Plan, Par, NonSeq, Sel, If, While, Execs, None_left, Then, nodes, nodes_all, has, count, HasChoices, HasChoicesAll}
use Rattle.trace_law.specs.Of.{number_of, is_of, only}
use Rattle.trace_law.specs.Own.{picks, pick_of, test_of, Turn, Tested, turns}
use Rattle.trace_law.specs.Part.{LastMayBeCut, IsLoopSoFar, Part, EachPart, InOrder, PartAt}
use Rattle.trace_law.specs.Whole.{AreDistinctBelow, Answered, Whole, WholeAt}
use Rattle.trace_law.specs.Elements.{nodes_at, part_at}
use Rattle.trace_law.specs.Next.{next_of_last, next_after, next_answered, next_loop, next, next_in_order, next_each, next_at}
use Rattle.trace_law.specs.Cells.{last_body}
use Rattle.trace_law.specs.State.{stage}
use Rattle.trace_law.specs.Offer.{Picks, Tests, offer_of_work, offer, offer_among, IsOpen}
use Rattle.run_log.specs.declared.entry.Entry.{Entry}
use Rattle.run_log.specs.declared.entry.Entry.TheVariants.{Note}
use Rattle.trace_law.proofs.StepLemmas.{distinct_few, only_all, Apart, ApartAll, of_none, test_has}
use Rattle.trace_law.proofs.StepForthLemmas.{at_inside, at_outside}
use Rattle.trace_law.proofs.StepBackLemmas.{part_inside_at}
use Rattle.trace_law.proofs.ContinueLemmas.{first_cases, is_of_cases, left_inside, last_inside, own_not, clash, next_inside, next_inside_order, next_inside_each, next_inside_at}
use Rattle.trace_law.proofs.StayLemmas.{one, no_way, not_true}
use Rattle.trace_law.proofs.OfferLemmas.{has_of, chosen_yes, chosen_no, of_first, of_second, not_own, own_is, is_of_yes, is_of_no_left, is_of_no_right, tail_only, only_of_part, pick_number}

-- ---- of numbers below a count that aren't all there, one is missing

or_cases : (a b : Bool) → (a || b) ≡ true → (a ≡ true) ⊎ (b ≡ true)
or_cases true b e = inl refl
or_cases false b e = inr e

or_right : (a b : Bool) → b ≡ true → (a || b) ≡ true
or_right true b q = refl
or_right false b q = q

or_left : (a b : Bool) → a ≡ true → (a || b) ≡ true
or_left true b q = refl
or_left false b q = absurd (no_way q)

abbrev without : ℕ → List ℕ → List ℕ
without k [] = []
without k (j ∷ ks) = if j == k then without k ks else j ∷ without k ks

no_longer : (k : ℕ) (ks : List ℕ) → length (without k ks) ≤ length ks
no_longer k [] = omega arith
no_longer k (j ∷ ks) = go (j == k) (no_longer k ks)
  where
    go : (b : Bool) → length (without k ks) ≤ length ks → length (if b then without k ks else j ∷ without k ks) ≤ suc (length ks)
    go true l = omega (arith, l)
    go false l = omega (arith, l)

shorter : (k : ℕ) (ks : List ℕ) → has ks k ≡ true → length (without k ks) < length ks
shorter k [] h = absurd (no_way h)
shorter k (j ∷ ks) h = go (j == k) refl (no_longer k ks) (shorter k ks)
  where
    go : (b : Bool) → (j == k) ≡ b → length (without k ks) ≤ length ks → (has ks k ≡ true → length (without k ks) < length ks) → length (without k (j ∷ ks)) < suc (length ks)
    go true e l rec = rw e (let z : length (without k ks) < suc (length ks) = omega (arith, l) in z)
    go false e l rec = rw e (let z : suc (length (without k ks)) < suc (length ks) = omega (arith, rec (rw e at h)) in z)

still : (k i : ℕ) (ks : List ℕ) → (i == k) ≡ false → has ks i ≡ true → has (without k ks) i ≡ true
still k i [] e h = absurd (no_way h)
still k i (j ∷ ks) e h = go (j == k) refl (still k i ks e)
  where
    go : (b : Bool) → (j == k) ≡ b → (has ks i ≡ true → has (without k ks) i ≡ true) → has (without k (j ∷ ks)) i ≡ true
    go true f rec = rw f (elim (or_cases (j == i) (has ks i) h) [ inl q ↦ absurd (no_way (let g : (i == k) ≡ true = grind (arith, nat_tests) in sym e ∙ g)) | inr q ↦ rec q ])
    go false f rec = rw f (elim (or_cases (j == i) (has ks i) h) [ inl q ↦ or_left (j == i) (has (without k ks) i) q | inr q ↦ or_right (j == i) (has (without k ks) i) (rec q) ])

all_there : (c : ℕ) (ks : List ℕ) → ((k : ℕ) → k < c → has ks k ≡ true) → c ≤ length ks
all_there zero ks h = omega arith
all_there (suc c) ks h =
    let l : length (without c ks) < length ks = shorter c ks (h c (omega arith)) in
    let m : c ≤ length (without c ks) = all_there c (without c ks) (λ k q. still c k ks (let f : (k == c) ≡ false = grind (arith, nat_tests) in f) (h k (omega (arith, q)))) in
    omega (arith, l, m)

seek : (c : ℕ) (ks : List ℕ) → ((k : ℕ) × (k < c) × (has ks k ≡ false)) ⊎ ((k : ℕ) → k < c → has ks k ≡ true)
seek zero ks = inr (λ k l. absurd (let f : ⊥ = omega (arith, l) in f))
seek (suc c) ks =
    elim (seek c ks) [
      | inl z ↦ inl (z.0, (let l : z.0 < suc c = omega (arith, z.1) in l), z.2)
      | inr h ↦ go (has ks c) refl h
    ]
  where
    last : (k : ℕ) → k < suc c → (b : Bool) → (k == c) ≡ b → has ks c ≡ true → ((i : ℕ) → i < c → has ks i ≡ true) → has ks k ≡ true
    last k l true e g h = let s : k ≡ c = grind (arith, nat_tests) in rw s g
    last k l false e g h = h k (let n : (k ≡ c) → ⊥ = (λ q. no_way (let s : (k == c) ≡ true = grind (arith, nat_tests) in sym e ∙ s)) in let m : k < c = omega (arith, l, n) in m)

    go : (b : Bool) → has ks c ≡ b → ((k : ℕ) → k < c → has ks k ≡ true) → ((k : ℕ) × (k < suc c) × (has ks k ≡ false)) ⊎ ((k : ℕ) → k < suc c → has ks k ≡ true)
    go true e h = inr (λ k l. last k l (k == c) refl e h)
    go false e h = inl (c, omega arith, e)

one_missing : (c : ℕ) (ks : List ℕ) → length ks < c → (k : ℕ) × (k < c) × (has ks k ≡ false)
one_missing c ks l = elim (seek c ks) [ inl z ↦ z | inr h ↦ absurd (let m : c ≤ length ks = all_there c ks h in let f : ⊥ = omega (arith, l, m) in f) ]

few_distinct : (c : ℕ) (ks : List ℕ) → AreDistinctBelow c ks → length ks ≤ c
few_distinct c ks d = distinct_few c ks d

fewer : (a c : ℕ) → a ≤ c → (a == c) ≡ false → a < c
fewer a c l e = let n : (a ≡ c) → ⊥ = (λ q. no_way (let s : (a == c) ≡ true = grind (arith, nat_tests) in sym e ∙ s)) in omega (arith, l, n)

-- ---- what is said of the node, where it is asked

open_work : (o : Option ℕ) → IsOpen (offer_of_work o)
open_work None = tt
open_work (Some k) = tt

last_open : (part : ℕ → Type 0) (whole : ℕ → Type 0) (f : ℕ → List ℕ) (x : Entry) (G : Type 0) (ks : List ℕ) → ((k : ℕ) → part k → is_of (f k) x ≡ true → G) → LastMayBeCut whole part ks → is_of (next_of_last f ks) x ≡ true → G
last_open part whole f x G [] h p g = absurd (of_none (number_of x) g)
last_open part whole f x G (k ∷ []) h p g = h k p g
last_open part whole f x G (k ∷ j ∷ ks) h p g = last_open part whole f x G (j ∷ ks) h p.1 g

after_open : {A : Type 0} (part : A → List Entry → Type 0) (f : A → List Entry → List ℕ) (x : Entry) (G : Type 0) (o : Option A) (t : List Entry) → ((k : A) → part k t → is_of (f k t) x ≡ true → G) → IsSomeAnd o (λ k. part k t) → is_of (next_after f o t) x ≡ true → G
after_open part f x G None t h p g = absurd p
after_open part f x G (Some k) t h p g = h k p g

loop_open : (n : ℕ) (whole part : List Entry → Type 0) (f : List Entry → List ℕ) (x : Entry) (G : Type 0) (ts : List Turn) → is_of (n ∷ []) x ≡ false → ((u : List Entry) → u ≡ last_body ts → part u → is_of (f u) x ≡ true → G) → IsLoopSoFar whole part ts → is_of (next_loop n f ts) x ≡ true → G
loop_open n whole part f x G [] o h p g = absurd (clash _ g o)
loop_open n whole part f x G (Tested true t ∷ []) o h p g =
    elim (first_cases (f t) (n ∷ []) x g) [ inl q ↦ h t refl p q | inr q ↦ absurd (clash _ q o) ]
loop_open n whole part f x G (Tested false t ∷ []) o h p g = absurd (of_none (number_of x) g)
loop_open n whole part f x G (Tested true t ∷ r ∷ rest) o h p g = loop_open n whole part f x G (r ∷ rest) o h p.1 g
loop_open n whole part f x G (Tested false t ∷ r ∷ rest) o h p g = absurd p

left_over : (n : ℕ) (a c : ℕ) (x : Entry) → is_of (if a == c then [] else n ∷ []) x ≡ true → (a == c) ≡ false
left_over n a c x h = go (a == c) refl
  where
    go : (b : Bool) → (a == c) ≡ b → (a == c) ≡ false
    go true e = absurd (of_none (number_of x) (rw e at h))
    go false e = e

mutual
  pub opens : (e : Exec) (t : List Entry) (m : ℕ) → Apart e → HasChoices e → Part e t → is_of (next e t) (Note m) ≡ true → IsOpen (offer e t m)
  opens (Work n) t m d c p h = open_work (stage m t)
  opens (Leaf n k) t m d c p h = tt
  opens (Plan n es) t m d c p h = opens_in_order es t m d c p.1 h
  opens (Par n es) t m d c p h = opens_of_one es t m d c p.1 h
  opens (NonSeq n es) t m d c p h = go (n == m) refl (λ k r s. opens_at es k t (part_at es k t) m d.1 c refl r s)
    where
      inside : is_of (next_of_last (λ k. next_at es k (part_at es k t)) (picks n t)) (Note m) ≡ true → is_of (nodes_all es) (Note m) ≡ true
      inside g = last_inside (λ k. next_at es k (part_at es k t)) (nodes_all es) (Note m) (picks n t) (λ k r. at_inside es k (Note m) (next_inside_at es k (part_at es k t) (Note m) r)) g

      go : (b : Bool) → (n == m) ≡ b → ((k : ℕ) → PartAt es k (part_at es k t) → is_of (next_at es k (part_at es k t)) (Note m) ≡ true → IsOpen (offer_among es t m)) → IsOpen (offer (NonSeq n es) t m)
      go true f rec =
          subst IsOpen (sym (chosen_yes (n == m) (Picks (count es) (picks n t)) (offer_among es t m) f))
          (elim (first_cases (next_of_last (λ k. next_at es k (part_at es k t)) (picks n t)) (if length (picks n t) == count es then [] else n ∷ []) (Note m) h) [
            | inl g ↦ absurd (clash _ (inside g) (own_not n (nodes_all es) (Note m) d.0 (own_is n m (Note m) f refl)))
            | inr g ↦ one_missing (count es) (picks n t) (fewer (length (picks n t)) (count es) (few_distinct (count es) (picks n t) p.1) (left_over n (length (picks n t)) (count es) (Note m) g))
          ])
      go false f rec =
          subst IsOpen (sym (chosen_no (n == m) (Picks (count es) (picks n t)) (offer_among es t m) f))
          (elim (first_cases (next_of_last (λ k. next_at es k (part_at es k t)) (picks n t)) (if length (picks n t) == count es then [] else n ∷ []) (Note m) h) [
            | inl g ↦ last_open (λ k. PartAt es k (part_at es k t)) (λ k. WholeAt es k (part_at es k t)) (λ k. next_at es k (part_at es k t)) (Note m) (IsOpen (offer_among es t m)) (picks n t) (λ k r s. rec k r s) p.2 g
            | inr g ↦ absurd (clash _ (left_inside n (length (picks n t) == count es) (Note m) g) (not_own n m (Note m) f refl))
          ])
  opens (Sel n es) [] m d c p h =
      let g : n ≡ m = one n m (has_of (n ∷ []) (Note m) m true refl h) in
      subst IsOpen (sym (chosen_yes (n == m) (Picks (count es) []) (offer_among es [] m) (let f : (n == m) ≡ true = grind (arith, nat_tests) in f))) (0, c.0, refl)
  opens (Sel n es) (y ∷ t) m d c (inl p) h = absurd (cc)
  opens (Sel n es) (y ∷ t) m d c (inr p) h =
      let out : is_of (nodes_all es) y ≡ false = own_not n (nodes_all es) y d.0 (pick_number n y (λ k. PartAt es k t) p) in
      after_open (λ k u. PartAt es k u) (λ k u. next_at es k u) (Note m) (IsOpen (offer (Sel n es) (y ∷ t) m)) (pick_of n y) t
      (λ k r s.
      let other : (n == m) ≡ false = not_true (n == m) (λ f. clash _ (at_inside es k (Note m) (next_inside_at es k t (Note m) s)) (own_not n (nodes_all es) (Note m) d.0 (own_is n m (Note m) f refl))) in
      subst IsOpen (sym (chosen_no (n == m) (Picks (count es) []) (offer_among es (y ∷ t) m) other))
      (opens_at es k (y ∷ t) t m d.1 c.1 (tail_only (nodes_at es k) y t (at_outside es k y out) (only_all (nodes_at es k) t (part_inside_at es k t r))) r s))
      p h
  opens (If n a b) [] m d c p h =
      let g : n ≡ m = one n m (has_of (n ∷ []) (Note m) m true refl h) in
      subst IsOpen (sym (chosen_yes (n == m) Tests _ (let f : (n == m) ≡ true = grind (arith, nat_tests) in f))) tt
  opens (If n a b) (y ∷ t) m d c (inl p) h = absurd (cc)
  opens (If n a b) (y ∷ t) m d c (inr p) h =
      let out : is_of (nodes a ++ nodes b) y ≡ false = own_not n (nodes a ++ nodes b) y d.0 (test_has n _ y p) in
      after_open (Answered (λ u. Part a u) (λ u. Part b u)) (next_answered (λ u. next a u) (λ u. next b u)) (Note m) (IsOpen (offer (If n a b) (y ∷ t) m)) (test_of n y) t
      (elim [
        | true ↦ λ r s.
            let inside : is_of (nodes a) (Note m) ≡ true = next_inside a t (Note m) s in
            let other : (n == m) ≡ false = not_true (n == m) (λ f. clash _ (is_of_yes (nodes a) (nodes b) (Note m) (inl inside)) (own_not n (nodes a ++ nodes b) (Note m) d.0 (own_is n m (Note m) f refl))) in
            subst IsOpen (sym (chosen_no (n == m) Tests _ other ∙ of_first (has (nodes a) m) (has (nodes b) m) _ _ (has_of (nodes a) (Note m) m true refl inside)))
            (subst (λ (u : List Entry). IsOpen (offer a u m)) (tail_only (nodes a) y t (is_of_no_left (nodes a) (nodes b) y out) (only_of_part a t r)) (opens a t m d.1 c.0 r s))
        | false ↦ λ r s.
            let inside : is_of (nodes b) (Note m) ≡ true = next_inside b t (Note m) s in
            let outside : is_of (nodes a) (Note m) ≡ false = not_true (is_of (nodes a) (Note m)) (λ f. clash _ inside (d.3 (Note m) f)) in
            let other : (n == m) ≡ false = not_true (n == m) (λ f. clash _ (is_of_yes (nodes a) (nodes b) (Note m) (inr inside)) (own_not n (nodes a ++ nodes b) (Note m) d.0 (own_is n m (Note m) f refl))) in
            subst IsOpen (sym (chosen_no (n == m) Tests _ other ∙ of_second (has (nodes a) m) (has (nodes b) m) _ _ (has_of (nodes a) (Note m) m false refl outside) (has_of (nodes b) (Note m) m true refl inside)))
            (subst (λ (u : List Entry). IsOpen (offer b u m)) (tail_only (nodes b) y t (is_of_no_right (nodes a) (nodes b) y out) (only_of_part b t r)) (opens b t m d.2 c.1 r s))
      ])
      p h
  opens (While n a) t m d c p h = go (n == m) refl (λ u r s. opens a u m d.1 c r s)
    where
      go : (b : Bool) → (n == m) ≡ b → ((u : List Entry) → Part a u → is_of (next a u) (Note m) ≡ true → IsOpen (offer a u m)) → IsOpen (offer (While n a) t m)
      go true f rec = subst IsOpen (sym (chosen_yes (n == m) Tests (offer a (last_body (turns n t)) m) f)) tt
      go false f rec =
          subst IsOpen (sym (chosen_no (n == m) Tests (offer a (last_body (turns n t)) m) f))
          (loop_open n (λ u. Whole a u) (λ u. Part a u) (λ u. next a u) (Note m) (IsOpen (offer a (last_body (turns n t)) m)) (turns n t) (not_own n m (Note m) f refl)
          (λ u i r s. subst (λ (v : List Entry). IsOpen (offer a v m)) i (rec u r s)) p.1 h)

  opens_in_order : (es : Execs) (t : List Entry) (m : ℕ) → ApartAll es → HasChoicesAll es → InOrder es t → is_of (next_in_order es t) (Note m) ≡ true → IsOpen (offer_among es t m)
  opens_in_order None_left t m d c p h = absurd (no_way h)
  opens_in_order (Then a es) t m d c p h = go (is_of (nodes a) (Note m)) refl (opens a (only (nodes a) t) m d.0 c.0 p.0) (opens_in_order es t m d.1 c.1 p.2)
    where
      go : (b : Bool) → is_of (nodes a) (Note m) ≡ b → (is_of (next a (only (nodes a) t)) (Note m) ≡ true → IsOpen (offer a (only (nodes a) t) m)) → (is_of (next_in_order es t) (Note m) ≡ true → IsOpen (offer_among es t m)) → IsOpen (offer_among (Then a es) t m)
      go true f one rest =
          subst IsOpen (sym (chosen_yes (has (nodes a) m) _ _ (has_of (nodes a) (Note m) m true refl f)))
          (elim (first_cases (next a (only (nodes a) t)) (next_in_order es t) (Note m) h)
          [ inl g ↦ one g | inr g ↦ absurd (clash _ (next_inside_order es t (Note m) g) (d.2 (Note m) f)) ])
      go false f one rest =
          subst IsOpen (sym (chosen_no (has (nodes a) m) _ _ (has_of (nodes a) (Note m) m false refl f)))
          (elim (first_cases (next a (only (nodes a) t)) (next_in_order es t) (Note m) h)
          [ inl g ↦ absurd (clash _ (next_inside a (only (nodes a) t) (Note m) g) f) | inr g ↦ rest g ])

  opens_of_one : (es : Execs) (t : List Entry) (m : ℕ) → ApartAll es → HasChoicesAll es → EachPart es t → is_of (next_each es t) (Note m) ≡ true → IsOpen (offer_among es t m)
  opens_of_one None_left t m d c p h = absurd (no_way h)
  opens_of_one (Then a es) t m d c p h = go (is_of (nodes a) (Note m)) refl (opens a (only (nodes a) t) m d.0 c.0 p.0) (opens_of_one es t m d.1 c.1 p.1)
    where
      go : (b : Bool) → is_of (nodes a) (Note m) ≡ b → (is_of (next a (only (nodes a) t)) (Note m) ≡ true → IsOpen (offer a (only (nodes a) t) m)) → (is_of (next_each es t) (Note m) ≡ true → IsOpen (offer_among es t m)) → IsOpen (offer_among (Then a es) t m)
      go true f one rest =
          subst IsOpen (sym (chosen_yes (has (nodes a) m) _ _ (has_of (nodes a) (Note m) m true refl f)))
          (elim (is_of_cases (next a (only (nodes a) t)) (next_each es t) (Note m) h)
          [ inl g ↦ one g | inr g ↦ absurd (clash _ (next_inside_each es t (Note m) g) (d.2 (Note m) f)) ])
      go false f one rest =
          subst IsOpen (sym (chosen_no (has (nodes a) m) _ _ (has_of (nodes a) (Note m) m false refl f)))
          (elim (is_of_cases (next a (only (nodes a) t)) (next_each es t) (Note m) h)
          [ inl g ↦ absurd (clash _ (next_inside a (only (nodes a) t) (Note m) g) f) | inr g ↦ rest g ])

  opens_at : (es : Execs) (k : ℕ) (t u : List Entry) (m : ℕ) → ApartAll es → HasChoicesAll es → u ≡ only (nodes_at es k) t → PartAt es k u → is_of (next_at es k u) (Note m) ≡ true → IsOpen (offer_among es t m)
  opens_at None_left k t u m d c i p h = absurd p
  opens_at (Then a es) zero t u m d c i p h =
      subst IsOpen (sym (chosen_yes (has (nodes a) m) _ _ (has_of (nodes a) (Note m) m true refl (next_inside a u (Note m) h))))
      (subst (λ (v : List Entry). IsOpen (offer a v m)) i (opens a u m d.0 c.0 p h))
  opens_at (Then a es) (suc k) t u m d c i p h =
      let inside : is_of (nodes_all es) (Note m) ≡ true = at_inside es k (Note m) (next_inside_at es k u (Note m) h) in
      let outside : is_of (nodes a) (Note m) ≡ false = not_true (is_of (nodes a) (Note m)) (λ f. clash _ inside (d.2 (Note m) f)) in
      subst IsOpen (sym (chosen_no (has (nodes a) m) _ _ (has_of (nodes a) (Note m) m false refl outside))) (opens_at es k t u m d.1 c.1 i p h)
