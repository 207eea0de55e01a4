-- What is offered continues a part.
use Rattle.std.specs.Prelude.{◌≡◌, ◌⊎◌, ◌+◌, ℕ, zero, suc, Bool, true, false, ◌||◌, ◌==◌, if◌then◌else◌, List, [], ◌∷◌, ◌++◌, length, option_map, Option, Some, None, IsSomeAnd}
use Rattle.std.proofs.Common.{refl, sym, ◌∙◌, ap, subst, inl, inr, arith}
use Rattle.std.proofs.lemmas.Bool.Decides.{nat_tests}
use Rattle.exec_tree.specs.Exec.{Exec, Work, Leaf, Plan, Par, NonSeq, Sel, If, While, Execs, None_left, Then, nodes, nodes_all, has, count}
use Rattle.trace_law.specs.Of.{has_some, number_of, is_of, only}
use Rattle.trace_law.specs.Whole.{IsCut, IsWork, IsOfLeaf, Answered, Whole, WholeAt}
use Rattle.trace_law.specs.Own.{picks, pick_of, test_of, Turn, Tested, lead, turns}
use Rattle.trace_law.specs.Part.{LastMayBeCut, IsLoopSoFar, Part, EachPart, InOrder, PartAt}
use Rattle.trace_law.specs.Elements.{nodes_at, part_at}
use Rattle.trace_law.specs.Next.{next_work, next_of_last, next_after, next_answered, next_loop, next, next_in_order, next_each, next_at}
use Rattle.trace_law.specs.Step.{OfLastBody, Continues, SomeContinues, ContinuesAt, IsNewPick, IsTest, AtLast}
use Rattle.trace_law.specs.Cells.{last_body}
use Rattle.trace_law.specs.State.{stage, stage_from, stage_step}
use Rattle.trace_law.specs.Offer.{Offer, Cuts, Picks, Tests, Nothing, offer_of_work, offer_of_two, offer, offer_among, IsOffered}
use Rattle.run_log.specs.declared.entry.Entry.{Entry}
use Rattle.run_log.specs.declared.entry.Entry.TheVariants.{Dispatch, Block, End, Pick, Test, Assign, Set, Pass, Note, Edit}
use Rattle.trace_law.proofs.StepLemmas.{is_of_left, is_of_right, not_of_left, not_of_right, only_all, Apart, ApartAll, of_none, same_number, pick_has, test_has}
use Rattle.trace_law.proofs.StepForthLemmas.{at_inside, at_outside}
use Rattle.trace_law.proofs.StepBackLemmas.{part_inside, part_inside_at}
use Rattle.trace_law.proofs.ContinueLemmas.{first_cases, is_of_cases, left_inside, own_not, clash, next_inside, next_inside_order, next_inside_each, next_inside_at}
use Rattle.trace_law.proofs.StayLemmas.{one, no_way, not_true}

-- membership by the entry's number
pub has_of : (ns : List ℕ) (x : Entry) (m : ℕ) (b : Bool) → number_of x ≡ Some m → is_of ns x ≡ b → has ns m ≡ b
has_of ns x m b e h = rw e at h

pub chosen_yes : {A : Type 0} (b : Bool) (x y : A) → b ≡ true → (if b then x else y) ≡ x
chosen_yes true x y e = refl
chosen_yes false x y e = absurd (no_way e)

pub chosen_no : {A : Type 0} (b : Bool) (x y : A) → b ≡ false → (if b then x else y) ≡ y
chosen_no true x y e = absurd (no_way (sym e))
chosen_no false x y e = refl

pub of_first : (b c : Bool) (x y : Offer) → b ≡ true → offer_of_two b c x y ≡ x
of_first true c x y e = refl
of_first false c x y e = absurd (no_way e)

pub of_second : (b c : Bool) (x y : Offer) → b ≡ false → c ≡ true → offer_of_two b c x y ≡ y
of_second true c x y e f = absurd (no_way (sym e))
of_second false true x y e f = refl
of_second false false x y e f = absurd (no_way f)

pub not_own : (n m : ℕ) (x : Entry) → (n == m) ≡ false → number_of x ≡ Some m → is_of (n ∷ []) x ≡ false
not_own n m x e f = rw (f, e) refl

pub own_is : (n m : ℕ) (x : Entry) → (n == m) ≡ true → number_of x ≡ Some m → is_of (n ∷ []) x ≡ true
own_is n m x e f = rw (f, e) refl

pub is_of_yes : (ms ns : List ℕ) (x : Entry) → (is_of ms x ≡ true) ⊎ (is_of ns x ≡ true) → is_of (ms ++ ns) x ≡ true
is_of_yes ms ns x (inl h) = is_of_left ms ns x h
is_of_yes ms ns x (inr h) = is_of_right ms ns x h

pub is_of_no_left : (ms ns : List ℕ) (x : Entry) → is_of (ms ++ ns) x ≡ false → is_of ms x ≡ false
is_of_no_left ms ns x h = not_of_left ms ns x h

pub is_of_no_right : (ms ns : List ℕ) (x : Entry) → is_of (ms ++ ns) x ≡ false → is_of ns x ≡ false
is_of_no_right ms ns x h = not_of_right ms ns x h

pub self : (n m : ℕ) → m ≡ n → (m == n) ≡ true
self n m e = grind (arith, nat_tests)

cut_more : (n k : ℕ) (t rest : List Entry) (x : Entry) → IsCut n k (t ++ rest) → is_of (next_work n t) x ≡ true → IsOffered (offer_of_work (stage_from n (Some k) t)) n x → (r : List Entry) × IsCut n k (t ++ x ∷ r)
cut_more n k [] rest (Block m j b) w h q = (End n ∷ [], (q.0, q.1, refl))
cut_more n k [] rest (End m) w h q = ([], q)
cut_more n k [] rest x w h q = absurd q
cut_more n k (Block m j b ∷ t) rest x w h q =
    let z = cut_more n (k + 1) t rest x w.2 h (rw (self n m w.0) at q) in (z.0, (w.0, w.1, z.1))
cut_more n k (End m ∷ []) rest x w h q = absurd (of_none (number_of x) h)
cut_more n k (End m ∷ y ∷ t) rest x w h q = absurd w
cut_more n k (y ∷ t) rest x w h q = absurd w

work_more : (n : ℕ) (t rest : List Entry) (x : Entry) → IsWork n (t ++ rest) → is_of (next_work n t) x ≡ true → IsOffered (offer_of_work (stage n t)) n x → (r : List Entry) × IsWork n (t ++ x ∷ r)
work_more n [] rest (Dispatch m v) w h q = (End n ∷ [], (q, refl))
work_more n [] rest x w h q = absurd q
work_more n (Dispatch m v ∷ t) rest x w h q =
    let z = cut_more n 0 t rest x w.1 h (rw (self n m w.0) at q) in (z.0, (w.0, z.1))
work_more n (y ∷ t) rest x w h q = absurd w

last_offered : (part said : ℕ → Type 0) (whole : ℕ → Type 0) (f : ℕ → List ℕ) (x : Entry) (ks : List ℕ) → ((k : ℕ) → part k → is_of (f k) x ≡ true → said k) → LastMayBeCut whole part ks → is_of (next_of_last f ks) x ≡ true → AtLast said ks
last_offered part said whole f x [] h p g = absurd (of_none (number_of x) g)
last_offered part said whole f x (k ∷ []) h p g = h k p g
last_offered part said whole f x (k ∷ j ∷ ks) h p g = last_offered part said whole f x (j ∷ ks) h p.1 g

after_offered : {A : Type 0} (part said : A → List Entry → Type 0) (f : A → List Entry → List ℕ) (x : Entry) (o : Option A) (t : List Entry) → ((k : A) → part k t → is_of (f k t) x ≡ true → said k t) → IsSomeAnd o (λ k. part k t) → is_of (next_after f o t) x ≡ true → IsSomeAnd o (λ k. said k t)
after_offered part said f x None t h p g = absurd p
after_offered part said f x (Some k) t h p g = h k p g

loop_offered : (n : ℕ) (whole part said : List Entry → Type 0) (f : List Entry → List ℕ) (x : Entry) (ts : List Turn) → is_of (n ∷ []) x ≡ false → ((u : List Entry) → u ≡ last_body ts → part u → is_of (f u) x ≡ true → said u) → IsLoopSoFar whole part ts → is_of (next_loop n f ts) x ≡ true → OfLastBody said ts
loop_offered n whole part said f x [] o h p g = absurd (clash _ g o)
loop_offered n whole part said f x (Tested true t ∷ []) o h p g =
    elim (first_cases (f t) (n ∷ []) x g) [ inl q ↦ h t refl p q | inr q ↦ absurd (clash _ q o) ]
loop_offered n whole part said f x (Tested false t ∷ []) o h p g = absurd (of_none (number_of x) g)
loop_offered n whole part said f x (Tested true t ∷ r ∷ rest) o h p g = loop_offered n whole part said f x (r ∷ rest) o h p.1 g
loop_offered n whole part said f x (Tested false t ∷ r ∷ rest) o h p g = absurd p

-- the part of a list whose first entry is of none of these, and whose others all are
pub tail_only : (ns : List ℕ) (y : Entry) (t : List Entry) → is_of ns y ≡ false → only ns t ≡ t → t ≡ only ns (y ∷ t)
tail_only ns y t e f = sym (rw e f)

pub pick_number : (n : ℕ) (y : Entry) (P : ℕ → Type 0) → IsSomeAnd (pick_of n y) P → is_of (n ∷ []) y ≡ true
pick_number n y P p = pick_has n P y p

pub only_of_part : (e : Exec) (t : List Entry) → Part e t → only (nodes e) t ≡ t
only_of_part e t p = only_all (nodes e) t (part_inside e t p)

mutual
  pub continues : (e : Exec) (t : List Entry) (x : Entry) (m : ℕ) → Apart e → Part e t → number_of x ≡ Some m → is_of (next e t) x ≡ true → IsOffered (offer e t m) m x → Continues e t x
  continues (Work n) t x m d p e h q =
      let g : n ≡ m = one n m (has_of (n ∷ []) x m true e (next_inside (Work n) t x h)) in
      work_more n t p.0 x p.1 h (subst (λ (j : ℕ). IsOffered (offer_of_work (stage j t)) j x) (sym g) q)
  continues (Leaf n k) t x m d p e h q =
      let g : n ≡ m = one n m (has_of (n ∷ []) x m true e (next_inside (Leaf n k) t x h)) in
      subst (λ (j : ℕ). IsOfLeaf k j x) (sym g) q
  continues (Plan n es) t x m d p e h q = continues_in_order es t x m d p.1 e h q
  continues (Par n es) t x m d p e h q = continues_of_one es t x m d p.1 e h q
  continues (NonSeq n es) t x m d p e h q = go (n == m) refl (λ k r s o. continues_at es k t (part_at es k t) x m d.1 refl r e s o)
    where
      go : (b : Bool) → (n == m) ≡ b → ((k : ℕ) → PartAt es k (part_at es k t) → is_of (next_at es k (part_at es k t)) x ≡ true → IsOffered (offer_among es t m) m x → ContinuesAt es k (part_at es k t) x) → Continues (NonSeq n es) t x
      go true f rec = let g : n ≡ m = same_number n m f in inl (subst (λ (j : ℕ). IsNewPick j (count es) (picks n t) x) (sym g) (subst (λ (o : Offer). IsOffered o m x) (chosen_yes (n == m) (Picks (count es) (picks n t)) (offer_among es t m) f) q))
      go false f rec =
          elim (first_cases (next_of_last (λ k. next_at es k (part_at es k t)) (picks n t)) (if length (picks n t) == count es then [] else n ∷ []) x h) [
            | inl g ↦ inr (last_offered (λ k. PartAt es k (part_at es k t)) (λ k. ContinuesAt es k (part_at es k t) x) (λ k. WholeAt es k (part_at es k t)) (λ k. next_at es k (part_at es k t)) x (picks n t)
                (λ k r s. rec k r s (subst (λ (o : Offer). IsOffered o m x) (chosen_no (n == m) (Picks (count es) (picks n t)) (offer_among es t m) f) q)) p.2 g)
            | inr g ↦ absurd (clash _ (left_inside n (length (picks n t) == count es) x g) (not_own n m x f e))
          ]
  continues (Sel n es) [] x m d p e h q =
      let g : n ≡ m = one n m (has_of (n ∷ []) x m true e h) in
      subst (λ (j : ℕ). IsNewPick j (count es) [] x) (sym g) (subst (λ (o : Offer). IsOffered o m x) (chosen_yes (n == m) (Picks (count es) []) (offer_among es [] m) (let f : (n == m) ≡ true = grind (arith, nat_tests) in f)) q)
  continues (Sel n es) (y ∷ t) x m d (inl p) e h q = absurd (cc)
  continues (Sel n es) (y ∷ t) x m d (inr p) e h q =
      let out : is_of (nodes_all es) y ≡ false = own_not n (nodes_all es) y d.0 (pick_number n y (λ k. PartAt es k t) p) in
      after_offered (λ k u. PartAt es k u) (λ k u. ContinuesAt es k u x) (λ k u. next_at es k u) x (pick_of n y) t
      (λ k r s.
      let other : (n == m) ≡ false = not_true (n == m) (λ f. clash _ (at_inside es k x (next_inside_at es k t x s)) (own_not n (nodes_all es) x d.0 (own_is n m x f e))) in
      continues_at es k (y ∷ t) t x m d.1 (tail_only (nodes_at es k) y t (at_outside es k y out) (only_all (nodes_at es k) t (part_inside_at es k t r))) r e s
      (subst (λ (o : Offer). IsOffered o m x) (chosen_no (n == m) (Picks (count es) []) (offer_among es (y ∷ t) m) other) q))
      p h
  continues (If n a b) [] x m d p e h q =
      let g : n ≡ m = one n m (has_of (n ∷ []) x m true e h) in
      subst (λ (j : ℕ). IsTest j x) (sym g) (subst (λ (o : Offer). IsOffered o m x) (chosen_yes (n == m) Tests _ (let f : (n == m) ≡ true = grind (arith, nat_tests) in f)) q)
  continues (If n a b) (y ∷ t) x m d (inl p) e h q = absurd (cc)
  continues (If n a b) (y ∷ t) x m d (inr p) e h q =
      let out : is_of (nodes a ++ nodes b) y ≡ false = own_not n (nodes a ++ nodes b) y d.0 (test_has n _ y p) in
      after_offered (Answered (λ u. Part a u) (λ u. Part b u)) (Answered (λ u. Continues a u x) (λ u. Continues b u x)) (next_answered (λ u. next a u) (λ u. next b u)) x (test_of n y) t
      (elim [
        | true ↦ λ r s.
            let inside : is_of (nodes a) x ≡ true = next_inside a t x s in
            let other : (n == m) ≡ false = not_true (n == m) (λ f. clash _ (is_of_yes (nodes a) (nodes b) x (inl inside)) (own_not n (nodes a ++ nodes b) x d.0 (own_is n m x f e))) in
            continues a t x m d.1 r e s
            (subst (λ (u : List Entry). IsOffered (offer a u m) m x) (sym (tail_only (nodes a) y t (is_of_no_left (nodes a) (nodes b) y out) (only_of_part a t r)))
            (subst (λ (o : Offer). IsOffered o m x) (chosen_no (n == m) Tests _ other ∙ of_first (has (nodes a) m) (has (nodes b) m) _ _ (has_of (nodes a) x m true e inside)) q))
        | false ↦ λ r s.
            let inside : is_of (nodes b) x ≡ true = next_inside b t x s in
            let outside : is_of (nodes a) x ≡ false = not_true (is_of (nodes a) x) (λ f. clash _ inside (d.3 x f)) in
            let other : (n == m) ≡ false = not_true (n == m) (λ f. clash _ (is_of_yes (nodes a) (nodes b) x (inr inside)) (own_not n (nodes a ++ nodes b) x d.0 (own_is n m x f e))) in
            continues b t x m d.2 r e s
            (subst (λ (u : List Entry). IsOffered (offer b u m) m x) (sym (tail_only (nodes b) y t (is_of_no_right (nodes a) (nodes b) y out) (only_of_part b t r)))
            (subst (λ (o : Offer). IsOffered o m x) (chosen_no (n == m) Tests _ other ∙ of_second (has (nodes a) m) (has (nodes b) m) _ _ (has_of (nodes a) x m false e outside) (has_of (nodes b) x m true e inside)) q))
      ])
      p h
  continues (While n a) t x m d p e h q = go (n == m) refl (λ u r s o. continues a u x m d.1 r e s o)
    where
      go : (b : Bool) → (n == m) ≡ b → ((u : List Entry) → Part a u → is_of (next a u) x ≡ true → IsOffered (offer a u m) m x → Continues a u x) → Continues (While n a) t x
      go true f rec = let g : n ≡ m = same_number n m f in inl (subst (λ (j : ℕ). IsTest j x) (sym g) (subst (λ (o : Offer). IsOffered o m x) (chosen_yes (n == m) Tests (offer a (last_body (turns n t)) m) f) q))
      go false f rec =
          inr (loop_offered n (λ u. Whole a u) (λ u. Part a u) (λ u. Continues a u x) (λ u. next a u) x (turns n t) (not_own n m x f e)
          (λ u i r s. rec u r s (subst (λ (v : List Entry). IsOffered (offer a v m) m x) (sym i) (subst (λ (o : Offer). IsOffered o m x) (chosen_no (n == m) Tests (offer a (last_body (turns n t)) m) f) q))) p.1 h)

  continues_in_order : (es : Execs) (t : List Entry) (x : Entry) (m : ℕ) → ApartAll es → InOrder es t → number_of x ≡ Some m → is_of (next_in_order es t) x ≡ true → IsOffered (offer_among es t m) m x → SomeContinues es t x
  continues_in_order None_left t x m d p e h q = absurd q
  continues_in_order (Then a es) t x m d p e h q = go (is_of (nodes a) x) refl (continues a (only (nodes a) t) x m d.0 p.0 e) (continues_in_order es t x m d.1 p.2 e)
    where
      go : (b : Bool) → is_of (nodes a) x ≡ b → (is_of (next a (only (nodes a) t)) x ≡ true → IsOffered (offer a (only (nodes a) t) m) m x → Continues a (only (nodes a) t) x) → (is_of (next_in_order es t) x ≡ true → IsOffered (offer_among es t m) m x → SomeContinues es t x) → SomeContinues (Then a es) t x
      go true f one rest =
          elim (first_cases (next a (only (nodes a) t)) (next_in_order es t) x h) [
            | inl g ↦ inl (f, one g (subst (λ (o : Offer). IsOffered o m x) (chosen_yes (has (nodes a) m) _ _ (has_of (nodes a) x m true e f)) q))
            | inr g ↦ absurd (clash _ (next_inside_order es t x g) (d.2 x f))
          ]
      go false f one rest =
          elim (first_cases (next a (only (nodes a) t)) (next_in_order es t) x h) [
            | inl g ↦ absurd (clash _ (next_inside a (only (nodes a) t) x g) f)
            | inr g ↦ inr (f, rest g (subst (λ (o : Offer). IsOffered o m x) (chosen_no (has (nodes a) m) _ _ (has_of (nodes a) x m false e f)) q))
          ]

  continues_of_one : (es : Execs) (t : List Entry) (x : Entry) (m : ℕ) → ApartAll es → EachPart es t → number_of x ≡ Some m → is_of (next_each es t) x ≡ true → IsOffered (offer_among es t m) m x → SomeContinues es t x
  continues_of_one None_left t x m d p e h q = absurd q
  continues_of_one (Then a es) t x m d p e h q = go (is_of (nodes a) x) refl (continues a (only (nodes a) t) x m d.0 p.0 e) (continues_of_one es t x m d.1 p.1 e)
    where
      go : (b : Bool) → is_of (nodes a) x ≡ b → (is_of (next a (only (nodes a) t)) x ≡ true → IsOffered (offer a (only (nodes a) t) m) m x → Continues a (only (nodes a) t) x) → (is_of (next_each es t) x ≡ true → IsOffered (offer_among es t m) m x → SomeContinues es t x) → SomeContinues (Then a es) t x
      go true f one rest =
          elim (is_of_cases (next a (only (nodes a) t)) (next_each es t) x h) [
            | inl g ↦ inl (f, one g (subst (λ (o : Offer). IsOffered o m x) (chosen_yes (has (nodes a) m) _ _ (has_of (nodes a) x m true e f)) q))
            | inr g ↦ absurd (clash _ (next_inside_each es t x g) (d.2 x f))
          ]
      go false f one rest =
          elim (is_of_cases (next a (only (nodes a) t)) (next_each es t) x h) [
            | inl g ↦ absurd (clash _ (next_inside a (only (nodes a) t) x g) f)
            | inr g ↦ inr (f, rest g (subst (λ (o : Offer). IsOffered o m x) (chosen_no (has (nodes a) m) _ _ (has_of (nodes a) x m false e f)) q))
          ]

  continues_at : (es : Execs) (k : ℕ) (t u : List Entry) (x : Entry) (m : ℕ) → ApartAll es → u ≡ only (nodes_at es k) t → PartAt es k u → number_of x ≡ Some m → is_of (next_at es k u) x ≡ true → IsOffered (offer_among es t m) m x → ContinuesAt es k u x
  continues_at None_left k t u x m d i p e h q = absurd q
  continues_at (Then a es) zero t u x m d i p e h q =
      continues a u x m d.0 p e h
      (subst (λ (v : List Entry). IsOffered (offer a v m) m x) (sym i) (subst (λ (o : Offer). IsOffered o m x) (chosen_yes (has (nodes a) m) _ _ (has_of (nodes a) x m true e (next_inside a u x h))) q))
  continues_at (Then a es) (suc k) t u x m d i p e h q =
      let inside : is_of (nodes_all es) x ≡ true = at_inside es k x (next_inside_at es k u x h) in
      let outside : is_of (nodes a) x ≡ false = not_true (is_of (nodes a) x) (λ f. clash _ inside (d.2 x f)) in
      continues_at es k t u x m d.1 i p e h (subst (λ (o : Offer). IsOffered o m x) (chosen_no (has (nodes a) m) _ _ (has_of (nodes a) x m false e outside)) q)

-- ---- the number of blocks that is offered is the log's

apart_numbers : (n m : ℕ) → has (n ∷ []) m ≡ false → (m == n) ≡ false
apart_numbers n m h = not_true (m == n) (λ e. let f : (n == m) ≡ true = grind (arith, nat_tests) in no_way (let g : (true || false) ≡ false = rw f at h in sym g))

of_ns : (ns : List ℕ) (n : ℕ) (o : Option ℕ) → has ns n ≡ true → has_some (n ∷ []) o ≡ true → has_some ns o ≡ true
of_ns ns n None h e = absurd (no_way e)
of_ns ns n (Some m) h e = subst (λ (j : ℕ). has ns j ≡ true) (one n m e) h

stage_other : (n : ℕ) (o : Option ℕ) (x : Entry) → has_some (n ∷ []) (number_of x) ≡ false → stage_step n o x ≡ o
stage_other n o (Dispatch m v) h = rw (apart_numbers n m h) refl
stage_other n o (Block m k b) h = rw (apart_numbers n m h) refl
stage_other n o (End m) h = rw (apart_numbers n m h) refl
stage_other n o (Pick m k) h = refl
stage_other n o (Test m b) h = refl
stage_other n o (Assign m v) h = refl
stage_other n o (Set m) h = refl
stage_other n o (Pass m) h = refl
stage_other n o (Note m) h = refl
stage_other n o (Edit i v) h = refl

-- the stage of a node is that of the entries of any nodes that it is among
pub stage_only : (n : ℕ) (ns : List ℕ) (o : Option ℕ) (t : List Entry) → has ns n ≡ true → stage_from n o (only ns t) ≡ stage_from n o t
stage_only n ns o [] h = refl
stage_only n ns o (x ∷ t) h = go (is_of ns x) refl (λ r. stage_only n ns r t h)
  where
    go : (b : Bool) → is_of ns x ≡ b → ((r : Option ℕ) → stage_from n r (only ns t) ≡ stage_from n r t) → stage_from n o (only ns (x ∷ t)) ≡ stage_from n (stage_step n o x) t
    go true e f = rw e (f (stage_step n o x))
    go false e f = rw (e, stage_other n o x (not_true (has_some (n ∷ []) (number_of x)) (λ g. clash _ (of_ns ns n (number_of x) h g) e))) (f o)

pub stage_append : (n : ℕ) (o : Option ℕ) (t u : List Entry) → stage_from n o (t ++ u) ≡ stage_from n (stage_from n o t) u
stage_append n o [] u = refl
stage_append n o (x ∷ t) u = stage_append n (stage_step n o x) t u

later_step : (n : ℕ) (c : Option ℕ) (x : Entry) → (stage_step n None x ≡ None) ⊎ (stage_step n None x ≡ stage_step n c x)
later_step n c (Dispatch m v) = go (m == n) refl
  where
    go : (b : Bool) → (m == n) ≡ b → (stage_step n None (Dispatch m v) ≡ None) ⊎ (stage_step n None (Dispatch m v) ≡ stage_step n c (Dispatch m v))
    go true e = inr (rw e refl)
    go false e = inl (rw e refl)
later_step n c (Block m k b) = inl (go (m == n))
  where
    go : (b : Bool) → (if b then option_map (λ j. j + 1) None else None) ≡ None
    go true = refl
    go false = refl
later_step n c (End m) = inl (go (m == n))
  where
    nothing : Option ℕ
    nothing = None

    go : (b : Bool) → (if b then nothing else nothing) ≡ nothing
    go true = refl
    go false = refl
later_step n c x = inl refl

-- what is open after t alone is as far after t behind anything
none_some : (k : ℕ) → None ≡ Some k → ⊥
none_some k e = cc

pub any_start : (n k : ℕ) (o c : Option ℕ) (t : List Entry) → (o ≡ None) ⊎ (o ≡ c) → stage_from n o t ≡ Some k → stage_from n c t ≡ Some k
any_start n k o c [] (inl e) h = absurd (none_some k (sym e ∙ h))
any_start n k o c [] (inr e) h = sym e ∙ h
any_start n k o c (x ∷ t) (inl e) h =
    any_start n k (stage_step n None x) (stage_step n c x) t (later_step n c x) (subst (λ (r : Option ℕ). stage_from n (stage_step n r x) t ≡ Some k) e h)
any_start n k o c (x ∷ t) (inr e) h = any_start n k (stage_step n o x) (stage_step n c x) t (inr (ap (λ (r : Option ℕ). stage_step n r x) e)) h

lead_all : (n : ℕ) (t : List Entry) → turns n t ≡ [] → lead n t ≡ t
lead_all n [] e = refl
lead_all n (x ∷ t) e = go (test_of n x) refl e (lead_all n t)
  where
    go : (o : Option Bool) → test_of n x ≡ o → turns n (x ∷ t) ≡ [] → (turns n t ≡ [] → lead n t ≡ t) → lead n (x ∷ t) ≡ x ∷ t
    go None f g h = rw f (ap (λ (u : List Entry). x ∷ u) (h (rw f at g)))
    go (Some b) f g h = let z : Tested b (lead n t) ∷ turns n t ≡ [] = rw f at g in absurd (cc)

-- the body of the last turn is at the list's end
pub ends_with : (n : ℕ) (t : List Entry) → (front : List Entry) × (t ≡ front ++ last_body (turns n t))
ends_with n [] = ([], refl)
ends_with n (x ∷ t) = go (test_of n x) (turns n t) refl refl (ends_with n t)
  where
    go : (o : Option Bool) (ts : List Turn) → test_of n x ≡ o → turns n t ≡ ts → ((front : List Entry) × (t ≡ front ++ last_body (turns n t))) → (front : List Entry) × (x ∷ t ≡ front ++ last_body (turns n (x ∷ t)))
    go None ts e f z = (x ∷ z.0, rw e (ap (λ (u : List Entry). x ∷ u) z.1))
    go (Some b) [] e f z = (x ∷ [], rw (e, f) (ap (λ (u : List Entry). x ∷ u) (sym (lead_all n t f))))
    go (Some b) (r ∷ ts) e f z = (x ∷ z.0, rw (e, f) (ap (λ (u : List Entry). x ∷ u) (z.1 ∙ ap (λ (us : List Turn). z.0 ++ last_body us) f)))

of_work : (o : Option ℕ) (k : ℕ) → offer_of_work o ≡ Cuts k → o ≡ Some k
of_work None k h = absurd (cc)
of_work (Some j) k h = let e : j ≡ k = cc in ap (λ (i : ℕ). Some i) e

not_first : (b : Bool) (x y : Offer) (k : ℕ) → (x ≡ Cuts k → ⊥) → (if b then x else y) ≡ Cuts k → y ≡ Cuts k
not_first true x y k h e = absurd (h e)
not_first false x y k h e = e

of_pair : {b : Bool} (c : Bool) → b ≡ c → (x y : Offer) (k : ℕ) (G : Type 0) → (b ≡ true → x ≡ Cuts k → G) → (y ≡ Cuts k → G) → (if b then x else y) ≡ Cuts k → G
of_pair true e x y k G f g h = f e (rw e at h)
of_pair false e x y k G f g h = g (rw e at h)

of_two : {b d : Bool} (c i : Bool) → b ≡ c → d ≡ i → (x y : Offer) (k : ℕ) (G : Type 0) → (b ≡ true → x ≡ Cuts k → G) → (d ≡ true → y ≡ Cuts k → G) → offer_of_two b d x y ≡ Cuts k → G
of_two true i e q x y k G f g h = f e (rw e at h)
of_two false true e q x y k G f g h = g q (rw (e, q) at h)
of_two false false e q x y k G f g h = let z : Nothing ≡ Cuts k = rw (e, q) at h in absurd (cc)

mutual
  -- where a node cuts blocks next, they are counted as in the log
  pub offered_stage : (e : Exec) (t : List Entry) (m k : ℕ) (c : Option ℕ) → offer e t m ≡ Cuts k → stage_from m c t ≡ Some k
  offered_stage (Work n) t m k c h = any_start m k None c t (inl refl) (of_work (stage m t) k h)
  offered_stage (Leaf n l) t m k c h = absurd (cc)
  offered_stage (Plan n es) t m k c h = offered_stage_among es t m k c h
  offered_stage (Par n es) t m k c h = offered_stage_among es t m k c h
  offered_stage (NonSeq n es) t m k c h = offered_stage_among es t m k c (not_first (n == m) (Picks (count es) (picks n t)) (offer_among es t m) k (λ q. cc) h)
  offered_stage (Sel n es) t m k c h = offered_stage_among es t m k c (not_first (n == m) (Picks (count es) []) (offer_among es t m) k (λ q. cc) h)
  offered_stage (If n a b) t m k c h =
      of_two (has (nodes a) m) (has (nodes b) m) refl refl (offer a (only (nodes a) t) m) (offer b (only (nodes b) t) m) k (stage_from m c t ≡ Some k)
      (λ e q. sym (stage_only m (nodes a) c t e) ∙ offered_stage a (only (nodes a) t) m k c q)
      (λ e q. sym (stage_only m (nodes b) c t e) ∙ offered_stage b (only (nodes b) t) m k c q)
      (not_first (n == m) Tests _ k (λ q. cc) h)
  offered_stage (While n a) t m k c h =
      let g : offer a (last_body (turns n t)) m ≡ Cuts k = not_first (n == m) Tests (offer a (last_body (turns n t)) m) k (λ q. cc) h in
      let z = ends_with n t in
      ap (λ (u : List Entry). stage_from m c u) z.1 ∙ (stage_append m c z.0 (last_body (turns n t)) ∙ offered_stage a (last_body (turns n t)) m k (stage_from m c z.0) g)

  offered_stage_among : (es : Execs) (t : List Entry) (m k : ℕ) (c : Option ℕ) → offer_among es t m ≡ Cuts k → stage_from m c t ≡ Some k
  offered_stage_among None_left t m k c h = absurd (cc)
  offered_stage_among (Then a es) t m k c h =
      of_pair (has (nodes a) m) refl (offer a (only (nodes a) t) m) (offer_among es t m) k (stage_from m c t ≡ Some k)
      (λ e q. sym (stage_only m (nodes a) c t e) ∙ offered_stage a (only (nodes a) t) m k c q)
      (λ q. offered_stage_among es t m k c q) h
