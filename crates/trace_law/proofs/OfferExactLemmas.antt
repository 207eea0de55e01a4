-- What follows a part is what is offered.
use Rattle.std.specs.Prelude.{◌≡◌, ◌+◌, ℕ, zero, suc, true, false, ◌==◌, List, [], ◌∷◌, ◌++◌, Option, Some, None, IsSomeAnd}
use Rattle.std.proofs.Common.{refl, sym, ◌∙◌, subst, inl, inr, arith}
use Rattle.std.proofs.lemmas.Bool.Decides.{nat_tests}
use Rattle.exec_tree.specs.Exec.{Exec, Work, Leaf, Plan, Par, NonSeq, Sel, If, While, Execs, None_left, Then, nodes, nodes_all, has, count}
use Rattle.trace_law.specs.Of.{number_of, is_of, only}
use Rattle.trace_law.specs.Whole.{IsCut, IsWork, IsOfLeaf, Answered, Whole, WholeAt}
use Rattle.trace_law.specs.Own.{picks, pick_of, test_of, Turn, Tested, turns}
use Rattle.trace_law.specs.Part.{LastMayBeCut, IsLoopSoFar, Part, EachPart, InOrder, PartAt}
use Rattle.trace_law.specs.Elements.{nodes_at, part_at}
use Rattle.trace_law.specs.Step.{IsNewPick, IsTest, AtLast, StepLoop, Step, StepInOrder, StepOfOne, StepAt}
use Rattle.trace_law.specs.Cells.{last_body}
use Rattle.trace_law.specs.State.{stage, stage_from}
use Rattle.trace_law.specs.Offer.{Offer, Picks, Tests, offer_of_work, offer, offer_among, IsOffered}
use Rattle.run_log.specs.declared.entry.Entry.{Entry}
use Rattle.run_log.specs.declared.entry.Entry.TheVariants.{Dispatch, Block, End}
use Rattle.trace_law.proofs.StepLemmas.{only_all, Apart, ApartAll, pick_has, test_has, leaf_has}
use Rattle.trace_law.proofs.StepForthLemmas.{at_inside, at_outside}
use Rattle.trace_law.proofs.StepBackLemmas.{part_inside_at, step_inside, part_of_step}
use Rattle.trace_law.proofs.ContinueLemmas.{own_not, clash}
use Rattle.trace_law.proofs.StayLemmas.{one, not_true, inside_at, own_of}
use Rattle.trace_law.proofs.OfferLemmas.{self, has_of, chosen_yes, chosen_no, of_first, of_second, own_is, is_of_yes, is_of_no_left, is_of_no_right, tail_only, only_of_part, pick_number}

cut_offers : (n i : ℕ) (t rest : List Entry) (x : Entry) → IsCut n i (t ++ x ∷ rest) → IsOffered (offer_of_work (stage_from n (Some i) t)) n x
cut_offers n i [] rest (Block m k b) w = (w.0, w.1)
cut_offers n i [] [] (End m) w = w
cut_offers n i [] (y ∷ rest) (End m) w = absurd w
cut_offers n i [] rest x w = absurd w
cut_offers n i (Block m k b ∷ t) rest x w = rw (self n m w.0) (cut_offers n (i + 1) t rest x w.2)
cut_offers n i (End m ∷ []) rest x w = absurd w
cut_offers n i (End m ∷ y ∷ t) rest x w = absurd w
cut_offers n i (y ∷ t) rest x w = absurd w

work_offers : (n : ℕ) (t rest : List Entry) (x : Entry) → IsWork n (t ++ x ∷ rest) → IsOffered (offer_of_work (stage n t)) n x
work_offers n [] rest (Dispatch m v) w = w.0
work_offers n [] rest x w = absurd w
work_offers n (Dispatch m v ∷ t) rest x w = rw (self n m w.0) (cut_offers n 0 t rest x w.1)
work_offers n (y ∷ t) rest x w = absurd w

last_says : (whole part said : ℕ → Type 0) (G : Type 0) (ks : List ℕ) → ((k : ℕ) → part k → said k → G) → LastMayBeCut whole part ks → AtLast said ks → G
last_says whole part said G [] h p s = absurd s
last_says whole part said G (k ∷ []) h p s = h k p s
last_says whole part said G (k ∷ j ∷ ks) h p s = last_says whole part said G (j ∷ ks) h p.1 s

some_says : {A : Type 0} (P Q : A → Type 0) (G : Type 0) (o : Option A) → ((a : A) → P a → Q a → G) → IsSomeAnd o P → IsSomeAnd o Q → G
some_says P Q G None h p q = absurd p
some_says P Q G (Some a) h p q = h a p q

loop_says : (whole part step : List Entry → Type 0) (test G : Type 0) (ts : List Turn) → (test → G) → ((u : List Entry) → u ≡ last_body ts → part u → step u → G) → IsLoopSoFar whole part ts → StepLoop test whole step ts → G
loop_says whole part step test G [] f h q p = f p
loop_says whole part step test G (Tested true t ∷ []) f h q (inl p) = f p.0
loop_says whole part step test G (Tested true t ∷ []) f h q (inr p) = h t refl q p
loop_says whole part step test G (Tested false t ∷ []) f h q p = absurd p
loop_says whole part step test G (Tested true t ∷ s ∷ rest) f h q p = loop_says whole part step test G (s ∷ rest) f h q.1 p
loop_says whole part step test G (Tested false t ∷ s ∷ rest) f h q p = absurd q

-- the number of an entry of n is n
number_is : (n m : ℕ) (x : Entry) → number_of x ≡ Some m → is_of (n ∷ []) x ≡ true → n ≡ m
number_is n m x e h = one n m (has_of (n ∷ []) x m true e h)

pub other_number : (n m : ℕ) (ns : List ℕ) (x : Entry) → number_of x ≡ Some m → has ns n ≡ false → is_of ns x ≡ true → (n == m) ≡ false
other_number n m ns x e own inside = not_true (n == m) (λ f. clash _ inside (own_not n ns x own (own_is n m x f e)))

mutual
  pub offers : (e : Exec) (t : List Entry) (x : Entry) (m : ℕ) → Apart e → Part e t → Step e t x → number_of x ≡ Some m → IsOffered (offer e t m) m x
  offers (Work n) t x m d p s e =
      subst (λ (j : ℕ). IsOffered (offer_of_work (stage j t)) j x) (number_is n m x e (own_of n t s.0 x s.1)) (work_offers n t s.0 x s.1)
  offers (Leaf n k) t x m d p s e = subst (λ (j : ℕ). IsOfLeaf k j x) (number_is n m x e (leaf_has k n x s.1)) s.1
  offers (Plan n es) t x m d p s e = offers_in_order es t x m d p.1 s e
  offers (Par n es) t x m d p s e = offers_of_one es t x m d p.1 s e
  offers (NonSeq n es) t x m d p (inl s) e =
      let g : n ≡ m = number_is n m x e (pick_has n _ x s.0) in
      subst (λ (o : Offer). IsOffered o m x) (sym (chosen_yes (n == m) (Picks (count es) (picks n t)) (offer_among es t m) (let f : (n == m) ≡ true = grind (arith, nat_tests) in f)))
      (subst (λ (j : ℕ). IsNewPick j (count es) (picks n t) x) g s.0)
  offers (NonSeq n es) t x m d p (inr s) e =
      last_says (λ i. WholeAt es i (part_at es i t)) (λ i. PartAt es i (part_at es i t)) (λ i. StepAt es i (part_at es i t) x) (IsOffered (offer (NonSeq n es) t m) m x) (picks n t)
      (λ i q r.
      let other : (n == m) ≡ false = other_number n m (nodes_all es) x e d.0 (at_inside es i x (inside_at es i (part_at es i t) x d.1 q r)) in
      subst (λ (o : Offer). IsOffered o m x) (sym (chosen_no (n == m) (Picks (count es) (picks n t)) (offer_among es t m) other)) (offers_at es i t (part_at es i t) x m d.1 refl q r e)) p.2 s
  offers (Sel n es) [] x m d p s e =
      let g : n ≡ m = number_is n m x e (pick_has n _ x s) in
      subst (λ (o : Offer). IsOffered o m x) (sym (chosen_yes (n == m) (Picks (count es) []) (offer_among es [] m) (let f : (n == m) ≡ true = grind (arith, nat_tests) in f)))
      (subst (λ (j : ℕ). IsNewPick j (count es) [] x) g s)
  offers (Sel n es) (y ∷ t) x m d (inl p) s e = absurd (cc)
  offers (Sel n es) (y ∷ t) x m d (inr p) s e =
      let out : is_of (nodes_all es) y ≡ false = own_not n (nodes_all es) y d.0 (pick_number n y (λ k. PartAt es k t) p) in
      some_says (λ i. PartAt es i t) (λ i. StepAt es i t x) (IsOffered (offer (Sel n es) (y ∷ t) m) m x) (pick_of n y)
      (λ i q r.
      let other : (n == m) ≡ false = other_number n m (nodes_all es) x e d.0 (at_inside es i x (inside_at es i t x d.1 q r)) in
      subst (λ (o : Offer). IsOffered o m x) (sym (chosen_no (n == m) (Picks (count es) []) (offer_among es (y ∷ t) m) other))
      (offers_at es i (y ∷ t) t x m d.1 (tail_only (nodes_at es i) y t (at_outside es i y out) (only_all (nodes_at es i) t (part_inside_at es i t q))) q r e)) p s
  offers (If n a b) [] x m d p s e =
      let g : n ≡ m = number_is n m x e (test_has n _ x s) in
      subst (λ (o : Offer). IsOffered o m x) (sym (chosen_yes (n == m) Tests _ (let f : (n == m) ≡ true = grind (arith, nat_tests) in f))) (subst (λ (j : ℕ). IsTest j x) g s)
  offers (If n a b) (y ∷ t) x m d (inl p) s e = absurd (cc)
  offers (If n a b) (y ∷ t) x m d (inr p) s e =
      let out : is_of (nodes a ++ nodes b) y ≡ false = own_not n (nodes a ++ nodes b) y d.0 (test_has n _ y p) in
      some_says (λ r. Answered (λ u. Part a u) (λ u. Part b u) r t) (λ r. Answered (λ u. Step a u x) (λ u. Step b u x) r t) (IsOffered (offer (If n a b) (y ∷ t) m) m x) (test_of n y)
      (elim [
        | true ↦ λ q r.
            let inside : is_of (nodes a) x ≡ true = step_inside a t x (part_of_step a t x d.1 q r) in
            let other : (n == m) ≡ false = other_number n m (nodes a ++ nodes b) x e d.0 (is_of_yes (nodes a) (nodes b) x (inl inside)) in
            subst (λ (o : Offer). IsOffered o m x) (sym (chosen_no (n == m) Tests _ other ∙ of_first (has (nodes a) m) (has (nodes b) m) _ _ (has_of (nodes a) x m true e inside)))
            (subst (λ (u : List Entry). IsOffered (offer a u m) m x) (tail_only (nodes a) y t (is_of_no_left (nodes a) (nodes b) y out) (only_of_part a t q)) (offers a t x m d.1 q r e))
        | false ↦ λ q r.
            let inside : is_of (nodes b) x ≡ true = step_inside b t x (part_of_step b t x d.2 q r) in
            let outside : is_of (nodes a) x ≡ false = not_true (is_of (nodes a) x) (λ f. clash _ inside (d.3 x f)) in
            let other : (n == m) ≡ false = other_number n m (nodes a ++ nodes b) x e d.0 (is_of_yes (nodes a) (nodes b) x (inr inside)) in
            subst (λ (o : Offer). IsOffered o m x) (sym (chosen_no (n == m) Tests _ other ∙ of_second (has (nodes a) m) (has (nodes b) m) _ _ (has_of (nodes a) x m false e outside) (has_of (nodes b) x m true e inside)))
            (subst (λ (u : List Entry). IsOffered (offer b u m) m x) (tail_only (nodes b) y t (is_of_no_right (nodes a) (nodes b) y out) (only_of_part b t q)) (offers b t x m d.2 q r e))
      ]) p s
  offers (While n a) t x m d p s e =
      loop_says (λ u. Whole a u) (λ u. Part a u) (λ u. Step a u x) (IsTest n x) (IsOffered (offer (While n a) t m) m x) (turns n t)
      (λ q.
      let g : n ≡ m = number_is n m x e (test_has n _ x q) in
      subst (λ (o : Offer). IsOffered o m x) (sym (chosen_yes (n == m) Tests (offer a (last_body (turns n t)) m) (let f : (n == m) ≡ true = grind (arith, nat_tests) in f))) (subst (λ (j : ℕ). IsTest j x) g q))
      (λ u i q r.
      let other : (n == m) ≡ false = other_number n m (nodes a) x e d.0 (step_inside a u x (part_of_step a u x d.1 q r)) in
      subst (λ (o : Offer). IsOffered o m x) (sym (chosen_no (n == m) Tests (offer a (last_body (turns n t)) m) other))
      (subst (λ (v : List Entry). IsOffered (offer a v m) m x) i (offers a u x m d.1 q r e))) p.1 s

  offers_in_order : (es : Execs) (t : List Entry) (x : Entry) (m : ℕ) → ApartAll es → InOrder es t → StepInOrder es t x → number_of x ≡ Some m → IsOffered (offer_among es t m) m x
  offers_in_order None_left t x m d p s e = absurd s
  offers_in_order (Then a es) t x m d p (inl s) e =
      subst (λ (o : Offer). IsOffered o m x) (sym (chosen_yes (has (nodes a) m) _ _ (has_of (nodes a) x m true e s.0))) (offers a (only (nodes a) t) x m d.0 p.0 s.2 e)
  offers_in_order (Then a es) t x m d p (inr s) e =
      subst (λ (o : Offer). IsOffered o m x) (sym (chosen_no (has (nodes a) m) _ _ (has_of (nodes a) x m false e s.0))) (offers_in_order es t x m d.1 p.2 s.2 e)

  offers_of_one : (es : Execs) (t : List Entry) (x : Entry) (m : ℕ) → ApartAll es → EachPart es t → StepOfOne es t x → number_of x ≡ Some m → IsOffered (offer_among es t m) m x
  offers_of_one None_left t x m d p s e = absurd s
  offers_of_one (Then a es) t x m d p (inl s) e =
      subst (λ (o : Offer). IsOffered o m x) (sym (chosen_yes (has (nodes a) m) _ _ (has_of (nodes a) x m true e s.0))) (offers a (only (nodes a) t) x m d.0 p.0 s.1 e)
  offers_of_one (Then a es) t x m d p (inr s) e =
      subst (λ (o : Offer). IsOffered o m x) (sym (chosen_no (has (nodes a) m) _ _ (has_of (nodes a) x m false e s.0))) (offers_of_one es t x m d.1 p.1 s.1 e)

  offers_at : (es : Execs) (k : ℕ) (t u : List Entry) (x : Entry) (m : ℕ) → ApartAll es → u ≡ only (nodes_at es k) t → PartAt es k u → StepAt es k u x → number_of x ≡ Some m → IsOffered (offer_among es t m) m x
  offers_at None_left k t u x m d i p s e = absurd p
  offers_at (Then a es) zero t u x m d i p s e =
      subst (λ (o : Offer). IsOffered o m x) (sym (chosen_yes (has (nodes a) m) _ _ (has_of (nodes a) x m true e (step_inside a u x (part_of_step a u x d.0 p s)))))
      (subst (λ (v : List Entry). IsOffered (offer a v m) m x) i (offers a u x m d.0 p s e))
  offers_at (Then a es) (suc k) t u x m d i p s e =
      let inside : is_of (nodes_all es) x ≡ true = at_inside es k x (inside_at es k u x d.1 p s) in
      let outside : is_of (nodes a) x ≡ false = not_true (is_of (nodes a) x) (λ f. clash _ inside (d.2 x f)) in
      subst (λ (o : Offer). IsOffered o m x) (sym (chosen_no (has (nodes a) m) _ _ (has_of (nodes a) x m false e outside))) (offers_at es k t u x m d.1 i p s e)
