-- The way up from an element, by what holds the element and the way up from there.
use Rattle.std.specs.Prelude.{◌≡◌, ◌==◌, ℕ, zero, suc, true, false, List, [], ◌∷◌, ◌++◌, Option, Some}
use Rattle.std.proofs.Common.{refl, sym, ◌∙◌, ap, subst, arith}
use Rattle.std.proofs.lemmas.Bool.Decides.{nat_tests}
use Rattle.exec_tree.specs.Exec.{Exec, Work, Leaf, Plan, Par, NonSeq, Sel, If, While, Execs, None_left, Then, nodes, nodes_all, has, number_or_none, count, AreDistinct}
use Rattle.trace_law.specs.Next.{next_in_order}
use Rattle.trace_law.specs.Frames.{is_shared}
use Rattle.trace_law.proofs.StepLemmas.{here, distinct_right}
use Rattle.trace_law.proofs.OfferLemmas.{chosen_yes, chosen_no}
use Rattle.frame_law.specs.Executable.{executable_at, executable_among, own_number, element, behind}
use Rattle.frame_law.specs.Onward.{Onward, PicksOn, TestsAgain, opened_or, joined_or, onward, onward_in_order, onward_among}
use Rattle.frame_law.proofs.OutsideLemmas.{yes_left, yes_right, across_back}
use Rattle.frame_law.proofs.ChosenLemmas.{found_distinct}
use Rattle.frame_law.proofs.AlongLemmas.{not_in}
use Rattle.frame_law.proofs.ThroughLemmas.{through}

-- ---- an executable's own number

same : (n q : ℕ) → Some n ≡ Some q → (n == q) ≡ true
same n q e = let f : n ≡ q = cc in grind (arith, nat_tests)

pub own_found : (e : Exec) (n : ℕ) → own_number e ≡ Some n → executable_at e n ≡ e
own_found (Work a) n h = refl
own_found (Leaf a k) n h = refl
own_found (Plan a es) n h = chosen_yes (has (number_or_none a) n) _ _ (ap (λ (o : Option ℕ). has (number_or_none o) n) h ∙ here n n [] refl)
own_found (Par a es) n h = chosen_yes (a == n) _ _ (same a n h)
own_found (NonSeq a es) n h = chosen_yes (a == n) _ _ (same a n h)
own_found (Sel a es) n h = chosen_yes (a == n) _ _ (same a n h)
own_found (If a b c) n h = chosen_yes (a == n) _ _ (same a n h)
own_found (While a b) n h = chosen_yes (a == n) _ _ (same a n h)

pub own_onward : (e : Exec) (k : Onward) (n : ℕ) → own_number e ≡ Some n → onward e k n ≡ k
own_onward (Work a) k n h = refl
own_onward (Leaf a l) k n h = refl
own_onward (Plan a es) k n h = chosen_yes (has (number_or_none a) n) _ _ (ap (λ (o : Option ℕ). has (number_or_none o) n) h ∙ here n n [] refl)
own_onward (Par a es) k n h = chosen_yes (a == n) _ _ (same a n h)
own_onward (NonSeq a es) k n h = chosen_yes (a == n) _ _ (same a n h)
own_onward (Sel a es) k n h = chosen_yes (a == n) _ _ (same a n h)
own_onward (If a b c) k n h = chosen_yes (a == n) _ _ (same a n h)
own_onward (While a b) k n h = chosen_yes (a == n) _ _ (same a n h)

first_is : (a n : ℕ) (ns : List ℕ) → Some a ≡ Some n → has (a ∷ ns) n ≡ true
first_is a n ns h = let f : (a == n) ≡ true = same a n h in rw f refl

pub own_inside : (e : Exec) (n : ℕ) → own_number e ≡ Some n → has (nodes e) n ≡ true
own_inside (Work a) n h = first_is a n [] h
own_inside (Leaf a k) n h = first_is a n [] h
own_inside (Plan a es) n h = yes_left (number_or_none a) (nodes_all es) n (ap (λ (o : Option ℕ). has (number_or_none o) n) h ∙ here n n [] refl)
own_inside (Par a es) n h = first_is a n (nodes_all es) h
own_inside (NonSeq a es) n h = first_is a n (nodes_all es) h
own_inside (Sel a es) n h = first_is a n (nodes_all es) h
own_inside (If a b c) n h = first_is a n (nodes b ++ nodes c) h
own_inside (While a b) n h = first_is a n (nodes b) h

-- ---- elements

element_inside : (es : Execs) (i q : ℕ) → own_number (element es i) ≡ Some q → has (nodes_all es) q ≡ true
element_inside None_left i q h = absurd (cc)
element_inside (Then e es) zero q h = yes_left (nodes e) (nodes_all es) q (own_inside e q h)
element_inside (Then e es) (suc i) q h = yes_right (nodes e) (nodes_all es) q (element_inside es i q h)

element_found : (es : Execs) (i q : ℕ) → AreDistinct (nodes_all es) → own_number (element es i) ≡ Some q → executable_among es q ≡ element es i
element_found None_left i q d h = absurd (cc)
element_found (Then e es) zero q d h = chosen_yes (has (nodes e) q) _ _ (own_inside e q h) ∙ own_found e q h
element_found (Then e es) (suc i) q d h =
    chosen_no (has (nodes e) q) _ _ (across_back (nodes e) (nodes_all es) q d (element_inside es i q h)) ∙ element_found es i q (distinct_right (nodes e) (nodes_all es) d) h

element_in_order : (es : Execs) (i q : ℕ) (k : Onward) → AreDistinct (nodes_all es) → own_number (element es i) ≡ Some q → onward_in_order es k q ≡ opened_or (next_in_order (behind es i) []) (behind es i) k
element_in_order None_left i q k d h = absurd (cc)
element_in_order (Then e es) zero q k d h = chosen_yes (has (nodes e) q) _ _ (own_inside e q h) ∙ own_onward e (opened_or (next_in_order es []) es k) q h
element_in_order (Then e es) (suc i) q k d h =
    chosen_no (has (nodes e) q) _ _ (across_back (nodes e) (nodes_all es) q d (element_inside es i q h)) ∙ element_in_order es i q k (distinct_right (nodes e) (nodes_all es) d) h

element_among : (es : Execs) (i q : ℕ) (k : Onward) → AreDistinct (nodes_all es) → own_number (element es i) ≡ Some q → onward_among es k q ≡ k
element_among None_left i q k d h = absurd (cc)
element_among (Then e es) zero q k d h = chosen_yes (has (nodes e) q) _ _ (own_inside e q h) ∙ own_onward e k q h
element_among (Then e es) (suc i) q k d h =
    chosen_no (has (nodes e) q) _ _ (across_back (nodes e) (nodes_all es) q d (element_inside es i q h)) ∙ element_among es i q k (distinct_right (nodes e) (nodes_all es) d) h

-- ---- of what holds them, where that stands in a tree

-- f stands at node p of e; g, of number q, is found within, and j is its way in f where i is that of f
placed : (e f g : Exec) (k j : Onward) (p q : ℕ) → AreDistinct (nodes e) → executable_at e p ≡ f → (AreDistinct (nodes f) → (has (nodes f) q ≡ true) × (executable_at f q ≡ g) × (onward f (onward e k p) q ≡ j)) → (executable_at e q ≡ g) × (onward e k q ≡ j)
placed e f g k j p q d h say =
    let z = say (subst (λ (w : Exec). AreDistinct (nodes w)) h (found_distinct e p d)) in
    let t = through e k p q d (subst (λ (w : Exec). has (nodes w) q ≡ true) (sym h) z.0) in
    (t.0 ∙ (ap (λ (w : Exec). executable_at w q) h ∙ z.1), t.1 ∙ (ap (λ (w : Exec). onward w (onward e k p) q) h ∙ z.2))

pub of_plan : (e : Exec) (k : Onward) (p : Option ℕ) (at : ℕ) (es : Execs) (i q : ℕ) → AreDistinct (nodes e) → executable_at e at ≡ Plan p es → own_number (element es i) ≡ Some q → (executable_at e q ≡ element es i) × (onward e k q ≡ opened_or (next_in_order (behind es i) []) (behind es i) (onward e k at))
of_plan e k p at es i q d h own =
    placed e (Plan p es) (element es i) k _ at q d h
    (λ g.
    let in_es = element_inside es i q own in
    let out : has (number_or_none p) q ≡ false = across_back (number_or_none p) (nodes_all es) q g in_es in
    let r = distinct_right (number_or_none p) (nodes_all es) g in (
      yes_right (number_or_none p) (nodes_all es) q in_es,
      chosen_no (has (number_or_none p) q) _ _ out ∙ element_found es i q r own,
      chosen_no (has (number_or_none p) q) _ _ out ∙ element_in_order es i q (onward e k at) r own,
    ))

pub of_par : (e : Exec) (k : Onward) (p : ℕ) (es : Execs) (i q : ℕ) → AreDistinct (nodes e) → executable_at e p ≡ Par p es → own_number (element es i) ≡ Some q → (executable_at e q ≡ element es i) × (onward e k q ≡ joined_or (is_shared es) p (onward e k p))
of_par e k p es i q d h own =
    placed e (Par p es) (element es i) k _ p q d h
    (λ g.
    let in_es = element_inside es i q own in
    let out : (p == q) ≡ false = not_in p q (nodes_all es) g.0 in_es in (
      yes_right (p ∷ []) (nodes_all es) q in_es,
      chosen_no (p == q) _ _ out ∙ element_found es i q g.1 own,
      chosen_no (p == q) _ _ out ∙ element_among es i q _ g.1 own,
    ))

pub of_picks : (e : Exec) (k : Onward) (p : ℕ) (es : Execs) (i q : ℕ) → AreDistinct (nodes e) → executable_at e p ≡ NonSeq p es → own_number (element es i) ≡ Some q → (executable_at e q ≡ element es i) × (onward e k q ≡ PicksOn p (count es) (onward e k p))
of_picks e k p es i q d h own =
    placed e (NonSeq p es) (element es i) k _ p q d h
    (λ g.
    let in_es = element_inside es i q own in
    let out : (p == q) ≡ false = not_in p q (nodes_all es) g.0 in_es in (
      yes_right (p ∷ []) (nodes_all es) q in_es,
      chosen_no (p == q) _ _ out ∙ element_found es i q g.1 own,
      chosen_no (p == q) _ _ out ∙ element_among es i q _ g.1 own,
    ))

pub of_sel : (e : Exec) (k : Onward) (p : ℕ) (es : Execs) (i q : ℕ) → AreDistinct (nodes e) → executable_at e p ≡ Sel p es → own_number (element es i) ≡ Some q → (executable_at e q ≡ element es i) × (onward e k q ≡ onward e k p)
of_sel e k p es i q d h own =
    placed e (Sel p es) (element es i) k _ p q d h
    (λ g.
    let in_es = element_inside es i q own in
    let out : (p == q) ≡ false = not_in p q (nodes_all es) g.0 in_es in (
      yes_right (p ∷ []) (nodes_all es) q in_es,
      chosen_no (p == q) _ _ out ∙ element_found es i q g.1 own,
      chosen_no (p == q) _ _ out ∙ element_among es i q _ g.1 own,
    ))

pub of_yes : (e : Exec) (k : Onward) (p : ℕ) (a b : Exec) (q : ℕ) → AreDistinct (nodes e) → executable_at e p ≡ If p a b → own_number a ≡ Some q → (executable_at e q ≡ a) × (onward e k q ≡ onward e k p)
of_yes e k p a b q d h own =
    placed e (If p a b) a k _ p q d h
    (λ g.
    let in_a = own_inside a q own in
    let inside = yes_left (nodes a) (nodes b) q in_a in
    let out : (p == q) ≡ false = not_in p q (nodes a ++ nodes b) g.0 inside in (
      yes_right (p ∷ []) (nodes a ++ nodes b) q inside,
      chosen_no (p == q) _ _ out ∙ (chosen_yes (has (nodes a) q) _ _ in_a ∙ own_found a q own),
      chosen_no (p == q) _ _ out ∙ (chosen_yes (has (nodes a) q) _ _ in_a ∙ own_onward a _ q own),
    ))

pub of_no : (e : Exec) (k : Onward) (p : ℕ) (a b : Exec) (q : ℕ) → AreDistinct (nodes e) → executable_at e p ≡ If p a b → own_number b ≡ Some q → (executable_at e q ≡ b) × (onward e k q ≡ onward e k p)
of_no e k p a b q d h own =
    placed e (If p a b) b k _ p q d h
    (λ g.
    let in_b = own_inside b q own in
    let inside = yes_right (nodes a) (nodes b) q in_b in
    let out : (p == q) ≡ false = not_in p q (nodes a ++ nodes b) g.0 inside in
    let out_a : has (nodes a) q ≡ false = across_back (nodes a) (nodes b) q g.1 in_b in (
      yes_right (p ∷ []) (nodes a ++ nodes b) q inside,
      chosen_no (p == q) _ _ out ∙ (chosen_no (has (nodes a) q) _ _ out_a ∙ own_found b q own),
      chosen_no (p == q) _ _ out ∙ (chosen_no (has (nodes a) q) _ _ out_a ∙ own_onward b _ q own),
    ))

pub of_body : (e : Exec) (k : Onward) (p : ℕ) (a : Exec) (q : ℕ) → AreDistinct (nodes e) → executable_at e p ≡ While p a → own_number a ≡ Some q → (executable_at e q ≡ a) × (onward e k q ≡ TestsAgain p)
of_body e k p a q d h own =
    placed e (While p a) a k _ p q d h
    (λ g.
    let in_a = own_inside a q own in
    let out : (p == q) ≡ false = not_in p q (nodes a) g.0 in_a in (
      yes_right (p ∷ []) (nodes a) q in_a,
      chosen_no (p == q) _ _ out ∙ own_found a q own,
      chosen_no (p == q) _ _ out ∙ own_onward a _ q own,
    ))
