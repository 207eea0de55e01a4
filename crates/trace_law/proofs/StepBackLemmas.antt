-- What follows a Part, back: a Part and a step from it is a Part with one more entry.
use Rattle.std.specs.Prelude.{◌≡◌, ◌⊎◌, ◌<◌, ◌+◌, ℕ, zero, suc, Bool, true, false, ◌==◌, List, [], ◌∷◌, ◌++◌, Option, Some, None, IsSomeAnd, ⊤, pos}
use Rattle.std.proofs.Common.{refl, sym, ◌∙◌, ap, subst, inl, inr, arith, append_assoc}
use Rattle.std.proofs.lemmas.List.{append-nil}
use Rattle.std.proofs.lemmas.List.Elements.{filter-append}
use Rattle.std.proofs.lemmas.Bool.Decides.{nat_tests}
use Rattle.exec_tree.specs.Exec.{LeafKind, Assigning, Setting, Waiting, Noting, Exec, Work, Leaf, Plan, Par, NonSeq, Sel, If, While, Execs, None_left, Then, nodes, nodes_all, number_or_none, has, count}
use Rattle.trace_law.specs.Of.{is_of, only}
use Rattle.trace_law.specs.Whole.{IsCut, IsWork, IsLeaf, AreDistinctBelow, EachPicked, AfterPick, AfterTest, Answered, Whole, WholeAt}
use Rattle.trace_law.specs.Own.{picks, pick_of, test_of, Turn, Tested, lead, lead_by, turns, turns_by}
use Rattle.trace_law.specs.Part.{LastMayBeCut, IsLoopSoFar, Part, EachPart, InOrder, PartAt}
use Rattle.trace_law.specs.Elements.{joined, nodes_at, part_at, visits}
use Rattle.trace_law.specs.Step.{IsNewPick, IsTest, AtLast, StepPicked, StepTested, StepLoop, Step, StepInOrder, StepOfOne, StepAt}
use Rattle.run_log.specs.declared.entry.Entry.{Entry}
use Rattle.run_log.specs.declared.entry.Entry.TheVariants.{Dispatch, Block, End, Pick, Test, Assign, Set, Pass, Note}
use Rattle.trace_law.proofs.StepLemmas.{has-append, or_false_left, or_false_right, only_in, only_out, AllOf, AllOf-append, AllOf_last, AllOf_front, AllOf-only, AllOf-joined, AllOf_more_left, AllOf_more_right, is_of_left, is_of_right, not_of_left, not_of_right, SameParts, same_joined, same_in_order, same_each, Apart, ApartAll, here, leaf_has, pick_has, test_has, same_number}
use Rattle.trace_law.proofs.StepForthLemmas.{some_map, lead_other, turns_other, lead_test, turns_test, at_inside, at_outside, at_apart, pick_is, picks_more, picks_same, visits_same, visits_more, not_same_back, neither, each_map, last_not, part_of_whole, longer, lead_more}

-- ---- all entries of a Part are of its nodes

pub cut_inside : (n k : ℕ) (t : List Entry) → IsCut n k t → AllOf (n ∷ []) t
cut_inside n k [] w = absurd w
cut_inside n k (Block m j b ∷ t) w = (here n m [] w.0, cut_inside n (k + 1) t w.2)
cut_inside n k (End m ∷ []) w = (here n m [] w, tt)
cut_inside n k (End m ∷ x ∷ t) w = absurd w
cut_inside n k (x ∷ t) w = absurd w

pub work_inside : (n : ℕ) (t : List Entry) → IsWork n t → AllOf (n ∷ []) t
work_inside n [] w = absurd w
work_inside n (Dispatch m v ∷ t) w = (here n m [] w.0, cut_inside n 0 t w.1)
work_inside n (x ∷ t) w = absurd w

pub leaf_inside : (k : LeafKind) (n : ℕ) (t : List Entry) → IsLeaf k n t → AllOf (n ∷ []) t
leaf_inside k n [] w = absurd w
leaf_inside k n (x ∷ []) w = (leaf_has k n x w, tt)
leaf_inside k n (x ∷ y ∷ t) w = absurd w

pub all_at : (es : Execs) (k : ℕ) (t : List Entry) → AllOf (nodes_at es k) t → AllOf (nodes_all es) t
all_at es k [] p = tt
all_at es k (x ∷ t) p = (at_inside es k x p.0, all_at es k t p.1)

pub visits_inside : (n : ℕ) (es : Execs) (t : List Entry) (ks : List ℕ) → AllOf (n ∷ nodes_all es) (visits n es t ks)
visits_inside n es t [] = tt
visits_inside n es t (k ∷ ks) = (
  here n n (nodes_all es) refl,
  AllOf-append (n ∷ nodes_all es) (part_at es k t) (visits n es t ks)
      (AllOf_more_right (n ∷ []) (nodes_all es) (part_at es k t) (all_at es k (part_at es k t) (AllOf-only (nodes_at es k) t))) (visits_inside n es t ks),
)

abbrev pub EachBody : (List Entry → Type 0) → List Turn → Type 0
EachBody said [] = Unit {0}
EachBody said (Tested b t ∷ rest) = said t × EachBody said rest

-- the nodes of a while: its own tests, and the bodies' entries
pub loop_inside : (n : ℕ) (ns : List ℕ) (t : List Entry) → AllOf ns (lead n t) → EachBody (AllOf ns) (turns n t) → AllOf (n ∷ ns) t
loop_inside n ns [] l b = tt
loop_inside n ns (x ∷ t) l b = go (test_of n x) refl l b (loop_inside n ns t)
  where
    go : (o : Option Bool) → test_of n x ≡ o → AllOf ns (lead_by o x (lead n t)) → EachBody (AllOf ns) (turns_by o (lead n t) (turns n t)) → (AllOf ns (lead n t) → EachBody (AllOf ns) (turns n t) → AllOf (n ∷ ns) t) → AllOf (n ∷ ns) (x ∷ t)
    go None e l' b' f = (is_of_right (n ∷ []) ns x l'.0, f l'.1 b')
    go (Some c) e l' b' f = let q : IsTest n x = rw e tt in (is_of_left (n ∷ []) ns x (test_has n _ x q), f b'.0 b'.1)

pub bodies_inside : (whole part : List Entry → Type 0) (ns : List ℕ) (ts : List Turn) → ((u : List Entry) → part u → AllOf ns u) → ((u : List Entry) → whole u → part u) → IsLoopSoFar whole part ts → EachBody (AllOf ns) ts
bodies_inside whole part ns [] h w p = tt
bodies_inside whole part ns (Tested true t ∷ []) h w p = (h t p, tt)
bodies_inside whole part ns (Tested false t ∷ []) h w p = (rw p tt, tt)
bodies_inside whole part ns (Tested true t ∷ r ∷ rest) h w p = (h t (w t p.0), bodies_inside whole part ns (r ∷ rest) h w p.1)
bodies_inside whole part ns (Tested false t ∷ r ∷ rest) h w p = absurd p

pub chosen_inside : {A : Type 0} (n : ℕ) (ns : List ℕ) (f : Entry → Option A) (part : A → List Entry → Type 0) (x : Entry) (t : List Entry) → (IsSomeAnd (f x) (λ k. part k t) → is_of (n ∷ []) x ≡ true) → ((k : A) (u : List Entry) → part k u → AllOf ns u) → IsSomeAnd (f x) (λ k. part k t) → AllOf (n ∷ ns) (x ∷ t)
chosen_inside {A} n ns f part x t own h p = (is_of_left (n ∷ []) ns x (own p), AllOf_more_right (n ∷ []) ns t (go (f x) p))
  where
    go : (o : Option A) → IsSomeAnd o (λ k. part k t) → AllOf ns t
    go None q = absurd q
    go (Some k) q = h k t q

mutual
  pub part_inside : (e : Exec) (t : List Entry) → Part e t → AllOf (nodes e) t
  part_inside (Work n) t p = AllOf_front (n ∷ []) t p.0 (work_inside n (t ++ p.0) p.1)
  part_inside (Leaf n k) t p = AllOf_front (n ∷ []) t p.0 (leaf_inside k n (t ++ p.0) p.1)
  part_inside (Plan n es) t p = AllOf_more_right (number_or_none n) (nodes_all es) t (subst (AllOf (nodes_all es)) (sym p.0) (AllOf-joined es t))
  part_inside (Par n es) t p = AllOf_more_right (n ∷ []) (nodes_all es) t (subst (AllOf (nodes_all es)) p.0 (AllOf-only (nodes_all es) t))
  part_inside (NonSeq n es) t p = subst (AllOf (n ∷ nodes_all es)) (sym p.0) (visits_inside n es t (picks n t))
  part_inside (Sel n es) t (inl p) = rw p tt
  part_inside (Sel n es) [] (inr p) = tt
  part_inside (Sel n es) (x ∷ t) (inr p) = chosen_inside n (nodes_all es) (pick_of n) (λ k u. PartAt es k u) x t (λ q. pick_has n _ x q) (λ k u q. all_at es k u (part_inside_at es k u q)) p
  part_inside (If n a b) t (inl p) = rw p tt
  part_inside (If n a b) [] (inr p) = tt
  part_inside (If n a b) (x ∷ t) (inr p) =
      chosen_inside n (nodes a ++ nodes b) (test_of n) (Answered (λ u. Part a u) (λ u. Part b u)) x t (λ q. test_has n _ x q)
      (elim [ true ↦ λ u q. AllOf_more_left (nodes a) (nodes b) u (part_inside a u q) | false ↦ λ u q. AllOf_more_right (nodes a) (nodes b) u (part_inside b u q) ]) p
  part_inside (While n a) t p =
      loop_inside n (nodes a) t (rw p.0 tt) (bodies_inside (λ u. Whole a u) (λ u. Part a u) (nodes a) (turns n t) (λ u q. part_inside a u q) (λ u w. part_of_whole a u w) p.1)

  pub part_inside_at : (es : Execs) (k : ℕ) (t : List Entry) → PartAt es k t → AllOf (nodes_at es k) t
  part_inside_at None_left k t p = absurd p
  part_inside_at (Then e es) zero t p = part_inside e t p
  part_inside_at (Then e es) (suc k) t p = part_inside_at es k t p

-- ---- the empty list is a Part

mutual
  pub part_nil : (e : Exec) → Part e []
  part_nil (Work n) = (Dispatch n 0 ∷ End n ∷ [], (refl, refl))
  part_nil (Leaf n Assigning) = (Assign n (pos 0) ∷ [], refl)
  part_nil (Leaf n Setting) = (Set n ∷ [], refl)
  part_nil (Leaf n Waiting) = (Pass n ∷ [], refl)
  part_nil (Leaf n Noting) = (Note n ∷ [], refl)
  part_nil (Plan n es) = (sym (joined_nil es), order_nil es)
  part_nil (Par n es) = (refl, each_nil es)
  part_nil (NonSeq n es) = (refl, tt, tt)
  part_nil (Sel n es) = inl refl
  part_nil (If n a b) = inl refl
  part_nil (While n a) = (refl, tt)

  pub joined_nil : (es : Execs) → joined es [] ≡ []
  joined_nil None_left = refl
  joined_nil (Then e es) = joined_nil es

  pub order_nil : (es : Execs) → InOrder es []
  order_nil None_left = tt
  order_nil (Then e es) = (part_nil e, λ g. absurd (g (joined_nil es)), order_nil es)

  pub each_nil : (es : Execs) → EachPart es []
  each_nil None_left = tt
  each_nil (Then e es) = (part_nil e, each_nil es)

  pub at_nil : (es : Execs) (k : ℕ) → k < count es → PartAt es k []
  at_nil None_left k h = absurd (omega arith)
  at_nil (Then e es) zero h = part_nil e
  at_nil (Then e es) (suc k) h = at_nil es k (omega arith)

-- ---- lists with one more entry

pub same_in : (es : Execs) (t : List Entry) (x : Entry) → is_of (nodes_all es) x ≡ false → SameParts es t (t ++ x ∷ [])
same_in None_left t x h = tt
same_in (Then e es) t x h =
    (sym (only_out (nodes e) t x (not_of_left (nodes e) (nodes_all es) x h)), same_in es t x (not_of_right (nodes e) (nodes_all es) x h))

pub step_inside : (e : Exec) (t : List Entry) (x : Entry) → Part e (t ++ x ∷ []) → is_of (nodes e) x ≡ true
step_inside e t x p = AllOf_last (nodes e) t x (part_inside e (t ++ x ∷ []) p)

pub order_back_cons : (a : Exec) (es : Execs) (t : List Entry) (x : Entry) → ((y : Entry) → is_of (nodes a) y ≡ true → is_of (nodes_all es) y ≡ false) → (Part a (only (nodes a) t) → Step a (only (nodes a) t) x → Part a (only (nodes a) t ++ x ∷ [])) → (InOrder es t → StepInOrder es t x → InOrder es (t ++ x ∷ []) × (joined es (t ++ x ∷ []) ≡ joined es t ++ x ∷ [])) → InOrder (Then a es) t → StepInOrder (Then a es) t x → InOrder (Then a es) (t ++ x ∷ []) × (joined (Then a es) (t ++ x ∷ []) ≡ joined (Then a es) t ++ x ∷ [])
order_back_cons a es t x across rec1 rec2 p (inl s) =
    let io : only (nodes a) (t ++ x ∷ []) ≡ only (nodes a) t ++ x ∷ [] = only_in (nodes a) t x s.0 in
    let same : SameParts es t (t ++ x ∷ []) = same_in es t x (across x s.0) in
    let js : joined es (t ++ x ∷ []) ≡ [] = sym (same_joined es t (t ++ x ∷ []) same) ∙ s.1 in (
      (subst (Part a) (sym io) (rec1 p.0 s.2), λ g. absurd (g js), same_in_order es t (t ++ x ∷ []) same p.2),
      rw (io, js, s.1) (append-nil (only (nodes a) t ++ x ∷ []) ∙ ap (λ (w : List Entry). w ++ x ∷ []) (sym (append-nil (only (nodes a) t)))),
    )
order_back_cons a es t x across rec1 rec2 p (inr s) =
    let oe : only (nodes a) t ≡ only (nodes a) (t ++ x ∷ []) = sym (only_out (nodes a) t x s.0) in
    let z = rec2 p.2 s.2 in (
      (subst (Part a) oe p.0, λ g. subst (Whole a) oe s.1, z.0),
      ap (λ (w : List Entry). w ++ joined es (t ++ x ∷ [])) (sym oe) ∙ (ap (λ (w : List Entry). only (nodes a) t ++ w) z.1 ∙ sym (append_assoc (only (nodes a) t) (joined es t) (x ∷ []))),
    )

pub each_back_cons : (a : Exec) (es : Execs) (t : List Entry) (x : Entry) → ((y : Entry) → is_of (nodes a) y ≡ true → is_of (nodes_all es) y ≡ false) → (Part a (only (nodes a) t) → Step a (only (nodes a) t) x → Part a (only (nodes a) t ++ x ∷ [])) → (EachPart es t → StepOfOne es t x → EachPart es (t ++ x ∷ []) × (is_of (nodes_all es) x ≡ true)) → EachPart (Then a es) t → StepOfOne (Then a es) t x → EachPart (Then a es) (t ++ x ∷ []) × (is_of (nodes_all (Then a es)) x ≡ true)
each_back_cons a es t x across rec1 rec2 p (inl s) =
    ((subst (Part a) (sym (only_in (nodes a) t x s.0)) (rec1 p.0 s.1), same_each es t (t ++ x ∷ []) (same_in es t x (across x s.0)) p.1), is_of_left (nodes a) (nodes_all es) x s.0)
each_back_cons a es t x across rec1 rec2 p (inr s) =
    let z = rec2 p.1 s.1 in
    ((subst (Part a) (sym (only_out (nodes a) t x s.0)) p.0, z.0), is_of_right (nodes a) (nodes_all es) x z.1)

-- ---- a pick

pub only_none : (ms ns : List ℕ) (t : List Entry) → ((x : Entry) → is_of ms x ≡ true → is_of ns x ≡ false) → AllOf ms t → only ns t ≡ []
only_none ms ns [] h p = refl
only_none ms ns (x ∷ t) h p = rw (h x p.0) (only_none ms ns t h p.1)

pub visits_without : (n : ℕ) (es : Execs) (t : List Entry) (ks : List ℕ) (k : ℕ) → has (nodes_all es) n ≡ false → ApartAll es → has ks k ≡ false → only (nodes_at es k) (visits n es t ks) ≡ []
visits_without n es t [] k own d h = refl
visits_without n es t (j ∷ ks) k own d h =
    let out : has (nodes_at es k) n ≡ false = at_outside es k (Pick n j) own in
    let ne : j ≡ k → ⊥ = λ q. let g : (j == k) ≡ false = or_false_left (j == k) (has ks k) h in grind (arith, nat_tests) in
    rw (
      out,
      filter-append (is_of (nodes_at es k)) (part_at es j t) (visits n es t ks),
      only_none (nodes_at es j) (nodes_at es k) (part_at es j t) (λ y i. at_apart es j k y d ne i) (AllOf-only (nodes_at es j) t),
    )
    (visits_without n es t ks k own d (or_false_right (j == k) (has ks k) h))

-- ---- choices and loops

pub picked_back : (n c : ℕ) (part : ℕ → List Entry → Type 0) (step : ℕ → List Entry → Type 0) (t : List Entry) (x : Entry) → ((k : ℕ) (u : List Entry) → part k u → step k u → part k (u ++ x ∷ [])) → ((k : ℕ) → k < c → part k []) → (t ≡ []) ⊎ AfterPick n part t → StepPicked n (IsNewPick n c [] x) step t → AfterPick n part (t ++ x ∷ [])
picked_back n c part step [] x h r p s = some_map (λ k. (k < c) × (has [] k ≡ false)) (λ k. part k []) (pick_of n x) (λ k v. r k v.0) s
picked_back n c part step (y ∷ t) x h r (inl p) s = absurd (cc)
picked_back n c part step (y ∷ t) x h r (inr p) s = go (pick_of n y) p s
  where
    go : (o : Option ℕ) → IsSomeAnd o (λ k. part k t) → IsSomeAnd o (λ k. step k t) → IsSomeAnd o (λ k. part k (t ++ x ∷ []))
    go None q z = absurd q
    go (Some k) q z = h k t q z

pub tested_back : (n : ℕ) (part : Bool → List Entry → Type 0) (step : Bool → List Entry → Type 0) (t : List Entry) (x : Entry) → ((k : Bool) (u : List Entry) → part k u → step k u → part k (u ++ x ∷ [])) → ((k : Bool) → part k []) → (t ≡ []) ⊎ AfterTest n part t → StepTested n (IsTest n x) step t → AfterTest n part (t ++ x ∷ [])
tested_back n part step [] x h r p s = some_map (λ k. ⊤) (λ k. part k []) (test_of n x) (λ k v. r k) s
tested_back n part step (y ∷ t) x h r (inl p) s = absurd (cc)
tested_back n part step (y ∷ t) x h r (inr p) s = go (test_of n y) p s
  where
    go : (o : Option Bool) → IsSomeAnd o (λ k. part k t) → IsSomeAnd o (λ k. step k t) → IsSomeAnd o (λ k. part k (t ++ x ∷ []))
    go None q z = absurd q
    go (Some k) q z = h k t q z

pub loop_test_back : (whole part step : List Entry → Type 0) (test : Type 0) (b : Bool) (ts : List Turn) → part [] → IsLoopSoFar whole part ts → StepLoop test whole (λ u. ⊥) ts → IsLoopSoFar whole part (ts ++ Tested b [] ∷ [])
loop_test_back whole part step test true [] nil p s = nil
loop_test_back whole part step test false [] nil p s = refl
loop_test_back whole part step test b (Tested true t ∷ []) nil p (inr s) = absurd s
loop_test_back whole part step test true (Tested true t ∷ []) nil p (inl s) = (s.1, nil)
loop_test_back whole part step test false (Tested true t ∷ []) nil p (inl s) = (s.1, refl)
loop_test_back whole part step test b (Tested false t ∷ []) nil p s = absurd s
loop_test_back whole part step test b (Tested true t ∷ r ∷ rest) nil p s = (p.0, loop_test_back whole part step test b (r ∷ rest) nil p.1 s)
loop_test_back whole part step test b (Tested false t ∷ r ∷ rest) nil p s = absurd p

pub loop_other_back : (whole part : List Entry → Type 0) (step : List Entry → Type 0) (x : Entry) (ts : List Turn) → ((u : List Entry) → part u → step u → part (u ++ x ∷ [])) → IsLoopSoFar whole part ts → StepLoop ⊥ whole step ts → IsLoopSoFar whole part (longer ts x)
loop_other_back whole part step x [] h p s = absurd s
loop_other_back whole part step x (Tested true t ∷ []) h p (inl s) = absurd s.0
loop_other_back whole part step x (Tested true t ∷ []) h p (inr s) = h t p s
loop_other_back whole part step x (Tested false t ∷ []) h p s = absurd s
loop_other_back whole part step x (Tested true t ∷ Tested c u ∷ []) h p s = (p.0, loop_other_back whole part step x (Tested c u ∷ []) h p.1 s)
loop_other_back whole part step x (Tested true t ∷ r ∷ q ∷ rest) h p s = (p.0, loop_other_back whole part step x (r ∷ q ∷ rest) h p.1 s)
loop_other_back whole part step x (Tested false t ∷ Tested c u ∷ []) h p s = absurd p
loop_other_back whole part step x (Tested false t ∷ r ∷ q ∷ rest) h p s = absurd p

-- where the one kind of step can't be, it is the other
pub loop_not_step : (whole step step' : List Entry → Type 0) (test test' : Type 0) (ts : List Turn) → (test → test') → ((u : List Entry) → step u → step' u) → StepLoop test whole step ts → StepLoop test' whole step' ts
loop_not_step whole step step' test test' [] h g s = h s
loop_not_step whole step step' test test' (Tested true t ∷ []) h g (inl s) = inl (h s.0, s.1)
loop_not_step whole step step' test test' (Tested true t ∷ []) h g (inr s) = inr (g t s)
loop_not_step whole step step' test test' (Tested false t ∷ []) h g s = s
loop_not_step whole step step' test test' (r ∷ q ∷ rest) h g s = loop_not_step whole step step' test test' (q ∷ rest) h g s

pub lead_of_step : (whole part step : List Entry → Type 0) (ts : List Turn) (t : List Entry) (x : Entry) → t ≡ [] → StepLoop ⊥ whole step ts → lead_more ts t x ≡ []
lead_of_step whole part step [] t x e s = absurd s
lead_of_step whole part step (r ∷ ts) t x e s = e

-- a step that isn't of a body is a test
pub loop_not_some : (whole part step : List Entry → Type 0) (test : Type 0) (ts : List Turn) → ((u : List Entry) → part u → step u → ⊥) → IsLoopSoFar whole part ts → StepLoop test whole step ts → StepLoop test whole (λ u. ⊥) ts
loop_not_some whole part step test [] h p s = s
loop_not_some whole part step test (Tested true t ∷ []) h p (inl s) = inl s
loop_not_some whole part step test (Tested true t ∷ []) h p (inr s) = absurd (h t p s)
loop_not_some whole part step test (Tested false t ∷ []) h p s = s
loop_not_some whole part step test (Tested true t ∷ q ∷ rest) h p s = loop_not_some whole part step test (q ∷ rest) h p.1 s
loop_not_some whole part step test (Tested false t ∷ q ∷ rest) h p s = absurd p

pub while_back : (n : ℕ) (whole part step : List Entry → Type 0) (t : List Entry) (x : Entry) → ((u : List Entry) → part u → step u → part (u ++ x ∷ [])) → part [] → ((u : List Entry) → part u → step u → test_of n x ≡ None) → ((lead n t ≡ []) × IsLoopSoFar whole part (turns n t)) → StepLoop (IsTest n x) whole step (turns n t) → (lead n (t ++ x ∷ []) ≡ []) × IsLoopSoFar whole part (turns n (t ++ x ∷ []))
while_back n whole part step t x h nil other p s = go (test_of n x) refl
  where
    go : (o : Option Bool) → test_of n x ≡ o → (lead n (t ++ x ∷ []) ≡ []) × IsLoopSoFar whole part (turns n (t ++ x ∷ []))
    go (Some b) e = (
      lead_test n t x b e ∙ p.0,
      rw (turns_test n t x b e)
          (loop_test_back whole part (λ u. ⊥) (IsTest n x) b (turns n t) nil p.1 (loop_not_some whole part step (IsTest n x) (turns n t) (λ u v w. let g : test_of n x ≡ None = other u v w in let f : Some b ≡ None = sym e ∙ g in cc) p.1 s)),
    )
    go None e =
        let k = loop_not_step whole step step (IsTest n x) ⊥ (turns n t) (λ q. rw e at q) (λ u v. v) s in (
          lead_other n t x e ∙ lead_of_step whole part step (turns n t) (lead n t) x p.0 k,
          rw (turns_other n t x e) (loop_other_back whole part step x (turns n t) h p.1 k),
        )

-- ---- a pick, and a step of the last picked

pub distinct_add : (c : ℕ) (ks : List ℕ) (k : ℕ) → AreDistinctBelow c ks → k < c → has ks k ≡ false → AreDistinctBelow c (ks ++ k ∷ [])
distinct_add c [] k d b h = (b, refl, tt)
distinct_add c (j ∷ ks) k d b h = (
  d.0,
  has-append ks (k ∷ []) j ∙ neither (has ks j) (has (k ∷ []) j) d.1 (neither (k == j) false (not_same_back j k (or_false_left (j == k) (has ks k) h)) refl),
  distinct_add c ks k d.2 b (or_false_right (j == k) (has ks k) h),
)

pub last_add : (whole part : ℕ → Type 0) (ks : List ℕ) (k : ℕ) → EachPicked whole ks → part k → LastMayBeCut whole part (ks ++ k ∷ [])
last_add whole part [] k w p = p
last_add whole part (j ∷ []) k w p = (w.0, p)
last_add whole part (j ∷ i ∷ ks) k w p = (w.0, last_add whole part (i ∷ ks) k w.1 p)

pub pick_back : (n : ℕ) (es : Execs) (t : List Entry) (x : Entry) → has (nodes_all es) n ≡ false → ApartAll es → Part (NonSeq n es) t → IsNewPick n (count es) (picks n t) x → EachPicked (λ k. WholeAt es k (part_at es k t)) (picks n t) → Part (NonSeq n es) (t ++ x ∷ [])
pick_back n es t x own d p s whole = go (pick_of n x) refl s
  where
    go : (o : Option ℕ) → pick_of n x ≡ o → IsSomeAnd o (λ k. (k < count es) × (has (picks n t) k ≡ false)) → Part (NonSeq n es) (t ++ x ∷ [])
    go None e q = absurd q
    go (Some k) e q =
        let isp : x ≡ Pick n k = pick_is n x k e in
        let out : is_of (nodes_all es) x ≡ false = subst (λ (w : Entry). is_of (nodes_all es) w ≡ false) (sym isp) own in
        let same : (j : ℕ) → part_at es j t ≡ part_at es j (t ++ x ∷ []) = λ j. sym (only_out (nodes_at es j) t x (at_outside es j x out)) in
        let pk : picks n t ++ k ∷ [] ≡ picks n (t ++ x ∷ []) = sym (picks_more n t x k e) in
        let emp : part_at es k t ≡ [] = ap (λ (w : List Entry). only (nodes_at es k) w) p.0 ∙ visits_without n es t (picks n t) k own d q.1 in
        let e1 : t ++ x ∷ [] ≡ visits n es t (picks n t) ++ (Pick n k ∷ part_at es k t) =
        ap (λ (w : List Entry). w ++ x ∷ []) p.0 ∙ (ap (λ (w : Entry). visits n es t (picks n t) ++ w ∷ []) isp ∙ ap (λ (w : List Entry). visits n es t (picks n t) ++ (Pick n k ∷ w)) (sym emp)) in
        let e2 : t ++ x ∷ [] ≡ visits n es (t ++ x ∷ []) (picks n t ++ k ∷ []) =
        e1 ∙ (sym (visits_more n es t (picks n t) k) ∙ visits_same n es t (t ++ x ∷ []) (picks n t ++ k ∷ []) same) in (
          e2 ∙ ap (λ (w : List ℕ). visits n es (t ++ x ∷ []) w) pk,
          subst (AreDistinctBelow (count es)) pk (distinct_add (count es) (picks n t) k p.1 q.0 q.1),
          subst (LastMayBeCut (λ j. WholeAt es j (part_at es j (t ++ x ∷ []))) (λ j. PartAt es j (part_at es j (t ++ x ∷ [])))) pk
              (last_add (λ j. WholeAt es j (part_at es j (t ++ x ∷ []))) (λ j. PartAt es j (part_at es j (t ++ x ∷ []))) (picks n t) k
              (each_map (λ j. WholeAt es j (part_at es j t)) (λ j. WholeAt es j (part_at es j (t ++ x ∷ []))) (picks n t) (λ j v. subst (WholeAt es j) (same j) v) whole)
              (subst (PartAt es k) (sym emp ∙ same k) (at_nil es k q.0))),
        )

abbrev pub VisitedMore : ℕ → Execs → List Entry → Entry → List ℕ → Type 0
VisitedMore n es t x ks =
    (visits n es (t ++ x ∷ []) ks ≡ visits n es t ks ++ x ∷ [])
    × LastMayBeCut (λ k. WholeAt es k (part_at es k (t ++ x ∷ []))) (λ k. PartAt es k (part_at es k (t ++ x ∷ []))) ks
    × AtLast (λ k. is_of (nodes_at es k) x ≡ true) ks

pub visit_back : (n : ℕ) (es : Execs) (t : List Entry) (x : Entry) (c : ℕ) (ks : List ℕ) → ApartAll es → ((i : ℕ) (u : List Entry) → PartAt es i u → StepAt es i u x → PartAt es i (u ++ x ∷ [])) → AreDistinctBelow c ks → LastMayBeCut (λ k. WholeAt es k (part_at es k t)) (λ k. PartAt es k (part_at es k t)) ks → AtLast (λ k. StepAt es k (part_at es k t) x) ks → VisitedMore n es t x ks
visit_back n es t x c [] ap' rec d p s = absurd s
visit_back n es t x c (k ∷ []) ap' rec d p s =
    let z : PartAt es k (part_at es k t ++ x ∷ []) = rec k (part_at es k t) p s in
    let h : is_of (nodes_at es k) x ≡ true = AllOf_last (nodes_at es k) (part_at es k t) x (part_inside_at es k (part_at es k t ++ x ∷ []) z) in
    let io : part_at es k (t ++ x ∷ []) ≡ part_at es k t ++ x ∷ [] = only_in (nodes_at es k) t x h in (
      ap (λ (w : List Entry). Pick n k ∷ w) (append-nil (part_at es k (t ++ x ∷ [])) ∙ (io ∙ ap (λ (w : List Entry). w ++ x ∷ []) (sym (append-nil (part_at es k t))))),
      subst (PartAt es k) (sym io) z,
      h,
    )
visit_back n es t x c (k ∷ j ∷ ks) ap' rec d p s =
    let z = visit_back n es t x c (j ∷ ks) ap' rec d.2 p.1 s in
    let oe : part_at es k t ≡ part_at es k (t ++ x ∷ []) = sym (only_out (nodes_at es k) t x (last_not es x (j ∷ ks) k ap' d.1 z.2)) in (
      ap (λ (w : List Entry). Pick n k ∷ w)
          (ap (λ (w : List Entry). w ++ visits n es (t ++ x ∷ []) (j ∷ ks)) (sym oe) ∙ (ap (λ (w : List Entry). part_at es k t ++ w) z.0 ∙ sym (append_assoc (part_at es k t) (visits n es t (j ∷ ks)) (x ∷ [])))),
      (subst (WholeAt es k) oe p.0, z.1),
      z.2,
    )

pub last_at : (es : Execs) (x : Entry) (ks : List ℕ) → AtLast (λ k. is_of (nodes_at es k) x ≡ true) ks → is_of (nodes_all es) x ≡ true
last_at es x [] p = absurd p
last_at es x (k ∷ []) p = at_inside es k x p
last_at es x (k ∷ j ∷ ks) p = last_at es x (j ∷ ks) p

pub not_a_pick : (n : ℕ) (ns : List ℕ) (x : Entry) → has ns n ≡ false → is_of ns x ≡ true → pick_of n x ≡ None
not_a_pick n ns x own h = go (pick_of n x) refl
  where
    go : (o : Option ℕ) → pick_of n x ≡ o → pick_of n x ≡ None
    go None e = e
    go (Some k) e = let g : is_of ns x ≡ false = subst (λ (w : Entry). is_of ns w ≡ false) (sym (pick_is n x k e)) own in absurd (cc)

pub test_is : (n : ℕ) (x : Entry) (b : Bool) → test_of n x ≡ Some b → x ≡ Test n b
test_is n (Test m j) k e = go (m == n) refl
  where
    go : (b : Bool) → (m == n) ≡ b → Test m j ≡ Test n k
    go true q = let f : Some j ≡ Some k = rw q at e in let g : j ≡ k = cc in let h : m ≡ n = same_number m n q in rw (g, h) refl
    go false q = let f : None ≡ Some k = rw q at e in absurd (cc)
test_is n x k e = absurd (cc)

pub not_a_test : (n : ℕ) (ns : List ℕ) (x : Entry) → has ns n ≡ false → is_of ns x ≡ true → test_of n x ≡ None
not_a_test n ns x own h = go (test_of n x) refl
  where
    go : (o : Option Bool) → test_of n x ≡ o → test_of n x ≡ None
    go None e = e
    go (Some k) e = let g : is_of ns x ≡ false = subst (λ (w : Entry). is_of ns w ≡ false) (sym (test_is n x k e)) own in absurd (cc)

mutual
  pub part_of_step : (e : Exec) (t : List Entry) (x : Entry) → Apart e → Part e t → Step e t x → Part e (t ++ x ∷ [])
  part_of_step (Work n) t x d p s = (s.0, subst (IsWork n) (sym (append_assoc t (x ∷ []) s.0)) s.1)
  part_of_step (Leaf n k) t x d p s = ([], rw s.0 s.1)
  part_of_step (Plan n es) t x d p s =
      let z = order_back es t x d p.1 s in (ap (λ (w : List Entry). w ++ x ∷ []) p.0 ∙ sym z.1, z.0)
  part_of_step (Par n es) t x d p s =
      let z = each_back es t x d p.1 s in (only_in (nodes_all es) t x z.1 ∙ ap (λ (w : List Entry). w ++ x ∷ []) p.0, z.0)
  part_of_step (NonSeq n es) t x d p (inl s) = pick_back n es t x d.0 d.1 p s.0 s.1
  part_of_step (NonSeq n es) t x d p (inr s) =
      let z = visit_back n es t x (count es) (picks n t) d.1 (λ i u q r. at_back es i u x d.1 q r) p.1 p.2 s in
      let pk : picks n t ≡ picks n (t ++ x ∷ []) = sym (picks_same n t x (not_a_pick n (nodes_all es) x d.0 (last_at es x (picks n t) z.2))) in (
        ap (λ (w : List Entry). w ++ x ∷ []) p.0 ∙ (sym z.0 ∙ ap (λ (w : List ℕ). visits n es (t ++ x ∷ []) w) pk),
        subst (AreDistinctBelow (count es)) pk p.1,
        subst (LastMayBeCut (λ k. WholeAt es k (part_at es k (t ++ x ∷ []))) (λ k. PartAt es k (part_at es k (t ++ x ∷ [])))) pk z.1,
      )
  part_of_step (Sel n es) t x d p s = inr (picked_back n (count es) (λ k u. PartAt es k u) (λ k u. StepAt es k u x) t x (λ k u q r. at_back es k u x d.1 q r) (λ k h. at_nil es k h) p s)
  part_of_step (If n a b) t x d p s =
      inr (tested_back n (Answered (λ u. Part a u) (λ u. Part b u)) (Answered (λ u. Step a u x) (λ u. Step b u x)) t x
      (elim [ true ↦ λ u q r. part_of_step a u x d.1 q r | false ↦ λ u q r. part_of_step b u x d.2 q r ])
      (elim [ true ↦ part_nil a | false ↦ part_nil b ]) p s)
  part_of_step (While n a) t x d p s =
      while_back n (λ u. Whole a u) (λ u. Part a u) (λ u. Step a u x) t x (λ u q r. part_of_step a u x d.1 q r) (part_nil a)
      (λ u q r. not_a_test n (nodes a) x d.0 (step_inside a u x (part_of_step a u x d.1 q r))) p s

  order_back : (es : Execs) (t : List Entry) (x : Entry) → ApartAll es → InOrder es t → StepInOrder es t x → InOrder es (t ++ x ∷ []) × (joined es (t ++ x ∷ []) ≡ joined es t ++ x ∷ [])
  order_back None_left t x d p s = absurd s
  order_back (Then e es) t x d p s =
      order_back_cons e es t x d.2 (λ q r. part_of_step e (only (nodes e) t) x d.0 q r) (λ q r. order_back es t x d.1 q r) p s

  each_back : (es : Execs) (t : List Entry) (x : Entry) → ApartAll es → EachPart es t → StepOfOne es t x → EachPart es (t ++ x ∷ []) × (is_of (nodes_all es) x ≡ true)
  each_back None_left t x d p s = absurd s
  each_back (Then e es) t x d p s =
      each_back_cons e es t x d.2 (λ q r. part_of_step e (only (nodes e) t) x d.0 q r) (λ q r. each_back es t x d.1 q r) p s

  at_back : (es : Execs) (k : ℕ) (t : List Entry) (x : Entry) → ApartAll es → PartAt es k t → StepAt es k t x → PartAt es k (t ++ x ∷ [])
  at_back None_left k t x d p s = absurd s
  at_back (Then e es) zero t x d p s = part_of_step e t x d.0 p s
  at_back (Then e es) (suc k) t x d p s = at_back es k t x d.1 p s
