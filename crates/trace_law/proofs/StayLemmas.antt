-- What can go on stays where it is until it goes on itself.
use Rattle.std.specs.Prelude.{◌≡◌, ◌⊎◌, ◌+◌, ℕ, zero, suc, Bool, true, false, not, ◌||◌, ◌==◌, if◌then◌else◌, List, [], ◌∷◌, ◌++◌, length, is_some, option_map, Option, Some, None, IsSomeAnd, ⊤}
use Rattle.std.proofs.Common.{refl, sym, ◌∙◌, ap, subst, inl, inr, arith, append_assoc}
use Rattle.std.proofs.lemmas.List.{append-nil}
use Rattle.std.proofs.lemmas.Bool.Decides.{nat_tests}
use Rattle.exec_tree.specs.Exec.{LeafKind, Assigning, Setting, Waiting, Noting, Exec, Work, Leaf, Plan, Par, NonSeq, Sel, If, While, Execs, None_left, Then, nodes, nodes_all, has, count, works, works_all}
use Rattle.trace_law.specs.Of.{has_some, number_of, is_of, only}
use Rattle.trace_law.specs.Whole.{IsCut, IsWork, IsOfLeaf, Answered, Whole, WholeAt}
use Rattle.trace_law.specs.Own.{picks, pick_of, test_of, Turn, Tested, turns}
use Rattle.trace_law.specs.Part.{LastMayBeCut, IsLoopSoFar, Part, EachPart, InOrder, PartAt}
use Rattle.trace_law.specs.Elements.{nodes_at, part_at}
use Rattle.trace_law.specs.Next.{first_of_two, next_work, next_of_last, next_after, next_answered, next_loop, next, next_in_order, next_each, next_at}
use Rattle.trace_law.specs.Step.{IsTest, AtLast, StepLoop, Step, StepInOrder, StepOfOne, StepAt}
use Rattle.trace_law.specs.State.{is_cutting, keeps, is_open, stage, stage_from, stage_step, dispatched, ended, is_of_step}
use Rattle.run_log.specs.declared.entry.Entry.{Entry}
use Rattle.run_log.specs.declared.entry.Entry.TheVariants.{Dispatch, Block, End, Pick, Test, Assign, Set, Pass, Note, Edit}
use Rattle.trace_law.proofs.WholeNextLemmas.{empty_from_whole, empty_at, last_empty}
use Rattle.trace_law.proofs.StepLemmas.{has-append, only_in, only_out, SameParts, same_out, Apart, ApartAll, is_of-append, not_of_left, not_of_right, here, of_none, same_number, pick_has, test_has, leaf_has, next_has, next_has_at, work_has}
use Rattle.trace_law.proofs.StepForthLemmas.{longer, turns_other, picks_same, at_inside, step_of}
use Rattle.trace_law.proofs.StepBackLemmas.{step_inside, not_a_pick, not_a_test, part_of_step}

-- ---- bits

or_cases : (a b : Bool) → (a || b) ≡ true → (a ≡ true) ⊎ (b ≡ true)
or_cases true b e = inl refl
or_cases false b e = inr e

or_right : (a b : Bool) → b ≡ true → (a || b) ≡ true
or_right true b e = refl
or_right false b e = e

or_left : (a b : Bool) → a ≡ true → (a || b) ≡ true
or_left true b e = refl
or_left false b e = absurd (cc)

pub no_way : false ≡ true → ⊥
no_way e = cc

pub one : (n m : ℕ) → has (n ∷ []) m ≡ true → n ≡ m
one n m h = elim (or_cases (n == m) false h) [ inl e ↦ same_number n m e | inr e ↦ absurd (no_way e) ]

-- an entry of n that doesn't cut takes n away
gone : (m n : ℕ) (x : Entry) → is_cutting x ≡ false → is_of (n ∷ []) x ≡ true → has (n ∷ []) m ≡ true → keeps m x ≡ true → ⊥
gone m n x c o h k =
    let e : n ≡ m = one n m h in
    let p : is_of (m ∷ []) x ≡ true = subst (λ (j : ℕ). is_of (j ∷ []) x ≡ true) e o in
    let q : (false || not true) ≡ true = rw (c, p) at k in no_way q

pick_cuts_nothing : (n : ℕ) (said : ℕ → Type 0) (x : Entry) → IsSomeAnd (pick_of n x) said → is_cutting x ≡ false
pick_cuts_nothing n said (Pick m k) p = refl
pick_cuts_nothing n said x p = absurd p

test_cuts_nothing : (n : ℕ) (said : Bool → Type 0) (x : Entry) → IsSomeAnd (test_of n x) said → is_cutting x ≡ false
test_cuts_nothing n said (Test m k) p = refl
test_cuts_nothing n said x p = absurd p

leaf_cuts_nothing : (k : LeafKind) (n : ℕ) (x : Entry) → IsOfLeaf k n x → is_cutting x ≡ false
leaf_cuts_nothing Assigning n (Assign m v) e = refl
leaf_cuts_nothing Setting n (Set m) e = refl
leaf_cuts_nothing Waiting n (Pass m) e = refl
leaf_cuts_nothing Noting n (Note m) e = refl
leaf_cuts_nothing k n x e = absurd e

-- ---- lists of numbers

in_first : (xs ys : List ℕ) (x : Entry) (m : ℕ) → is_of xs x ≡ true → has (first_of_two xs ys) m ≡ true → has xs m ≡ true
in_first [] ys x m o h = absurd (of_none (number_of x) o)
in_first (n ∷ xs) ys x m o h = h

to_first : (xs ys : List ℕ) (m : ℕ) → has xs m ≡ true → has (first_of_two xs ys) m ≡ true
to_first [] ys m h = absurd (no_way h)
to_first (n ∷ xs) ys m h = h

to_second : (xs ys : List ℕ) (m : ℕ) → xs ≡ [] → has ys m ≡ true → has (first_of_two xs ys) m ≡ true
to_second xs ys m e h = rw e h

-- ---- steps

pub work_one : (n m : ℕ) (t : List Entry) → has (next_work n t) m ≡ true → has (n ∷ []) m ≡ true
work_one n m [] h = h
work_one n m (End j ∷ []) h = absurd (no_way h)
work_one n m (End j ∷ y ∷ t) h = work_one n m (y ∷ t) h
work_one n m (y ∷ t) h = work_one n m t h

is_of_next : (ns : List ℕ) (n : ℕ) (x : Entry) → is_of ns x ≡ true → ((m : ℕ) → has ns m ≡ true → has (n ∷ []) m ≡ true) → is_of (n ∷ []) x ≡ true
is_of_next ns n x h f = go (number_of x) h
  where
    go : (o : Option ℕ) → has_some ns o ≡ true → has_some (n ∷ []) o ≡ true
    go None e = absurd (no_way e)
    go (Some m) e = f m e

cut_stays : (n k m : ℕ) (t rest : List Entry) (x : Entry) → IsCut n k (t ++ x ∷ rest) → has (n ∷ []) m ≡ true → keeps m x ≡ true → has (next_work n (t ++ x ∷ [])) m ≡ true
cut_stays n k m [] rest (Block j i b) w h q = h
cut_stays n k m [] [] (End j) w h q = absurd (gone m n (End j) refl (here n j [] w) h q)
cut_stays n k m [] (y ∷ rest) (End j) w h q = absurd w
cut_stays n k m [] rest x w h q = absurd w
cut_stays n k m (Block j i b ∷ t) rest x w h q = cut_stays n (k + 1) m t rest x w.2 h q
cut_stays n k m (End j ∷ []) rest x w h q = absurd w
cut_stays n k m (End j ∷ y ∷ t) rest x w h q = absurd w
cut_stays n k m (y ∷ t) rest x w h q = absurd w

work_stays : (n m : ℕ) (t rest : List Entry) (x : Entry) → IsWork n (t ++ x ∷ rest) → has (n ∷ []) m ≡ true → keeps m x ≡ true → has (next_work n (t ++ x ∷ [])) m ≡ true
work_stays n m [] rest (Dispatch j v) w h q = h
work_stays n m [] rest x w h q = absurd w
work_stays n m (Dispatch j v ∷ t) rest x w h q = cut_stays n 0 m t rest x w.1 h q
work_stays n m (y ∷ t) rest x w h q = absurd w

-- ---- elements

same_next_each : (es : Execs) (t u : List Entry) → SameParts es t u → next_each es t ≡ next_each es u
same_next_each None_left t u s = refl
same_next_each (Then e es) t u s = rw (s.0, same_next_each es t u s.1) refl

last_stays : (whole part said : ℕ → Type 0) (f g : ℕ → List ℕ) (m : ℕ) (ks : List ℕ) → ((k : ℕ) → part k → said k → has (f k) m ≡ true → has (g k) m ≡ true) → LastMayBeCut whole part ks → AtLast said ks → has (next_of_last f ks) m ≡ true → has (next_of_last g ks) m ≡ true
last_stays whole part said f g m [] h p s q = absurd s
last_stays whole part said f g m (k ∷ []) h p s q = h k p s q
last_stays whole part said f g m (k ∷ j ∷ ks) h p s q = last_stays whole part said f g m (j ∷ ks) h p.1 s q

last_is_of : (whole part said : ℕ → Type 0) (f : ℕ → List ℕ) (x : Entry) (ks : List ℕ) → ((k : ℕ) → part k → said k → is_of (f k) x ≡ true) → LastMayBeCut whole part ks → AtLast said ks → is_of (next_of_last f ks) x ≡ true
last_is_of whole part said f x [] h p s = absurd s
last_is_of whole part said f x (k ∷ []) h p s = h k p s
last_is_of whole part said f x (k ∷ j ∷ ks) h p s = last_is_of whole part said f x (j ∷ ks) h p.1 s

last_inside_by : (whole part said : ℕ → Type 0) (ns : List ℕ) (x : Entry) (ks : List ℕ) → ((k : ℕ) → part k → said k → is_of ns x ≡ true) → LastMayBeCut whole part ks → AtLast said ks → is_of ns x ≡ true
last_inside_by whole part said ns x [] h p s = absurd s
last_inside_by whole part said ns x (k ∷ []) h p s = h k p s
last_inside_by whole part said ns x (k ∷ j ∷ ks) h p s = last_inside_by whole part said ns x (j ∷ ks) h p.1 s

left_one : (n m : ℕ) (b : Bool) → has (if b then [] else n ∷ []) m ≡ true → has (n ∷ []) m ≡ true
left_one n m true h = absurd (no_way h)
left_one n m false h = h

after_stays : {A : Type 0} (part later : A → List Entry → Type 0) (f : A → List Entry → List ℕ) (m : ℕ) (x : Entry) (o : Option A) (t : List Entry) → ((k : A) (u : List Entry) → part k u → later k u → has (f k u) m ≡ true → has (f k (u ++ x ∷ [])) m ≡ true) → IsSomeAnd o (λ k. part k t) → IsSomeAnd o (λ k. later k t) → has (next_after f o t) m ≡ true → has (next_after f o (t ++ x ∷ [])) m ≡ true
after_stays part later f m x None t h q p g = absurd p
after_stays part later f m x (Some k) t h q p g = h k t q p g

loop_stays : (n m : ℕ) (whole part step : List Entry → Type 0) (f : List Entry → List ℕ) (x : Entry) (ts : List Turn) → ((u : List Entry) → part u → step u → is_of (f u) x ≡ true) → ((u : List Entry) → part u → step u → has (f u) m ≡ true → has (f (u ++ x ∷ [])) m ≡ true) → IsLoopSoFar whole part ts → StepLoop ⊥ whole step ts → has (next_loop n f ts) m ≡ true → has (next_loop n f (longer ts x)) m ≡ true
loop_stays n m whole part step f x [] o h q p g = absurd p
loop_stays n m whole part step f x (Tested true t ∷ []) o h q (inl p) g = absurd p.0
loop_stays n m whole part step f x (Tested true t ∷ []) o h q (inr p) g =
    to_first (f (t ++ x ∷ [])) (n ∷ []) m (h t q p (in_first (f t) (n ∷ []) x m (o t q p) g))
loop_stays n m whole part step f x (Tested false t ∷ []) o h q p g = absurd p
loop_stays n m whole part step f x (Tested true t ∷ Tested b s ∷ []) o h q p g = loop_stays n m whole part step f x (Tested b s ∷ []) o h q.1 p g
loop_stays n m whole part step f x (Tested true t ∷ s ∷ r ∷ rest) o h q p g = loop_stays n m whole part step f x (s ∷ r ∷ rest) o h q.1 p g
loop_stays n m whole part step f x (Tested false t ∷ s ∷ rest) o h q p g = absurd q

-- a test comes where nothing of the body can go on
loop_tested : (n m : ℕ) (whole step : List Entry → Type 0) (test : Type 0) (f : List Entry → List ℕ) (ts : List Turn) → ((u : List Entry) → whole u → f u ≡ []) → ((u : List Entry) → step u → ⊥) → StepLoop test whole step ts → has (next_loop n f ts) m ≡ true → has (n ∷ []) m ≡ true
loop_tested n m whole step test f [] w h p g = g
loop_tested n m whole step test f (Tested true t ∷ []) w h (inl p) g = rw (w t p.1) at g
loop_tested n m whole step test f (Tested true t ∷ []) w h (inr p) g = absurd (h t p)
loop_tested n m whole step test f (Tested false t ∷ []) w h p g = absurd p
loop_tested n m whole step test f (r ∷ s ∷ rest) w h p g = loop_tested n m whole step test f (s ∷ rest) w h p g

loop_only : (whole step step' : List Entry → Type 0) (test test' : Type 0) (ts : List Turn) → (test → test') → ((u : List Entry) → step u → step' u) → StepLoop test whole step ts → StepLoop test' whole step' ts
loop_only whole step step' test test' [] h g p = h p
loop_only whole step step' test test' (Tested true t ∷ []) h g (inl p) = inl (h p.0, p.1)
loop_only whole step step' test test' (Tested true t ∷ []) h g (inr p) = inr (g t p)
loop_only whole step step' test test' (Tested false t ∷ []) h g p = p
loop_only whole step step' test test' (r ∷ s ∷ rest) h g p = loop_only whole step step' test test' (s ∷ rest) h g p

loop_none : (whole part step : List Entry → Type 0) (test : Type 0) (ts : List Turn) → ((u : List Entry) → part u → step u → ⊥) → IsLoopSoFar whole part ts → StepLoop test whole step ts → StepLoop test whole (λ u. ⊥) ts
loop_none whole part step test [] h q p = p
loop_none whole part step test (Tested true t ∷ []) h q (inl p) = inl p
loop_none whole part step test (Tested true t ∷ []) h q (inr p) = absurd (h t q p)
loop_none whole part step test (Tested false t ∷ []) h q p = p
loop_none whole part step test (Tested true t ∷ s ∷ rest) h q p = loop_none whole part step test (s ∷ rest) h q.1 p
loop_none whole part step test (Tested false t ∷ s ∷ rest) h q p = absurd q

no_test : (n : ℕ) (x : Entry) → test_of n x ≡ None → IsTest n x → ⊥
no_test n x e p = rw e at p

is_test : (n : ℕ) (x : Entry) (b : Bool) → test_of n x ≡ Some b → IsTest n x
is_test n x b e = rw e tt

none_after_some : (n : ℕ) (x : Entry) (b : Bool) → test_of n x ≡ Some b → test_of n x ≡ None → ⊥
none_after_some n x b e f = let g : Some b ≡ None = sym e ∙ f in cc

each_stays : (xs xs' ys ys' : List ℕ) (m : ℕ) → (has xs m ≡ true → has xs' m ≡ true) → (has ys m ≡ true → has ys' m ≡ true) → has (xs ++ ys) m ≡ true → has (xs' ++ ys') m ≡ true
each_stays xs xs' ys ys' m f g h =
    has-append xs' ys' m ∙ elim (or_cases (has xs m) (has ys m) (sym (has-append xs ys m) ∙ h)) [ inl q ↦ or_left (has xs' m) (has ys' m) (f q) | inr q ↦ or_right (has xs' m) (has ys' m) (g q) ]

pub inside_at : (es : Execs) (i : ℕ) (t : List Entry) (x : Entry) → ApartAll es → PartAt es i t → StepAt es i t x → is_of (nodes_at es i) x ≡ true
inside_at None_left i t x d p s = absurd p
inside_at (Then e es) zero t x d p s = step_inside e t x (part_of_step e t x d.0 p s)
inside_at (Then e es) (suc i) t x d p s = inside_at es i t x d.1 p s

while_stays : (n m : ℕ) (whole part step : List Entry → Type 0) (f : List Entry → List ℕ) (ns : List ℕ) (x : Entry) (t : List Entry) → has ns n ≡ false → keeps m x ≡ true → ((u : List Entry) → part u → step u → is_of (f u) x ≡ true) → ((u : List Entry) → part u → step u → has (f u) m ≡ true → has (f (u ++ x ∷ [])) m ≡ true) → ((u : List Entry) → whole u → f u ≡ []) → ((u : List Entry) → part u → step u → is_of ns x ≡ true) → IsLoopSoFar whole part (turns n t) → StepLoop (IsTest n x) whole step (turns n t) → has (next_loop n f (turns n t)) m ≡ true → has (next_loop n f (turns n (t ++ x ∷ []))) m ≡ true
while_stays n m whole part step f ns x t own k o h w i p s g = go (test_of n x) refl
  where
    go : (r : Option Bool) → test_of n x ≡ r → has (next_loop n f (turns n (t ++ x ∷ []))) m ≡ true
    go (Some b) e =
        let s' : StepLoop (IsTest n x) whole (λ u. ⊥) (turns n t) = loop_none whole part step (IsTest n x) (turns n t) (λ u q r. none_after_some n x b e (not_a_test n ns x own (i u q r))) p s in
        absurd (gone m n x (test_cuts_nothing n (λ b. ⊤) x (is_test n x b e)) (test_has n (λ b. ⊤) x (is_test n x b e)) (loop_tested n m whole (λ u. ⊥) (IsTest n x) f (turns n t) w (λ u q. q) s' g) k)
    go None e =
        subst (λ (ts : List Turn). has (next_loop n f ts) m ≡ true) (sym (turns_other n t x e))
        (loop_stays n m whole part step f x (turns n t) o h p (loop_only whole step step (IsTest n x) ⊥ (turns n t) (no_test n x e) (λ u q. q) s) g)

mutual
  pub stays : (e : Exec) (t : List Entry) (x : Entry) (m : ℕ) → Apart e → Part e t → Step e t x → keeps m x ≡ true → has (next e t) m ≡ true → has (next e (t ++ x ∷ [])) m ≡ true
  stays (Work n) t x m d p s k h = work_stays n m t s.0 x s.1 (work_one n m t h) k
  stays (Leaf n l) [] x m d p s k h = absurd (gone m n x (leaf_cuts_nothing l n x s.1) (leaf_has l n x s.1) h k)
  stays (Leaf n l) (y ∷ t) x m d p s k h = absurd (no_way h)
  stays (Plan n es) t x m d p s k h = stays_in_order es t x m d p.1 s k h
  stays (Par n es) t x m d p s k h = stays_of_one es t x m d p.1 s k h
  stays (NonSeq n es) t x m d p (inl s) k h =
      let none : next_of_last (λ i. next_at es i (part_at es i t)) (picks n t) ≡ [] =
      last_empty (λ i. WholeAt es i (part_at es i t)) (λ i. next_at es i (part_at es i t)) (picks n t) (λ i v. empty_at es i (part_at es i t) v) s.1 in
      absurd (gone m n x (pick_cuts_nothing n _ x s.0) (pick_has n _ x s.0) (left_one n m (length (picks n t) == count es) (rw none at h)) k)
  stays (NonSeq n es) t x m d p (inr s) k h =
      let inside : is_of (nodes_all es) x ≡ true =
      last_inside_by (λ i. WholeAt es i (part_at es i t)) (λ i. PartAt es i (part_at es i t)) (λ i. StepAt es i (part_at es i t) x) (nodes_all es) x (picks n t)
      (λ i q r. at_inside es i x (inside_at es i (part_at es i t) x d.1 q r)) p.2 s in
      let same : picks n (t ++ x ∷ []) ≡ picks n t = picks_same n t x (not_a_pick n (nodes_all es) x d.0 inside) in
      let here_is : is_of (next_of_last (λ i. next_at es i (part_at es i t)) (picks n t)) x ≡ true =
      last_is_of (λ i. WholeAt es i (part_at es i t)) (λ i. PartAt es i (part_at es i t)) (λ i. StepAt es i (part_at es i t) x) (λ i. next_at es i (part_at es i t)) x (picks n t)
      (λ i q r. next_has_at es i (part_at es i t) x q r) p.2 s in
      let last : has (next_of_last (λ i. next_at es i (part_at es i (t ++ x ∷ []))) (picks n t)) m ≡ true =
      last_stays (λ i. WholeAt es i (part_at es i t)) (λ i. PartAt es i (part_at es i t)) (λ i. StepAt es i (part_at es i t) x) (λ i. next_at es i (part_at es i t))
      (λ i. next_at es i (part_at es i (t ++ x ∷ []))) m (picks n t)
      (λ i q r g. subst (λ (u : List Entry). has (next_at es i u) m ≡ true) (sym (only_in (nodes_at es i) t x (inside_at es i (part_at es i t) x d.1 q r))) (stays_at es i (part_at es i t) x m d.1 q r k g))
      p.2 s (in_first _ _ x m here_is h) in
      to_first _ _ m (subst (λ (ks : List ℕ). has (next_of_last (λ i. next_at es i (part_at es i (t ++ x ∷ []))) ks) m ≡ true) (sym same) last)
  stays (Sel n es) [] x m d p s k h = absurd (gone m n x (pick_cuts_nothing n _ x s) (pick_has n _ x s) h k)
  stays (Sel n es) (y ∷ t) x m d (inl p) s k h = absurd (cc)
  stays (Sel n es) (y ∷ t) x m d (inr p) s k h =
      after_stays (λ i u. PartAt es i u) (λ i u. StepAt es i u x) (λ i u. next_at es i u) m x (pick_of n y) t (λ i u q r g. stays_at es i u x m d.1 q r k g) p s h
  stays (If n a b) [] x m d p s k h = absurd (gone m n x (test_cuts_nothing n _ x s) (test_has n _ x s) h k)
  stays (If n a b) (y ∷ t) x m d (inl p) s k h = absurd (cc)
  stays (If n a b) (y ∷ t) x m d (inr p) s k h =
      after_stays (Answered (λ u. Part a u) (λ u. Part b u)) (Answered (λ u. Step a u x) (λ u. Step b u x)) (next_answered (λ u. next a u) (λ u. next b u)) m x (test_of n y) t
      (elim [ true ↦ λ u q r g. stays a u x m d.1 q r k g | false ↦ λ u q r g. stays b u x m d.2 q r k g ]) p s h
  stays (While n a) t x m d p s k h =
      while_stays n m (λ u. Whole a u) (λ u. Part a u) (λ u. Step a u x) (λ u. next a u) (nodes a) x t d.0 k (λ u q r. next_has a u x q r) (λ u q r g. stays a u x m d.1 q r k g)
      (λ u v. empty_from_whole a u v) (λ u q r. step_inside a u x (part_of_step a u x d.1 q r)) p.1 s h

  stays_in_order : (es : Execs) (t : List Entry) (x : Entry) (m : ℕ) → ApartAll es → InOrder es t → StepInOrder es t x → keeps m x ≡ true → has (next_in_order es t) m ≡ true → has (next_in_order es (t ++ x ∷ [])) m ≡ true
  stays_in_order None_left t x m d p s k h = absurd s
  stays_in_order (Then e es) t x m d p (inl s) k h =
      let g : has (next e (only (nodes e) t)) m ≡ true = in_first (next e (only (nodes e) t)) (next_in_order es t) x m (next_has e (only (nodes e) t) x p.0 s.2) h in
      to_first (next e (only (nodes e) (t ++ x ∷ []))) (next_in_order es (t ++ x ∷ [])) m
      (subst (λ (u : List Entry). has (next e u) m ≡ true) (sym (only_in (nodes e) t x s.0)) (stays e (only (nodes e) t) x m d.0 p.0 s.2 k g))
  stays_in_order (Then e es) t x m d p (inr s) k h =
      let none : next e (only (nodes e) t) ≡ [] = empty_from_whole e (only (nodes e) t) s.1 in
      to_second (next e (only (nodes e) (t ++ x ∷ []))) (next_in_order es (t ++ x ∷ [])) m (ap (λ (u : List Entry). next e u) (only_out (nodes e) t x s.0) ∙ none)
      (stays_in_order es t x m d.1 p.2 s.2 k (rw none at h))

  stays_of_one : (es : Execs) (t : List Entry) (x : Entry) (m : ℕ) → ApartAll es → EachPart es t → StepOfOne es t x → keeps m x ≡ true → has (next_each es t) m ≡ true → has (next_each es (t ++ x ∷ [])) m ≡ true
  stays_of_one None_left t x m d p s k h = absurd s
  stays_of_one (Then e es) t x m d p (inl s) k h =
      each_stays (next e (only (nodes e) t)) (next e (only (nodes e) (t ++ x ∷ []))) (next_each es t) (next_each es (t ++ x ∷ [])) m
      (λ g. subst (λ (u : List Entry). has (next e u) m ≡ true) (sym (only_in (nodes e) t x s.0)) (stays e (only (nodes e) t) x m d.0 p.0 s.1 k g))
      (λ g. subst (λ (ns : List ℕ). has ns m ≡ true) (sym (same_next_each es (t ++ x ∷ []) t (same_out es t x (d.2 x s.0)))) g) h
  stays_of_one (Then e es) t x m d p (inr s) k h =
      each_stays (next e (only (nodes e) t)) (next e (only (nodes e) (t ++ x ∷ []))) (next_each es t) (next_each es (t ++ x ∷ [])) m
      (λ g. subst (λ (u : List Entry). has (next e u) m ≡ true) (sym (only_out (nodes e) t x s.0)) g)
      (λ g. stays_of_one es t x m d.1 p.1 s.1 k g) h

  stays_at : (es : Execs) (i : ℕ) (t : List Entry) (x : Entry) (m : ℕ) → ApartAll es → PartAt es i t → StepAt es i t x → keeps m x ≡ true → has (next_at es i t) m ≡ true → has (next_at es i (t ++ x ∷ [])) m ≡ true
  stays_at None_left i t x m d p s k h = absurd p
  stays_at (Then e es) zero t x m d p s k h = stays e t x m d.0 p s k h
  stays_at (Then e es) (suc i) t x m d p s k h = stays_at es i t x m d.1 p s k h

-- ---- what is open, with one more entry

pub stage_snoc : (n : ℕ) (o : Option ℕ) (t : List Entry) (x : Entry) → stage_from n o (t ++ x ∷ []) ≡ stage_step n (stage_from n o t) x
stage_snoc n o [] x = refl
stage_snoc n o (y ∷ t) x = stage_snoc n (stage_step n o y) t x

some_more : (o : Option ℕ) → is_some (option_map (λ j. j + 1) o) ≡ true → is_some o ≡ true
some_more None h = h
some_more (Some k) h = refl

clash_open : (n m : ℕ) → (m == n) ≡ true → has (n ∷ []) m ≡ false → ⊥
clash_open n m e d = let f : (n == m) ≡ true = grind (arith, nat_tests) in no_way (let g : (true || false) ≡ false = rw f at d in sym g)

-- what is open after an entry that doesn't dispatch it was open, and the entry isn't its end
was_open : (n : ℕ) (o : Option ℕ) (x : Entry) → has_some (n ∷ []) (dispatched x) ≡ false → is_some (stage_step n o x) ≡ true → (is_some o ≡ true) × (has_some (n ∷ []) (ended x) ≡ false)
was_open n o (Dispatch m v) d h = go (m == n) refl
  where
    go : (b : Bool) → (m == n) ≡ b → (is_some o ≡ true) × (false ≡ false)
    go true e = absurd (clash_open n m e d)
    go false e = (rw e at h, refl)
was_open n o (Block m k b) d h = go (m == n) refl
  where
    go : (c : Bool) → (m == n) ≡ c → (is_some o ≡ true) × (false ≡ false)
    go true e = (some_more o (rw e at h), refl)
    go false e = (rw e at h, refl)
was_open n o (End m) d h = go (m == n) refl
  where
    go : (b : Bool) → (m == n) ≡ b → (is_some o ≡ true) × (has_some (n ∷ []) (Some m) ≡ false)
    go true e = absurd (no_way (rw e at h))
    go false e = (rw e at h, let f : (n == m) ≡ false = grind (arith, nat_tests) in rw f refl)
was_open n o (Pick m k) d h = (h, refl)
was_open n o (Test m b) d h = (h, refl)
was_open n o (Assign m v) d h = (h, refl)
was_open n o (Set m) d h = (h, refl)
was_open n o (Pass m) d h = (h, refl)
was_open n o (Note m) d h = (h, refl)
was_open n o (Edit i v) d h = (h, refl)

-- ---- the kinds of entries of steps

no_number : (ns : List ℕ) → ns ≡ [] → (x : Entry) → is_of ns x ≡ false
no_number ns e x = rw e (none (number_of x))
  where
    none : (o : Option ℕ) → has_some [] o ≡ false
    none None = refl
    none (Some n) = refl

both_false : (ms ns : List ℕ) (x : Entry) → is_of ms x ≡ false → is_of ns x ≡ false → is_of (ms ++ ns) x ≡ false
both_false ms ns x e f = is_of-append ms ns x ∙ rw (e, f) refl

first_false : (ms ns : List ℕ) (x : Entry) (b : Bool) → is_of ms x ≡ false → is_of ns x ≡ b → is_of (ms ++ ns) x ≡ b
first_false ms ns x b e f = is_of-append ms ns x ∙ rw (e, f) refl

or_false : (b : Bool) → (b || false) ≡ b
or_false true = refl
or_false false = refl

second_false : (ms ns : List ℕ) (x : Entry) (b : Bool) → is_of ms x ≡ b → is_of ns x ≡ false → is_of (ms ++ ns) x ≡ b
second_false ms ns x b e f = is_of-append ms ns x ∙ rw (e, f) (or_false b)

mutual
  works_outside : (e : Exec) (x : Entry) → is_of (nodes e) x ≡ false → is_of (works e) x ≡ false
  works_outside (Work n) x h = h
  works_outside (Leaf n k) x h = no_number [] refl x
  works_outside (Plan None es) x h = works_outside_all es x h
  works_outside (Plan (Some n) es) x h = works_outside_all es x (not_of_right (n ∷ []) (nodes_all es) x h)
  works_outside (Par n es) x h = works_outside_all es x (not_of_right (n ∷ []) (nodes_all es) x h)
  works_outside (NonSeq n es) x h = works_outside_all es x (not_of_right (n ∷ []) (nodes_all es) x h)
  works_outside (Sel n es) x h = works_outside_all es x (not_of_right (n ∷ []) (nodes_all es) x h)
  works_outside (If n a b) x h =
      let g : is_of (nodes a ++ nodes b) x ≡ false = not_of_right (n ∷ []) (nodes a ++ nodes b) x h in
      both_false (works a) (works b) x (works_outside a x (not_of_left (nodes a) (nodes b) x g)) (works_outside b x (not_of_right (nodes a) (nodes b) x g))
  works_outside (While n a) x h = works_outside a x (not_of_right (n ∷ []) (nodes a) x h)

  works_outside_all : (es : Execs) (x : Entry) → is_of (nodes_all es) x ≡ false → is_of (works_all es) x ≡ false
  works_outside_all None_left x h = h
  works_outside_all (Then e es) x h =
      both_false (works e) (works_all es) x (works_outside e x (not_of_left (nodes e) (nodes_all es) x h)) (works_outside_all es x (not_of_right (nodes e) (nodes_all es) x h))

cut_kind : (n k : ℕ) (t rest : List Entry) (x : Entry) → IsCut n k (t ++ x ∷ rest) → is_of_step x ≡ true
cut_kind n k [] rest (Block m j b) w = refl
cut_kind n k [] rest (End m) w = refl
cut_kind n k [] rest x w = absurd w
cut_kind n k (Block m j b ∷ t) rest x w = cut_kind n (k + 1) t rest x w.2
cut_kind n k (End m ∷ []) rest x w = absurd w
cut_kind n k (End m ∷ y ∷ t) rest x w = absurd w
cut_kind n k (y ∷ t) rest x w = absurd w

work_kind : (n : ℕ) (t rest : List Entry) (x : Entry) → IsWork n (t ++ x ∷ rest) → is_of_step x ≡ true
work_kind n [] rest (Dispatch m v) w = refl
work_kind n [] rest x w = absurd w
work_kind n (Dispatch m v ∷ t) rest x w = cut_kind n 0 t rest x w.1
work_kind n (y ∷ t) rest x w = absurd w

leaf_kind : (k : LeafKind) (n : ℕ) (x : Entry) → IsOfLeaf k n x → is_of_step x ≡ false
leaf_kind Assigning n (Assign m v) e = refl
leaf_kind Setting n (Set m) e = refl
leaf_kind Waiting n (Pass m) e = refl
leaf_kind Noting n (Note m) e = refl
leaf_kind k n x e = absurd e

pick_kind : (n : ℕ) (said : ℕ → Type 0) (x : Entry) → IsSomeAnd (pick_of n x) said → is_of_step x ≡ false
pick_kind n said (Pick m k) p = refl
pick_kind n said x p = absurd p

test_kind : (n : ℕ) (said : Bool → Type 0) (x : Entry) → IsSomeAnd (test_of n x) said → is_of_step x ≡ false
test_kind n said (Test m k) p = refl
test_kind n said x p = absurd p

-- an own entry of n is of no element, where n is none of theirs
own_outside : (n : ℕ) (ns : List ℕ) (x : Entry) → has ns n ≡ false → is_of (n ∷ []) x ≡ true → is_of ns x ≡ false
own_outside n ns x d o = go (number_of x) o
  where
    go : (r : Option ℕ) → has_some (n ∷ []) r ≡ true → has_some ns r ≡ false
    go None h = refl
    go (Some m) h = subst (λ (j : ℕ). has ns j ≡ false) (one n m h) d

some_says : {A : Type 0} (P Q : A → Type 0) (G : Type 0) (o : Option A) → ((a : A) → P a → Q a → G) → IsSomeAnd o P → IsSomeAnd o Q → G
some_says P Q G None h p q = absurd p
some_says P Q G (Some a) h p q = h a p q

last_says : (whole part said : ℕ → Type 0) (G : Type 0) (ks : List ℕ) → ((k : ℕ) → part k → said k → G) → LastMayBeCut whole part ks → AtLast said ks → G
last_says whole part said G [] h p s = absurd s
last_says whole part said G (k ∷ []) h p s = h k p s
last_says whole part said G (k ∷ j ∷ ks) h p s = last_says whole part said G (j ∷ ks) h p.1 s

loop_says : (whole part step : List Entry → Type 0) (test G : Type 0) (ts : List Turn) → (test → G) → ((u : List Entry) → part u → step u → G) → IsLoopSoFar whole part ts → StepLoop test whole step ts → G
loop_says whole part step test G [] f h q p = f p
loop_says whole part step test G (Tested true t ∷ []) f h q (inl p) = f p.0
loop_says whole part step test G (Tested true t ∷ []) f h q (inr p) = h t q p
loop_says whole part step test G (Tested false t ∷ []) f h q p = absurd p
loop_says whole part step test G (Tested true t ∷ s ∷ rest) f h q p = loop_says whole part step test G (s ∷ rest) f h q.1 p
loop_says whole part step test G (Tested false t ∷ s ∷ rest) f h q p = absurd q

no_both : (b : Bool) → b ≡ true → b ≡ false → ⊥
no_both b e f = let g : true ≡ false = sym e ∙ f in cc

pub not_true : (b : Bool) → (b ≡ true → ⊥) → b ≡ false
not_true true h = absurd (h refl)
not_true false h = refl

not_left : (a b : Exec) (x : Entry) → ((y : Entry) → is_of (nodes a) y ≡ true → is_of (nodes b) y ≡ false) → is_of (nodes b) x ≡ true → is_of (nodes a) x ≡ false
not_left a b x d h = not_true (is_of (nodes a) x) (λ q. no_both (is_of (nodes b) x) h (d x q))

not_first : (e : Exec) (es : Execs) (x : Entry) → ((y : Entry) → is_of (nodes e) y ≡ true → is_of (nodes_all es) y ≡ false) → is_of (nodes_all es) x ≡ true → is_of (nodes e) x ≡ false
not_first e es x d h = not_true (is_of (nodes e) x) (λ q. no_both (is_of (nodes_all es) x) h (d x q))

pub own_of : (n : ℕ) (t rest : List Entry) (x : Entry) → IsWork n (t ++ x ∷ rest) → is_of (n ∷ []) x ≡ true
own_of n t rest x w = is_of_next (next_work n t) n x (work_has n t rest x w) (λ m h. work_one n m t h)

mutual
  -- what is of a workingstep is of the kinds that a workingstep has, and nothing else is
  pub step_kind : (e : Exec) (t : List Entry) (x : Entry) → Apart e → Part e t → Step e t x → is_of (works e) x ≡ is_of_step x
  step_kind (Work n) t x d p s = own_of n t s.0 x s.1 ∙ sym (work_kind n t s.0 x s.1)
  step_kind (Leaf n k) t x d p s = no_number [] refl x ∙ sym (leaf_kind k n x s.1)
  step_kind (Plan n es) t x d p s = kind_in_order es t x d p.1 s
  step_kind (Par n es) t x d p s = kind_of_one es t x d p.1 s
  step_kind (NonSeq n es) t x d p (inl s) =
      works_outside_all es x (own_outside n (nodes_all es) x d.0 (pick_has n _ x s.0)) ∙ sym (pick_kind n _ x s.0)
  step_kind (NonSeq n es) t x d p (inr s) =
      last_says (λ i. WholeAt es i (part_at es i t)) (λ i. PartAt es i (part_at es i t)) (λ i. StepAt es i (part_at es i t) x) (is_of (works_all es) x ≡ is_of_step x) (picks n t)
      (λ i q r. kind_at es i (part_at es i t) x d.1 q r) p.2 s
  step_kind (Sel n es) [] x d p s = works_outside_all es x (own_outside n (nodes_all es) x d.0 (pick_has n _ x s)) ∙ sym (pick_kind n _ x s)
  step_kind (Sel n es) (y ∷ t) x d (inl p) s = absurd (cc)
  step_kind (Sel n es) (y ∷ t) x d (inr p) s =
      some_says (λ i. PartAt es i t) (λ i. StepAt es i t x) (is_of (works_all es) x ≡ is_of_step x) (pick_of n y) (λ i q r. kind_at es i t x d.1 q r) p s
  step_kind (If n a b) [] x d p s =
      let o : is_of (nodes a ++ nodes b) x ≡ false = own_outside n (nodes a ++ nodes b) x d.0 (test_has n _ x s) in
      both_false (works a) (works b) x (works_outside a x (not_of_left (nodes a) (nodes b) x o)) (works_outside b x (not_of_right (nodes a) (nodes b) x o)) ∙ sym (test_kind n _ x s)
  step_kind (If n a b) (y ∷ t) x d (inl p) s = absurd (cc)
  step_kind (If n a b) (y ∷ t) x d (inr p) s =
      some_says (λ r. Answered (λ u. Part a u) (λ u. Part b u) r t) (λ r. Answered (λ u. Step a u x) (λ u. Step b u x) r t) (is_of (works a ++ works b) x ≡ is_of_step x) (test_of n y)
      (elim [
        | true ↦ λ q r. second_false (works a) (works b) x (is_of_step x) (step_kind a t x d.1 q r) (works_outside b x (d.3 x (step_inside a t x (part_of_step a t x d.1 q r))))
        | false ↦ λ q r. first_false (works a) (works b) x (is_of_step x) (works_outside a x (not_left a b x d.3 (step_inside b t x (part_of_step b t x d.2 q r)))) (step_kind b t x d.2 q r)
      ]) p s
  step_kind (While n a) t x d p s =
      loop_says (λ u. Whole a u) (λ u. Part a u) (λ u. Step a u x) (IsTest n x) (is_of (works a) x ≡ is_of_step x) (turns n t)
      (λ q. works_outside a x (own_outside n (nodes a) x d.0 (test_has n _ x q)) ∙ sym (test_kind n _ x q)) (λ u q r. step_kind a u x d.1 q r) p.1 s

  kind_in_order : (es : Execs) (t : List Entry) (x : Entry) → ApartAll es → InOrder es t → StepInOrder es t x → is_of (works_all es) x ≡ is_of_step x
  kind_in_order None_left t x d p s = absurd s
  kind_in_order (Then e es) t x d p (inl s) = second_false (works e) (works_all es) x (is_of_step x) (step_kind e (only (nodes e) t) x d.0 p.0 s.2) (works_outside_all es x (d.2 x s.0))
  kind_in_order (Then e es) t x d p (inr s) = first_false (works e) (works_all es) x (is_of_step x) (works_outside e x s.0) (kind_in_order es t x d.1 p.2 s.2)

  kind_of_one : (es : Execs) (t : List Entry) (x : Entry) → ApartAll es → EachPart es t → StepOfOne es t x → is_of (works_all es) x ≡ is_of_step x
  kind_of_one None_left t x d p s = absurd s
  kind_of_one (Then e es) t x d p (inl s) = second_false (works e) (works_all es) x (is_of_step x) (step_kind e (only (nodes e) t) x d.0 p.0 s.1) (works_outside_all es x (d.2 x s.0))
  kind_of_one (Then e es) t x d p (inr s) = first_false (works e) (works_all es) x (is_of_step x) (works_outside e x s.0) (kind_of_one es t x d.1 p.1 s.1)

  kind_at : (es : Execs) (i : ℕ) (t : List Entry) (x : Entry) → ApartAll es → PartAt es i t → StepAt es i t x → is_of (works_all es) x ≡ is_of_step x
  kind_at None_left i t x d p s = absurd p
  kind_at (Then e es) zero t x d p s = second_false (works e) (works_all es) x (is_of_step x) (step_kind e t x d.0 p s) (works_outside_all es x (d.2 x (step_inside e t x (part_of_step e t x d.0 p s))))
  kind_at (Then e es) (suc i) t x d p s =
      first_false (works e) (works_all es) x (is_of_step x) (works_outside e x (not_first e es x d.2 (at_inside es i x (inside_at es i t x d.1 p s)))) (kind_at es i t x d.1 p s)

-- ---- what is open can go on

pub snoc_ind : (P : List Entry → Type 0) → P [] → ((s : List Entry) (x : Entry) → P s → P (s ++ x ∷ [])) → (t : List Entry) → P t
snoc_ind P none more t = go [] t none
  where
    go : (s t : List Entry) → P s → P (s ++ t)
    go s [] p = subst P (sym (append-nil s)) p
    go s (x ∷ t) p = subst P (append_assoc s (x ∷ []) t) (go (s ++ x ∷ []) t (more s x p))

dispatch_of : (n : ℕ) (x : Entry) → has_some (n ∷ []) (dispatched x) ≡ true → (is_cutting x ≡ true) × (number_of x ≡ Some n)
dispatch_of n (Dispatch m v) h = (refl, ap (λ (j : ℕ). Some j) (sym (one n m h)))
dispatch_of n x h = absurd (no_way h)

in_some : (ns : List ℕ) (o : Option ℕ) (m : ℕ) → o ≡ Some m → has_some ns o ≡ true → has ns m ≡ true
in_some ns o m e h = rw e at h

-- an entry of a step that is neither its dispatch nor its end is a block of it
kept_kind : (n : ℕ) (x : Entry) → has_some (n ∷ []) (dispatched x) ≡ false → has_some (n ∷ []) (ended x) ≡ false → has_some (n ∷ []) (number_of x) ≡ true → is_of_step x ≡ true → is_cutting x ≡ true
kept_kind n (Dispatch m v) d e o k = refl
kept_kind n (Block m j b) d e o k = refl
kept_kind n (End m) d e o k = let f : true ≡ false = sym o ∙ e in absurd (cc)
kept_kind n x d e o k = absurd (no_way k)

keeps_by : (n : ℕ) (x : Entry) → (has_some (n ∷ []) (number_of x) ≡ true → is_cutting x ≡ true) → keeps n x ≡ true
keeps_by n x h = go (has_some (n ∷ []) (number_of x)) refl
  where
    go : (b : Bool) → has_some (n ∷ []) (number_of x) ≡ b → keeps n x ≡ true
    go true e = rw (h e) refl
    go false e = or_right (is_cutting x) (not (has_some (n ∷ []) (number_of x))) (rw e refl)

of_one : (ns : List ℕ) (o : Option ℕ) (n : ℕ) → has ns n ≡ true → has_some (n ∷ []) o ≡ true → has_some ns o ≡ true
of_one ns None n h e = absurd (no_way e)
of_one ns (Some m) n h e = subst (λ (j : ℕ). has ns j ≡ true) (one n m e) h

pub open_is_next : (e : Exec) (n : ℕ) (t : List Entry) → Apart e → has (works e) n ≡ true → Part e t → is_open n t ≡ true → has (next e t) n ≡ true
open_is_next e n t d w = snoc_ind (λ t. Part e t → is_open n t ≡ true → has (next e t) n ≡ true) (λ p o. absurd (no_way o)) more t
  where
    more : (s : List Entry) (x : Entry) → (Part e s → is_open n s ≡ true → has (next e s) n ≡ true) → Part e (s ++ x ∷ []) → is_open n (s ++ x ∷ []) ≡ true → has (next e (s ++ x ∷ [])) n ≡ true
    more s x ih p o = go (has_some (n ∷ []) (dispatched x)) refl (sym (ap (λ (r : Option ℕ). is_some r) (stage_snoc n None s x)) ∙ o)
      where
        z : Part e s × Step e s x
        z = step_of e s x d p

        go : (a : Bool) → has_some (n ∷ []) (dispatched x) ≡ a → is_some (stage_step n (stage n s) x) ≡ true → has (next e (s ++ x ∷ [])) n ≡ true
        go true ea h =
            let y = dispatch_of n x ea in
            stays e s x n d z.0 z.1 (keeps_by n x (λ q. y.0)) (in_some (next e s) (number_of x) n y.1 (next_has e s x z.0 z.1))
        go false ea h =
            let y = was_open n (stage n s) x ea h in
            stays e s x n d z.0 z.1 (keeps_by n x (λ q. kept_kind n x ea y.1 q (sym (step_kind e s x d z.0 z.1) ∙ of_one (works e) (number_of x) n w q))) (ih z.0 y.0)
