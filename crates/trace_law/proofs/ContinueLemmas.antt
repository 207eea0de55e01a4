-- The steps from a Part are the entries of its Next that continue it.
use Rattle.std.specs.Prelude.{◌≡◌, ◌≢◌, ◌⊎◌, ℕ, zero, suc, Bool, true, false, ◌||◌, ◌==◌, if◌then◌else◌, List, [], ◌∷◌, ◌++◌, length, Option, Some, None, IsSomeAnd}
use Rattle.std.proofs.Common.{refl, sym, ◌∙◌, subst, inl, inr}
use Rattle.exec_tree.specs.Exec.{Exec, Work, Leaf, Plan, Par, NonSeq, Sel, If, While, Execs, None_left, Then, nodes, nodes_all, number_or_none, has, count}
use Rattle.trace_law.specs.Of.{has_some, number_of, is_of, only}
use Rattle.trace_law.specs.Own.{picks, pick_of, test_of, Turn, Tested, turns}
use Rattle.trace_law.specs.Part.{LastMayBeCut, IsLoopSoFar, Part, EachPart, InOrder, PartAt}
use Rattle.trace_law.specs.Whole.{Answered, Whole, WholeAt}
use Rattle.trace_law.specs.Elements.{joined, nodes_at, part_at}
use Rattle.trace_law.specs.Next.{first_of_two, next_work, next_of_last, next_after, next_answered, next_loop, next, next_in_order, next_each, next_at}
use Rattle.trace_law.specs.Step.{OfLastBody, Continues, SomeContinues, ContinuesAt, IsTest, AtLast, StepLoop, Step, StepInOrder, StepOfOne, StepAt}
use Rattle.trace_law.proofs.WholeNextLemmas.{empty_from_whole, whole_from_empty, whole_at, last_whole}
use Rattle.run_log.specs.declared.entry.Entry.{Entry}
use Rattle.run_log.specs.declared.entry.Entry.TheVariants.{End}
use Rattle.trace_law.proofs.StepLemmas.{is_of-append, AllOf, is_of_left, is_of_right, Apart, ApartAll, leaf_has, pick_has, test_has, of_none, same_number}
use Rattle.trace_law.proofs.StepForthLemmas.{some_map, at_inside}
use Rattle.trace_law.proofs.StepBackLemmas.{work_inside}

-- ---- a step continues

-- ---- insides

or_cases : (a b : Bool) → (a || b) ≡ true → (a ≡ true) ⊎ (b ≡ true)
or_cases true b e = inl refl
or_cases false b e = inr e

pub is_of_cases : (ms ns : List ℕ) (x : Entry) → is_of (ms ++ ns) x ≡ true → (is_of ms x ≡ true) ⊎ (is_of ns x ≡ true)
is_of_cases ms ns x h = or_cases (is_of ms x) (is_of ns x) (sym (is_of-append ms ns x) ∙ h)

own_not_by : (n : ℕ) (ns : List ℕ) (o : Option ℕ) → has ns n ≡ false → has_some (n ∷ []) o ≡ true → has_some ns o ≡ false
own_not_by n ns None h g = refl
own_not_by n ns (Some m) h g = go (n == m) refl
  where
    go : (b : Bool) → (n == m) ≡ b → has ns m ≡ false
    go true e = subst (λ k. has ns k ≡ false) (same_number n m e) h
    go false e = let f : (false || false) ≡ true = rw e at g in absurd (cc)

-- an entry of n isn't of other nodes
pub own_not : (n : ℕ) (ns : List ℕ) (x : Entry) → has ns n ≡ false → is_of (n ∷ []) x ≡ true → is_of ns x ≡ false
own_not n ns x h g = own_not_by n ns (number_of x) h g

pub clash : (b : Bool) → b ≡ true → b ≡ false → ⊥
clash b h g = let f : true ≡ false = sym h ∙ g in cc

work_next_inside : (n : ℕ) (t : List Entry) (x : Entry) → is_of (next_work n t) x ≡ true → is_of (n ∷ []) x ≡ true
work_next_inside n [] x h = h
work_next_inside n (End m ∷ []) x h = absurd (of_none (number_of x) h)
work_next_inside n (End m ∷ y ∷ t) x h = work_next_inside n (y ∷ t) x h
work_next_inside n (y ∷ t) x h = work_next_inside n t x h

pub first_cases : (xs ys : List ℕ) (x : Entry) → is_of (first_of_two xs ys) x ≡ true → (is_of xs x ≡ true) ⊎ (is_of ys x ≡ true)
first_cases [] ys x h = inr h
first_cases (n ∷ xs) ys x h = inl h

pub last_inside : (f : ℕ → List ℕ) (ns : List ℕ) (x : Entry) (ks : List ℕ) → ((k : ℕ) → is_of (f k) x ≡ true → is_of ns x ≡ true) → is_of (next_of_last f ks) x ≡ true → is_of ns x ≡ true
last_inside f ns x [] h g = absurd (of_none (number_of x) g)
last_inside f ns x (k ∷ []) h g = h k g
last_inside f ns x (k ∷ j ∷ ks) h g = last_inside f ns x (j ∷ ks) h g

pub left_inside : (n : ℕ) (b : Bool) (x : Entry) → is_of (if b then [] else n ∷ []) x ≡ true → is_of (n ∷ []) x ≡ true
left_inside n true x h = absurd (of_none (number_of x) h)
left_inside n false x h = h

after_inside : {A : Type 0} (f : A → List Entry → List ℕ) (ns : List ℕ) (x : Entry) (o : Option A) (t : List Entry) → ((k : A) → is_of (f k t) x ≡ true → is_of ns x ≡ true) → is_of (next_after f o t) x ≡ true → is_of ns x ≡ true
after_inside f ns x None t h g = absurd (of_none (number_of x) g)
after_inside f ns x (Some k) t h g = h k g

loop_next_inside : (n : ℕ) (ns : List ℕ) (f : List Entry → List ℕ) (x : Entry) (ts : List Turn) → ((u : List Entry) → is_of (f u) x ≡ true → is_of ns x ≡ true) → is_of (next_loop n f ts) x ≡ true → is_of (n ∷ ns) x ≡ true
loop_next_inside n ns f x [] h g = is_of_left (n ∷ []) ns x g
loop_next_inside n ns f x (Tested true t ∷ []) h g = elim (first_cases (f t) (n ∷ []) x g) [ inl q ↦ is_of_right (n ∷ []) ns x (h t q) | inr q ↦ is_of_left (n ∷ []) ns x q ]
loop_next_inside n ns f x (Tested false t ∷ []) h g = absurd (of_none (number_of x) g)
loop_next_inside n ns f x (r ∷ s ∷ rest) h g = loop_next_inside n ns f x (s ∷ rest) h g

mutual
  pub next_inside : (e : Exec) (t : List Entry) (x : Entry) → is_of (next e t) x ≡ true → is_of (nodes e) x ≡ true
  next_inside (Work n) t x h = work_next_inside n t x h
  next_inside (Leaf n k) [] x h = h
  next_inside (Leaf n k) (y ∷ t) x h = absurd (of_none (number_of x) h)
  next_inside (Plan n es) t x h = is_of_right (number_or_none n) (nodes_all es) x (next_inside_order es t x h)
  next_inside (Par n es) t x h = is_of_right (n ∷ []) (nodes_all es) x (next_inside_each es t x h)
  next_inside (NonSeq n es) t x h =
      elim (first_cases (next_of_last (λ k. next_at es k (part_at es k t)) (picks n t)) (if length (picks n t) == count es then [] else n ∷ []) x h) [
        | inl q ↦ is_of_right (n ∷ []) (nodes_all es) x (last_inside (λ k. next_at es k (part_at es k t)) (nodes_all es) x (picks n t) (λ k r. at_inside es k x (next_inside_at es k (part_at es k t) x r)) q)
        | inr q ↦ is_of_left (n ∷ []) (nodes_all es) x (left_inside n (length (picks n t) == count es) x q)
      ]
  next_inside (Sel n es) [] x h = is_of_left (n ∷ []) (nodes_all es) x h
  next_inside (Sel n es) (y ∷ t) x h =
      is_of_right (n ∷ []) (nodes_all es) x (after_inside (λ k u. next_at es k u) (nodes_all es) x (pick_of n y) t (λ k r. at_inside es k x (next_inside_at es k t x r)) h)
  next_inside (If n a b) [] x h = is_of_left (n ∷ []) (nodes a ++ nodes b) x h
  next_inside (If n a b) (y ∷ t) x h =
      is_of_right (n ∷ []) (nodes a ++ nodes b) x
      (after_inside (next_answered (λ u. next a u) (λ u. next b u)) (nodes a ++ nodes b) x (test_of n y) t
      (elim [ true ↦ λ r. is_of_left (nodes a) (nodes b) x (next_inside a t x r) | false ↦ λ r. is_of_right (nodes a) (nodes b) x (next_inside b t x r) ]) h)
  next_inside (While n a) t x h = loop_next_inside n (nodes a) (λ u. next a u) x (turns n t) (λ u r. next_inside a u x r) h

  pub next_inside_order : (es : Execs) (t : List Entry) (x : Entry) → is_of (next_in_order es t) x ≡ true → is_of (nodes_all es) x ≡ true
  next_inside_order None_left t x h = h
  next_inside_order (Then e es) t x h =
      elim (first_cases (next e (only (nodes e) t)) (next_in_order es t) x h)
      [ inl q ↦ is_of_left (nodes e) (nodes_all es) x (next_inside e (only (nodes e) t) x q) | inr q ↦ is_of_right (nodes e) (nodes_all es) x (next_inside_order es t x q) ]

  pub next_inside_each : (es : Execs) (t : List Entry) (x : Entry) → is_of (next_each es t) x ≡ true → is_of (nodes_all es) x ≡ true
  next_inside_each None_left t x h = h
  next_inside_each (Then e es) t x h =
      elim (is_of_cases (next e (only (nodes e) t)) (next_each es t) x h)
      [ inl q ↦ is_of_left (nodes e) (nodes_all es) x (next_inside e (only (nodes e) t) x q) | inr q ↦ is_of_right (nodes e) (nodes_all es) x (next_inside_each es t x q) ]

  pub next_inside_at : (es : Execs) (k : ℕ) (t : List Entry) (x : Entry) → is_of (next_at es k t) x ≡ true → is_of (nodes_at es k) x ≡ true
  next_inside_at None_left k t x h = h
  next_inside_at (Then e es) zero t x h = next_inside e t x h
  next_inside_at (Then e es) (suc k) t x h = next_inside_at es k t x h

AllOf_mid : (ns : List ℕ) (s t : List Entry) (x : Entry) → AllOf ns (s ++ x ∷ t) → is_of ns x ≡ true
AllOf_mid ns [] t x p = p.0
AllOf_mid ns (y ∷ s) t x p = AllOf_mid ns s t x p.1

last_body_inside : (said : List Entry → Type 0) (G : Type 0) (ts : List Turn) → ((u : List Entry) → said u → G) → OfLastBody said ts → G
last_body_inside said G [] h p = absurd p
last_body_inside said G (Tested true t ∷ []) h p = h t p
last_body_inside said G (Tested false t ∷ []) h p = absurd p
last_body_inside said G (r ∷ s ∷ rest) h p = last_body_inside said G (s ∷ rest) h p

some_inside_of : {A : Type 0} (P : A → Type 0) (G : Type 0) (o : Option A) → ((k : A) → P k → G) → IsSomeAnd o P → G
some_inside_of P G None h p = absurd p
some_inside_of P G (Some k) h p = h k p

last_said : (said : ℕ → Type 0) (G : Type 0) (ks : List ℕ) → ((k : ℕ) → said k → G) → AtLast said ks → G
last_said said G [] h p = absurd p
last_said said G (k ∷ []) h p = h k p
last_said said G (k ∷ j ∷ ks) h p = last_said said G (j ∷ ks) h p

mutual
  pub continues_inside : (e : Exec) (t : List Entry) (x : Entry) → Continues e t x → is_of (nodes e) x ≡ true
  continues_inside (Work n) t x c = AllOf_mid (n ∷ []) t c.0 x (work_inside n (t ++ x ∷ c.0) c.1)
  continues_inside (Leaf n k) t x c = leaf_has k n x c
  continues_inside (Plan n es) t x c = is_of_right (number_or_none n) (nodes_all es) x (some_inside es t x c)
  continues_inside (Par n es) t x c = is_of_right (n ∷ []) (nodes_all es) x (some_inside es t x c)
  continues_inside (NonSeq n es) t x (inl c) = is_of_left (n ∷ []) (nodes_all es) x (pick_has n _ x c)
  continues_inside (NonSeq n es) t x (inr c) =
      is_of_right (n ∷ []) (nodes_all es) x (last_said (λ k. ContinuesAt es k (part_at es k t) x) (is_of (nodes_all es) x ≡ true) (picks n t) (λ k q. at_inside es k x (continues_inside_at es k (part_at es k t) x q)) c)
  continues_inside (Sel n es) [] x c = is_of_left (n ∷ []) (nodes_all es) x (pick_has n _ x c)
  continues_inside (Sel n es) (y ∷ t) x c =
      is_of_right (n ∷ []) (nodes_all es) x (some_inside_of (λ k. ContinuesAt es k t x) (is_of (nodes_all es) x ≡ true) (pick_of n y) (λ k q. at_inside es k x (continues_inside_at es k t x q)) c)
  continues_inside (If n a b) [] x c = is_of_left (n ∷ []) (nodes a ++ nodes b) x (test_has n _ x c)
  continues_inside (If n a b) (y ∷ t) x c =
      is_of_right (n ∷ []) (nodes a ++ nodes b) x
      (some_inside_of (λ k. Answered (λ u. Continues a u x) (λ u. Continues b u x) k t) (is_of (nodes a ++ nodes b) x ≡ true) (test_of n y)
      (elim [ true ↦ λ q. is_of_left (nodes a) (nodes b) x (continues_inside a t x q) | false ↦ λ q. is_of_right (nodes a) (nodes b) x (continues_inside b t x q) ]) c)
  continues_inside (While n a) t x (inl c) = is_of_left (n ∷ []) (nodes a) x (test_has n _ x c)
  continues_inside (While n a) t x (inr c) = is_of_right (n ∷ []) (nodes a) x (last_body_inside (λ u. Continues a u x) (is_of (nodes a) x ≡ true) (turns n t) (λ u v. continues_inside a u x v) c)

  pub some_inside : (es : Execs) (t : List Entry) (x : Entry) → SomeContinues es t x → is_of (nodes_all es) x ≡ true
  some_inside None_left t x c = absurd c
  some_inside (Then e es) t x (inl c) = is_of_left (nodes e) (nodes_all es) x c.0
  some_inside (Then e es) t x (inr c) = is_of_right (nodes e) (nodes_all es) x (some_inside es t x c.1)

  pub continues_inside_at : (es : Execs) (k : ℕ) (t : List Entry) (x : Entry) → ContinuesAt es k t x → is_of (nodes_at es k) x ≡ true
  continues_inside_at None_left k t x c = absurd c
  continues_inside_at (Then e es) zero t x c = continues_inside e t x c
  continues_inside_at (Then e es) (suc k) t x c = continues_inside_at es k t x c

-- ---- a step continues

last_map : (P Q : ℕ → Type 0) (ks : List ℕ) → ((k : ℕ) → P k → Q k) → AtLast P ks → AtLast Q ks
last_map P Q [] h p = p
last_map P Q (k ∷ []) h p = h k p
last_map P Q (k ∷ j ∷ ks) h p = last_map P Q (j ∷ ks) h p

loop_continues : (n : ℕ) (x : Entry) (whole step said : List Entry → Type 0) (ts : List Turn) → ((u : List Entry) → step u → said u) → StepLoop (IsTest n x) whole step ts → IsTest n x ⊎ OfLastBody said ts
loop_continues n x whole step said [] h s = inl s
loop_continues n x whole step said (Tested true t ∷ []) h (inl s) = inl s.0
loop_continues n x whole step said (Tested true t ∷ []) h (inr s) = inr (h t s)
loop_continues n x whole step said (Tested false t ∷ []) h s = absurd s
loop_continues n x whole step said (r ∷ q ∷ rest) h s = loop_continues n x whole step said (q ∷ rest) h s

mutual
  pub right_of_step : (e : Exec) (t : List Entry) (x : Entry) → Step e t x → Continues e t x
  right_of_step (Work n) t x s = s
  right_of_step (Leaf n k) t x s = s.1
  right_of_step (Plan n es) t x s = right_in_order es t x s
  right_of_step (Par n es) t x s = right_of_one es t x s
  right_of_step (NonSeq n es) t x (inl s) = inl s.0
  right_of_step (NonSeq n es) t x (inr s) = inr (last_map (λ k. StepAt es k (part_at es k t) x) (λ k. ContinuesAt es k (part_at es k t) x) (picks n t) (λ k q. right_at es k (part_at es k t) x q) s)
  right_of_step (Sel n es) [] x s = s
  right_of_step (Sel n es) (y ∷ t) x s = some_map (λ k. StepAt es k t x) (λ k. ContinuesAt es k t x) (pick_of n y) (λ k q. right_at es k t x q) s
  right_of_step (If n a b) [] x s = s
  right_of_step (If n a b) (y ∷ t) x s =
      some_map (λ k. Answered (λ u. Step a u x) (λ u. Step b u x) k t) (λ k. Answered (λ u. Continues a u x) (λ u. Continues b u x) k t) (test_of n y)
      (elim [ true ↦ λ q. right_of_step a t x q | false ↦ λ q. right_of_step b t x q ]) s
  right_of_step (While n a) t x s = loop_continues n x (λ u. Whole a u) (λ u. Step a u x) (λ u. Continues a u x) (turns n t) (λ u q. right_of_step a u x q) s

  pub right_in_order : (es : Execs) (t : List Entry) (x : Entry) → StepInOrder es t x → SomeContinues es t x
  right_in_order None_left t x s = absurd s
  right_in_order (Then e es) t x (inl s) = inl (s.0, right_of_step e (only (nodes e) t) x s.2)
  right_in_order (Then e es) t x (inr s) = inr (s.0, right_in_order es t x s.2)

  pub right_of_one : (es : Execs) (t : List Entry) (x : Entry) → StepOfOne es t x → SomeContinues es t x
  right_of_one None_left t x s = absurd s
  right_of_one (Then e es) t x (inl s) = inl (s.0, right_of_step e (only (nodes e) t) x s.1)
  right_of_one (Then e es) t x (inr s) = inr (s.0, right_of_one es t x s.1)

  pub right_at : (es : Execs) (k : ℕ) (t : List Entry) (x : Entry) → StepAt es k t x → ContinuesAt es k t x
  right_at None_left k t x s = absurd s
  right_at (Then e es) zero t x s = right_of_step e t x s
  right_at (Then e es) (suc k) t x s = right_at es k t x s

-- ---- what is of Next and continues is a step

is_empty_or : (t : List Entry) → (t ≡ []) ⊎ (t ≢ [])
is_empty_or [] = inl refl
is_empty_or (x ∷ t) = inr (λ q. cc)

-- the first of two lists: the second where the first is empty
first_view : (xs ys : List ℕ) (x : Entry) → is_of (first_of_two xs ys) x ≡ true → ((xs ≡ []) × (is_of ys x ≡ true)) ⊎ ((xs ≢ []) × (is_of xs x ≡ true))
first_view [] ys x h = inl (refl, h)
first_view (n ∷ xs) ys x h = inr ((λ q. cc), h)

last_both : (whole part said step : ℕ → Type 0) (f : ℕ → List ℕ) (x : Entry) (ks : List ℕ) → ((k : ℕ) → part k → is_of (f k) x ≡ true → said k → step k) → LastMayBeCut whole part ks → is_of (next_of_last f ks) x ≡ true → AtLast said ks → AtLast step ks
last_both whole part said step f x [] h p g s = absurd s
last_both whole part said step f x (k ∷ []) h p g s = h k p g s
last_both whole part said step f x (k ∷ j ∷ ks) h p g s = last_both whole part said step f x (j ∷ ks) h p.1 g s

some_three : {A : Type 0} (part said step : A → Type 0) (f : A → List Entry → List ℕ) (t : List Entry) (x : Entry) (o : Option A) → ((k : A) → part k → is_of (f k t) x ≡ true → said k → step k) → IsSomeAnd o part → is_of (next_after f o t) x ≡ true → IsSomeAnd o said → IsSomeAnd o step
some_three part said step f t x None h p g s = absurd p
some_three part said step f t x (Some k) h p g s = h k p g s

loop_step : (n : ℕ) (ns : List ℕ) (x : Entry) (whole part said step : List Entry → Type 0) (f : List Entry → List ℕ) (ts : List Turn) → has ns n ≡ false → ((u : List Entry) → part u → is_of (f u) x ≡ true → said u → step u) → ((u : List Entry) → part u → f u ≡ [] → whole u) → ((u : List Entry) → is_of (f u) x ≡ true → is_of ns x ≡ true) → ((u : List Entry) → said u → is_of ns x ≡ true) → IsLoopSoFar whole part ts → is_of (next_loop n f ts) x ≡ true → IsTest n x ⊎ OfLastBody said ts → StepLoop (IsTest n x) whole step ts
loop_step n ns x whole part said step f [] own h w i j p g (inl s) = s
loop_step n ns x whole part said step f [] own h w i j p g (inr s) = absurd s
loop_step n ns x whole part said step f (Tested true t ∷ []) own h w i j p g s = go (first_view (f t) (n ∷ []) x g) s
  where
    go : ((f t ≡ []) × (is_of (n ∷ []) x ≡ true)) ⊎ ((f t ≢ []) × (is_of (f t) x ≡ true)) → IsTest n x ⊎ said t → (IsTest n x × whole t) ⊎ step t
    go (inl q) (inl z) = inl (z, w t p q.0)
    go (inl q) (inr z) = absurd (clash (is_of ns x) (j t z) (own_not n ns x own q.1))
    go (inr q) (inl z) = absurd (clash (is_of ns x) (i t q.1) (own_not n ns x own (test_has n _ x z)))
    go (inr q) (inr z) = inr (h t p q.1 z)
loop_step n ns x whole part said step f (Tested false t ∷ []) own h w i j p g s = absurd (of_none (number_of x) g)
loop_step n ns x whole part said step f (Tested true t ∷ r ∷ rest) own h w i j p g (inl s) = loop_step n ns x whole part said step f (r ∷ rest) own h w i j p.1 g (inl s)
loop_step n ns x whole part said step f (Tested true t ∷ r ∷ rest) own h w i j p g (inr s) = loop_step n ns x whole part said step f (r ∷ rest) own h w i j p.1 g (inr s)
loop_step n ns x whole part said step f (Tested false t ∷ r ∷ rest) own h w i j p g s = absurd p

order_right_cons : (a : Exec) (es : Execs) (t : List Entry) (x : Entry) → ((y : Entry) → is_of (nodes a) y ≡ true → is_of (nodes_all es) y ≡ false) → (Part a (only (nodes a) t) → is_of (next a (only (nodes a) t)) x ≡ true → Continues a (only (nodes a) t) x → Step a (only (nodes a) t) x) → (InOrder es t → is_of (next_in_order es t) x ≡ true → SomeContinues es t x → StepInOrder es t x) → InOrder (Then a es) t → is_of (next_in_order (Then a es) t) x ≡ true → SomeContinues (Then a es) t x → StepInOrder (Then a es) t x
order_right_cons a es t x across rec1 rec2 p g s = go (first_view (next a (only (nodes a) t)) (next_in_order es t) x g) s
  where
    go : ((next a (only (nodes a) t) ≡ []) × (is_of (next_in_order es t) x ≡ true)) ⊎ ((next a (only (nodes a) t) ≢ []) × (is_of (next a (only (nodes a) t)) x ≡ true)) → SomeContinues (Then a es) t x → StepInOrder (Then a es) t x
    go (inl q) (inl z) = absurd (clash (is_of (nodes_all es) x) (next_inside_order es t x q.1) (across x z.0))
    go (inl q) (inr z) = inr (z.0, whole_from_empty a (only (nodes a) t) p.0 q.0, rec2 p.2 q.1 z.1)
    go (inr q) (inl z) =
        elim (is_empty_or (joined es t))
        [ inl e ↦ inl (z.0, e, rec1 p.0 q.1 z.1) | inr ne ↦ absurd (q.0 (empty_from_whole a (only (nodes a) t) (p.1 ne))) ]
    go (inr q) (inr z) = absurd (clash (is_of (nodes a) x) (next_inside a (only (nodes a) t) x q.1) z.0)

each_right_cons : (a : Exec) (es : Execs) (t : List Entry) (x : Entry) → ((y : Entry) → is_of (nodes a) y ≡ true → is_of (nodes_all es) y ≡ false) → (Part a (only (nodes a) t) → is_of (next a (only (nodes a) t)) x ≡ true → Continues a (only (nodes a) t) x → Step a (only (nodes a) t) x) → (EachPart es t → is_of (next_each es t) x ≡ true → SomeContinues es t x → StepOfOne es t x) → EachPart (Then a es) t → is_of (next_each (Then a es) t) x ≡ true → SomeContinues (Then a es) t x → StepOfOne (Then a es) t x
each_right_cons a es t x across rec1 rec2 p g s = go (is_of_cases (next a (only (nodes a) t)) (next_each es t) x g) s
  where
    go : (is_of (next a (only (nodes a) t)) x ≡ true) ⊎ (is_of (next_each es t) x ≡ true) → SomeContinues (Then a es) t x → StepOfOne (Then a es) t x
    go (inl q) (inl z) = inl (z.0, rec1 p.0 q z.1)
    go (inl q) (inr z) = absurd (clash (is_of (nodes a) x) (next_inside a (only (nodes a) t) x q) z.0)
    go (inr q) (inl z) = absurd (clash (is_of (nodes_all es) x) (next_inside_each es t x q) (across x z.0))
    go (inr q) (inr z) = inr (z.0, rec2 p.1 q z.1)

nonseq_right : (n : ℕ) (es : Execs) (t : List Entry) (x : Entry) → has (nodes_all es) n ≡ false → ((k : ℕ) → PartAt es k (part_at es k t) → is_of (next_at es k (part_at es k t)) x ≡ true → ContinuesAt es k (part_at es k t) x → StepAt es k (part_at es k t) x) → Part (NonSeq n es) t → is_of (next (NonSeq n es) t) x ≡ true → Continues (NonSeq n es) t x → Step (NonSeq n es) t x
nonseq_right n es t x own rec p g s =
    go (first_view (next_of_last (λ k. next_at es k (part_at es k t)) (picks n t)) (if length (picks n t) == count es then [] else n ∷ []) x g) s
  where
    go : ((next_of_last (λ k. next_at es k (part_at es k t)) (picks n t) ≡ []) × (is_of (if length (picks n t) == count es then [] else n ∷ []) x ≡ true)) ⊎ ((next_of_last (λ k. next_at es k (part_at es k t)) (picks n t) ≢ []) × (is_of (next_of_last (λ k. next_at es k (part_at es k t)) (picks n t)) x ≡ true)) → Continues (NonSeq n es) t x → Step (NonSeq n es) t x
    go (inl q) (inl z) =
        inl (z, last_whole (λ k. WholeAt es k (part_at es k t)) (λ k. PartAt es k (part_at es k t)) (λ k. next_at es k (part_at es k t)) (picks n t) (λ k v e. whole_at es k (part_at es k t) v e) p.2 q.0)
    go (inl q) (inr z) =
        absurd (clash (is_of (nodes_all es) x)
        (last_said (λ k. ContinuesAt es k (part_at es k t) x) (is_of (nodes_all es) x ≡ true) (picks n t) (λ k v. at_inside es k x (continues_inside_at es k (part_at es k t) x v)) z)
        (own_not n (nodes_all es) x own (left_inside n (length (picks n t) == count es) x q.1)))
    go (inr q) (inl z) =
        absurd (clash (is_of (nodes_all es) x)
        (last_inside (λ k. next_at es k (part_at es k t)) (nodes_all es) x (picks n t) (λ k r. at_inside es k x (next_inside_at es k (part_at es k t) x r)) q.1)
        (own_not n (nodes_all es) x own (pick_has n _ x z)))
    go (inr q) (inr z) =
        inr (last_both (λ k. WholeAt es k (part_at es k t)) (λ k. PartAt es k (part_at es k t)) (λ k. ContinuesAt es k (part_at es k t) x) (λ k. StepAt es k (part_at es k t) x) (λ k. next_at es k (part_at es k t)) x (picks n t) rec p.2 q.1 z)

mutual
  pub step_of_right : (e : Exec) (t : List Entry) (x : Entry) → Apart e → Part e t → is_of (next e t) x ≡ true → Continues e t x → Step e t x
  step_of_right (Work n) t x d p g s = s
  step_of_right (Leaf n k) [] x d p g s = (refl, s)
  step_of_right (Leaf n k) (y ∷ t) x d p g s = absurd (of_none (number_of x) g)
  step_of_right (Plan n es) t x d p g s = order_right es t x d p.1 g s
  step_of_right (Par n es) t x d p g s = each_right es t x d p.1 g s
  step_of_right (NonSeq n es) t x d p g s = nonseq_right n es t x d.0 (λ k q r v. step_at_right es k (part_at es k t) x d.1 q r v) p g s
  step_of_right (Sel n es) [] x d p g s = s
  step_of_right (Sel n es) (y ∷ t) x d (inl p) g s = absurd (cc)
  step_of_right (Sel n es) (y ∷ t) x d (inr p) g s =
      some_three (λ k. PartAt es k t) (λ k. ContinuesAt es k t x) (λ k. StepAt es k t x) (λ k u. next_at es k u) t x (pick_of n y) (λ k q r v. step_at_right es k t x d.1 q r v) p g s
  step_of_right (If n a b) [] x d p g s = s
  step_of_right (If n a b) (y ∷ t) x d (inl p) g s = absurd (cc)
  step_of_right (If n a b) (y ∷ t) x d (inr p) g s =
      some_three (λ k. Answered (λ u. Part a u) (λ u. Part b u) k t) (λ k. Answered (λ u. Continues a u x) (λ u. Continues b u x) k t) (λ k. Answered (λ u. Step a u x) (λ u. Step b u x) k t)
      (next_answered (λ u. next a u) (λ u. next b u)) t x (test_of n y)
      (elim [ true ↦ λ q r v. step_of_right a t x d.1 q r v | false ↦ λ q r v. step_of_right b t x d.2 q r v ]) p g s
  step_of_right (While n a) t x d p g s =
      loop_step n (nodes a) x (λ u. Whole a u) (λ u. Part a u) (λ u. Continues a u x) (λ u. Step a u x) (λ u. next a u) (turns n t) d.0
      (λ u q r v. step_of_right a u x d.1 q r v) (λ u q r. whole_from_empty a u q r) (λ u r. next_inside a u x r) (λ u v. continues_inside a u x v) p.1 g s

  pub order_right : (es : Execs) (t : List Entry) (x : Entry) → ApartAll es → InOrder es t → is_of (next_in_order es t) x ≡ true → SomeContinues es t x → StepInOrder es t x
  order_right None_left t x d p g s = s
  order_right (Then e es) t x d p g s =
      order_right_cons e es t x d.2 (λ q r v. step_of_right e (only (nodes e) t) x d.0 q r v) (λ q r v. order_right es t x d.1 q r v) p g s

  pub each_right : (es : Execs) (t : List Entry) (x : Entry) → ApartAll es → EachPart es t → is_of (next_each es t) x ≡ true → SomeContinues es t x → StepOfOne es t x
  each_right None_left t x d p g s = s
  each_right (Then e es) t x d p g s =
      each_right_cons e es t x d.2 (λ q r v. step_of_right e (only (nodes e) t) x d.0 q r v) (λ q r v. each_right es t x d.1 q r v) p g s

  pub step_at_right : (es : Execs) (k : ℕ) (t : List Entry) (x : Entry) → ApartAll es → PartAt es k t → is_of (next_at es k t) x ≡ true → ContinuesAt es k t x → StepAt es k t x
  step_at_right None_left k t x d p g s = s
  step_at_right (Then e es) zero t x d p g s = step_of_right e t x d.0 p g s
  step_at_right (Then e es) (suc k) t x d p g s = step_at_right es k t x d.1 p g s
