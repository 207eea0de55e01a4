-- What follows a Part: each Part with an entry at its end is a Part, and a step from it.
use Rattle.std.specs.Prelude.{◌≡◌, ◌<◌, ◌≤◌, ◌+◌, ℕ, zero, suc, Bool, true, false, cond, ◌||◌, ◌==◌, if◌then◌else◌, List, [], ◌∷◌, ◌++◌, length, Option, Some, None, IsSomeAnd}
use Rattle.std.proofs.Common.{refl, sym, ◌∙◌, ap, subst, inl, inr, arith, eqb}
use Rattle.std.proofs.lemmas.List.{append-nil}
use Rattle.std.proofs.lemmas.List.Elements.{filter-append}
use Rattle.std.proofs.lemmas.Bool.Decides.{nat_tests}
use Rattle.std.specs.List.{list_any, AllByRecursion, IsDistinct}
use Rattle.std.proofs.lemmas.Map.Steps.{length-le_from_distinct_below}
use Rattle.exec_tree.specs.Exec.{LeafKind, Assigning, Setting, Waiting, Noting, Exec, Work, Leaf, Plan, Par, NonSeq, Sel, If, While, Execs, None_left, Then, nodes, nodes_all, has, AreDistinct, count}
use Rattle.trace_law.specs.Of.{has_some, number_of, is_of, only}
use Rattle.trace_law.specs.Whole.{IsCut, IsWork, IsOfLeaf, AreDistinctBelow, Answered, Whole, WholeAt}
use Rattle.trace_law.specs.Own.{picks, pick_of, test_of, Turn, Tested, turns}
use Rattle.trace_law.specs.Part.{LastMayBeCut, IsLoopSoFar, Part, EachPart, InOrder, PartAt}
use Rattle.trace_law.specs.Elements.{joined, part_at}
use Rattle.trace_law.specs.Next.{first_of_two, next_work, next_of_last, next_after, next_answered, next_loop, next, next_in_order, next_each, next_at}
use Rattle.trace_law.specs.Step.{IsNewPick, IsTest, AtLast, StepLoop, Step, StepInOrder, StepOfOne, StepAt}
use Rattle.trace_law.proofs.WholeNextLemmas.{empty_from_whole, empty_at, last_empty}
use Rattle.run_log.specs.declared.entry.Entry.{Entry}
use Rattle.run_log.specs.declared.entry.Entry.TheVariants.{Dispatch, Block, End, Pick, Test, Assign, Set, Pass, Note}

-- ---- has and is_of

pub or_false_left : (a b : Bool) → (a || b) ≡ false → a ≡ false
or_false_left false b e = refl
or_false_left true b e = e

pub or_false_right : (a b : Bool) → (a || b) ≡ false → b ≡ false
or_false_right false b e = e
or_false_right true b e = cc

or_assoc : (a b c : Bool) → (a || (b || c)) ≡ ((a || b) || c)
or_assoc false b c = refl
or_assoc true b c = refl

pub has-append : (ms ns : List ℕ) (n : ℕ) → has (ms ++ ns) n ≡ (has ms n || has ns n)
has-append [] ns n = refl
has-append (m ∷ ms) ns n = rw (has-append ms ns n) (or_assoc (m == n) (has ms n) (has ns n))

has_some-append : (ms ns : List ℕ) (o : Option ℕ) → has_some (ms ++ ns) o ≡ (has_some ms o || has_some ns o)
has_some-append ms ns None = refl
has_some-append ms ns (Some n) = has-append ms ns n

pub is_of-append : (ms ns : List ℕ) (x : Entry) → is_of (ms ++ ns) x ≡ (is_of ms x || is_of ns x)
is_of-append ms ns x = has_some-append ms ns (number_of x)

pub not_of_left : (ms ns : List ℕ) (x : Entry) → is_of (ms ++ ns) x ≡ false → is_of ms x ≡ false
not_of_left ms ns x e = or_false_left _ (is_of ns x) (sym (is_of-append ms ns x) ∙ e)

pub not_of_right : (ms ns : List ℕ) (x : Entry) → is_of (ms ++ ns) x ≡ false → is_of ns x ≡ false
not_of_right ms ns x e = or_false_right (is_of ms x) _ (sym (is_of-append ms ns x) ∙ e)

-- ---- the entries of some nodes, with one more

pub only_in : (ns : List ℕ) (t : List Entry) (x : Entry) → is_of ns x ≡ true → only ns (t ++ x ∷ []) ≡ only ns t ++ x ∷ []
only_in ns t x e = filter-append (is_of ns) t (x ∷ []) ∙ rw e refl

pub only_out : (ns : List ℕ) (t : List Entry) (x : Entry) → is_of ns x ≡ false → only ns (t ++ x ∷ []) ≡ only ns t
only_out ns t x e = filter-append (is_of ns) t (x ∷ []) ∙ rw e (append-nil (only ns t))

-- each entry is of these nodes
abbrev pub AllOf : List ℕ → List Entry → Type 0
AllOf ns [] = Unit {0}
AllOf ns (x ∷ t) = (is_of ns x ≡ true) × AllOf ns t

pub AllOf-append : (ns : List ℕ) (s t : List Entry) → AllOf ns s → AllOf ns t → AllOf ns (s ++ t)
AllOf-append ns [] t p q = q
AllOf-append ns (x ∷ s) t p q = (p.0, AllOf-append ns s t p.1 q)

pub AllOf_last : (ns : List ℕ) (s : List Entry) (x : Entry) → AllOf ns (s ++ x ∷ []) → is_of ns x ≡ true
AllOf_last ns [] x p = p.0
AllOf_last ns (y ∷ s) x p = AllOf_last ns s x p.1

pub AllOf_front : (ns : List ℕ) (s t : List Entry) → AllOf ns (s ++ t) → AllOf ns s
AllOf_front ns [] t p = tt
AllOf_front ns (y ∷ s) t p = (p.0, AllOf_front ns s t p.1)

cond_all : (ns : List ℕ) (x : Entry) (t : List Entry) (b : Bool) → is_of ns x ≡ b → AllOf ns t → AllOf ns (cond b (x ∷ t) t)
cond_all ns x t true e p = (e, p)
cond_all ns x t false e p = p

pub AllOf-only : (ns : List ℕ) (t : List Entry) → AllOf ns (only ns t)
AllOf-only ns [] = tt
AllOf-only ns (x ∷ t) = cond_all ns x (only ns t) (is_of ns x) refl (AllOf-only ns t)

pub only_all : (ns : List ℕ) (t : List Entry) → AllOf ns t → only ns t ≡ t
only_all ns [] p = refl
only_all ns (x ∷ t) p = rw p.0 (ap (λ (u : List Entry). x ∷ u) (only_all ns t p.1))

pub AllOf_more_left : (ms ns : List ℕ) (t : List Entry) → AllOf ms t → AllOf (ms ++ ns) t
AllOf_more_left ms ns [] p = tt
AllOf_more_left ms ns (x ∷ t) p = (is_of-append ms ns x ∙ rw p.0 refl, AllOf_more_left ms ns t p.1)

or_true : (b : Bool) → (b || true) ≡ true
or_true false = refl
or_true true = refl

pub AllOf_more_right : (ms ns : List ℕ) (t : List Entry) → AllOf ns t → AllOf (ms ++ ns) t
AllOf_more_right ms ns [] p = tt
AllOf_more_right ms ns (x ∷ t) p = (is_of-append ms ns x ∙ rw p.0 (or_true (is_of ms x)), AllOf_more_right ms ns t p.1)

pub AllOf-joined : (es : Execs) (t : List Entry) → AllOf (nodes_all es) (joined es t)
AllOf-joined None_left t = tt
AllOf-joined (Then e es) t =
    AllOf-append (nodes e ++ nodes_all es) (only (nodes e) t) (joined es t)
    (AllOf_more_left (nodes e) (nodes_all es) _ (AllOf-only (nodes e) t)) (AllOf_more_right (nodes e) (nodes_all es) _ (AllOf-joined es t))

-- ---- lists with the same parts

abbrev pub SameParts : Execs → List Entry → List Entry → Type 0
SameParts None_left t u = Unit {0}
SameParts (Then e es) t u = (only (nodes e) t ≡ only (nodes e) u) × SameParts es t u

pub same_out : (es : Execs) (t : List Entry) (x : Entry) → is_of (nodes_all es) x ≡ false → SameParts es (t ++ x ∷ []) t
same_out None_left t x h = tt
same_out (Then e es) t x h =
    (only_out (nodes e) t x (not_of_left (nodes e) (nodes_all es) x h), same_out es t x (not_of_right (nodes e) (nodes_all es) x h))

pub same_joined : (es : Execs) (t u : List Entry) → SameParts es t u → joined es t ≡ joined es u
same_joined None_left t u h = refl
same_joined (Then e es) t u h = rw (h.0, same_joined es t u h.1) refl

pub same_in_order : (es : Execs) (t u : List Entry) → SameParts es t u → InOrder es t → InOrder es u
same_in_order None_left t u h p = tt
same_in_order (Then e es) t u h p =
    (subst (Part e) h.0 p.0, λ g. subst (Whole e) h.0 (p.1 (rw (same_joined es t u h.1) g)), same_in_order es t u h.1 p.2)

pub same_each : (es : Execs) (t u : List Entry) → SameParts es t u → EachPart es t → EachPart es u
same_each None_left t u h p = tt
same_each (Then e es) t u h p = (subst (Part e) h.0 p.0, same_each es t u h.1 p.1)

-- ---- no node stands twice

abbrev mutual
  pub Apart : Exec → Type 0
  Apart (Work n) = Unit {0}
  Apart (Leaf n k) = Unit {0}
  Apart (Plan n es) = ApartAll es
  Apart (Par n es) = ApartAll es
  Apart (NonSeq n es) = (has (nodes_all es) n ≡ false) × ApartAll es
  Apart (Sel n es) = (has (nodes_all es) n ≡ false) × ApartAll es
  Apart (If n a b) = (has (nodes a ++ nodes b) n ≡ false) × Apart a × Apart b × ((x : Entry) → is_of (nodes a) x ≡ true → is_of (nodes b) x ≡ false)
  Apart (While n a) = (has (nodes a) n ≡ false) × Apart a

  pub ApartAll : Execs → Type 0
  ApartAll None_left = Unit {0}
  ApartAll (Then e es) = Apart e × ApartAll es × ((x : Entry) → is_of (nodes e) x ≡ true → is_of (nodes_all es) x ≡ false)

pub distinct_left : (ms ns : List ℕ) → AreDistinct (ms ++ ns) → AreDistinct ms
distinct_left [] ns d = tt
distinct_left (m ∷ ms) ns d = (or_false_left _ (has ns m) (sym (has-append ms ns m) ∙ d.0), distinct_left ms ns d.1)

pub distinct_right : (ms ns : List ℕ) → AreDistinct (ms ++ ns) → AreDistinct ns
distinct_right [] ns d = d
distinct_right (m ∷ ms) ns d = distinct_right ms ns d.1

pub same_number : (m n : ℕ) → (m == n) ≡ true → m ≡ n
same_number m n e = grind (arith, nat_tests)

pub distinct_across : (ms ns : List ℕ) (n : ℕ) → AreDistinct (ms ++ ns) → has ms n ≡ true → has ns n ≡ false
distinct_across [] ns n d h = absurd (cc)
distinct_across (m ∷ ms) ns n d h = go (m == n) refl (distinct_across ms ns n d.1)
  where
    go : (b : Bool) → (m == n) ≡ b → (has ms n ≡ true → has ns n ≡ false) → has ns n ≡ false
    go true e f = subst (λ k. has ns k ≡ false) (same_number m n e) (or_false_right (has ms m) _ (sym (has-append ms ns m) ∙ d.0))
    go false e f = f (rw e at h)

entry_across : (ms ns : List ℕ) (o : Option ℕ) → AreDistinct (ms ++ ns) → has_some ms o ≡ true → has_some ns o ≡ false
entry_across ms ns None d h = refl
entry_across ms ns (Some n) d h = distinct_across ms ns n d h

mutual
  pub apart : (e : Exec) → AreDistinct (nodes e) → Apart e
  apart (Work n) d = tt
  apart (Leaf n k) d = tt
  apart (Plan None es) d = apart_all es d
  apart (Plan (Some n) es) d = apart_all es d.1
  apart (Par n es) d = apart_all es d.1
  apart (NonSeq n es) d = (d.0, apart_all es d.1)
  apart (Sel n es) d = (d.0, apart_all es d.1)
  apart (If n a b) d = (
    d.0,
    apart a (distinct_left (nodes a) (nodes b) d.1),
    apart b (distinct_right (nodes a) (nodes b) d.1),
    λ x h. entry_across (nodes a) (nodes b) (number_of x) d.1 h,
  )
  apart (While n a) d = (d.0, apart a d.1)

  pub apart_all : (es : Execs) → AreDistinct (nodes_all es) → ApartAll es
  apart_all None_left d = tt
  apart_all (Then e es) d = (
    apart e (distinct_left (nodes e) (nodes_all es) d),
    apart_all es (distinct_right (nodes e) (nodes_all es) d),
    λ x h. entry_across (nodes e) (nodes_all es) (number_of x) d h,
  )

-- ---- L3: the node of a step is in Next

pub here : (n m : ℕ) (ns : List ℕ) → m ≡ n → has (n ∷ ns) m ≡ true
here n m ns e = grind (arith, nat_tests)

pub of_none : (o : Option ℕ) → has_some [] o ≡ true → ⊥
of_none None h = cc
of_none (Some n) h = cc

pub is_of_first : (xs ys : List ℕ) (x : Entry) → is_of xs x ≡ true → is_of (first_of_two xs ys) x ≡ true
is_of_first [] ys x h = absurd (of_none (number_of x) h)
is_of_first (n ∷ xs) ys x h = h

pub is_of_left : (ms ns : List ℕ) (x : Entry) → is_of ms x ≡ true → is_of (ms ++ ns) x ≡ true
is_of_left ms ns x h = is_of-append ms ns x ∙ rw h refl

pub is_of_right : (ms ns : List ℕ) (x : Entry) → is_of ns x ≡ true → is_of (ms ++ ns) x ≡ true
is_of_right ms ns x h = is_of-append ms ns x ∙ rw h (or_true (is_of ms x))

cut_has : (n k : ℕ) (t rest : List Entry) (x : Entry) → IsCut n k (t ++ x ∷ rest) → is_of (next_work n t) x ≡ true
cut_has n k [] rest (Block m j b) w = here n m [] w.0
cut_has n k [] [] (End m) w = here n m [] w
cut_has n k [] (y ∷ rest) (End m) w = absurd w
cut_has n k [] rest x w = absurd w
cut_has n k (Block m j b ∷ t) rest x w = cut_has n (k + 1) t rest x w.2
cut_has n k (End m ∷ []) rest x w = absurd w
cut_has n k (End m ∷ y ∷ t) rest x w = absurd w
cut_has n k (y ∷ t) rest x w = absurd w

pub work_has : (n : ℕ) (t rest : List Entry) (x : Entry) → IsWork n (t ++ x ∷ rest) → is_of (next_work n t) x ≡ true
work_has n [] rest (Dispatch m v) w = here n m [] w.0
work_has n [] rest x w = absurd w
work_has n (Dispatch m v ∷ t) rest x w = cut_has n 0 t rest x w.1
work_has n (y ∷ t) rest x w = absurd w

pub leaf_has : (k : LeafKind) (n : ℕ) (x : Entry) → IsOfLeaf k n x → is_of (n ∷ []) x ≡ true
leaf_has Assigning n (Assign m v) e = here n m [] e
leaf_has Setting n (Set m) e = here n m [] e
leaf_has Waiting n (Pass m) e = here n m [] e
leaf_has Noting n (Note m) e = here n m [] e
leaf_has k n x e = absurd e

last_has : (whole part said : ℕ → Type 0) (f : ℕ → List ℕ) (x : Entry) (ks : List ℕ) → ((k : ℕ) → part k → said k → is_of (f k) x ≡ true) → LastMayBeCut whole part ks → AtLast said ks → is_of (next_of_last f ks) x ≡ true
last_has whole part said f x [] h q p = absurd p
last_has whole part said f x (k ∷ []) h q p = h k q p
last_has whole part said f x (k ∷ j ∷ ks) h q p = last_has whole part said f x (j ∷ ks) h q.1 p

-- ---- numbers below a count, of which no two are equal, are at most that many

pub tests_apart : (k : ℕ) (ks : List ℕ) → has ks k ≡ false → AllByRecursion (λ y. eqb k y ≡ false) ks
tests_apart k [] e = tt
tests_apart k (j ∷ ks) e =
    (let g : (j == k) ≡ false = or_false_left (j == k) (has ks k) e in grind (arith, nat_tests), tests_apart k ks (or_false_right (j == k) _ e))

are_distinct : (c : ℕ) (ks : List ℕ) → AreDistinctBelow c ks → IsDistinct eqb ks
unfolding IsDistinct
are_distinct c [] d = tt
are_distinct c (k ∷ ks) d = (tests_apart k ks d.1, are_distinct c ks d.2)

are_below : (c : ℕ) (ks : List ℕ) → AreDistinctBelow c ks → (q : ℕ) → list_any (eqb q) ks ≡ true → q < c
are_below c [] d q h = absurd (cc)
are_below c (k ∷ ks) d q h = go (eqb q k) refl (are_below c ks d.2 q)
  where
    go : (b : Bool) → eqb q k ≡ b → (list_any (eqb q) ks ≡ true → q < c) → q < c
    go true e f = let g : q ≡ k = grind (arith, nat_tests) in rw g d.0
    go false e f = f (rw e at h)

one_more_is_left : (c : ℕ) (ks : List ℕ) (k : ℕ) → AreDistinctBelow c ks → k < c → has ks k ≡ false → length ks < c
one_more_is_left c ks k d b e = length-le_from_distinct_below (k ∷ ks) c (are_distinct c (k ∷ ks) (b, e, d)) (are_below c (k ∷ ks) (b, e, d))

pub distinct_few : (c : ℕ) (ks : List ℕ) → AreDistinctBelow c ks → length ks ≤ c
distinct_few c ks d = length-le_from_distinct_below ks c (are_distinct c ks d) (are_below c ks d)

pub some_left : (n a b : ℕ) → a < b → (if a == b then [] else n ∷ []) ≡ n ∷ []
some_left n a b e = grind (arith, nat_tests)

pub pick_has : (n : ℕ) (said : ℕ → Type 0) (x : Entry) → IsSomeAnd (pick_of n x) said → is_of (n ∷ []) x ≡ true
pick_has n said (Pick m k) p = go (m == n) refl
  where
    go : (b : Bool) → (m == n) ≡ b → is_of (n ∷ []) (Pick m k) ≡ true
    go true e = here n m [] (same_number m n e)
    go false e = absurd (rw e at p)
pick_has n said x p = absurd p

pub test_has : (n : ℕ) (said : Bool → Type 0) (x : Entry) → IsSomeAnd (test_of n x) said → is_of (n ∷ []) x ≡ true
test_has n said (Test m k) p = go (m == n) refl
  where
    go : (b : Bool) → (m == n) ≡ b → is_of (n ∷ []) (Test m k) ≡ true
    go true e = here n m [] (same_number m n e)
    go false e = absurd (rw e at p)
test_has n said x p = absurd p

after_has : {A : Type 0} (part later : A → List Entry → Type 0) (f : A → List Entry → List ℕ) (x : Entry) (o : Option A) (t : List Entry) → ((k : A) (u : List Entry) → part k u → later k u → is_of (f k u) x ≡ true) → IsSomeAnd o (λ k. part k t) → IsSomeAnd o (λ k. later k t) → is_of (next_after f o t) x ≡ true
after_has part later f x None t h q p = absurd p
after_has part later f x (Some k) t h q p = h k t q p

loop_has : (n : ℕ) (whole part step : List Entry → Type 0) (f : List Entry → List ℕ) (x : Entry) (ts : List Turn) → ((u : List Entry) → part u → step u → is_of (f u) x ≡ true) → ((u : List Entry) → whole u → f u ≡ []) → IsLoopSoFar whole part ts → StepLoop (IsTest n x) whole step ts → is_of (next_loop n f ts) x ≡ true
loop_has n whole part step f x [] h w q p = test_has n _ x p
loop_has n whole part step f x (Tested true t ∷ []) h w q (inl p) = rw (w t p.1) (test_has n _ x p.0)
loop_has n whole part step f x (Tested true t ∷ []) h w q (inr p) = is_of_first (f t) (n ∷ []) x (h t q p)
loop_has n whole part step f x (Tested false t ∷ []) h w q p = absurd p
loop_has n whole part step f x (Tested true t ∷ s ∷ rest) h w q p = loop_has n whole part step f x (s ∷ rest) h w q.1 p
loop_has n whole part step f x (Tested false t ∷ s ∷ rest) h w q p = absurd q

pub picked_has : (n : ℕ) (c : ℕ) (ks : List ℕ) (x : Entry) → AreDistinctBelow c ks → IsNewPick n c ks x → length ks < c
picked_has n c ks x d p = go (pick_of n x) p
  where
    go : (o : Option ℕ) → IsSomeAnd o (λ k. (k < c) × (has ks k ≡ false)) → length ks < c
    go None q = absurd q
    go (Some k) q = one_more_is_left c ks k d q.0 q.1

mutual
  pub next_has : (e : Exec) (t : List Entry) (x : Entry) → Part e t → Step e t x → is_of (next e t) x ≡ true
  next_has (Work n) t x p s = work_has n t s.0 x s.1
  next_has (Leaf n k) t x p s = rw s.0 (leaf_has k n x s.1)
  next_has (Plan n es) t x p s = next_has_in_order es t x p.1 s
  next_has (Par n es) t x p s = next_has_of_one es t x p.1 s
  next_has (NonSeq n es) t x p (inl s) =
      rw (
        last_empty (λ k. WholeAt es k (part_at es k t)) (λ k. next_at es k (part_at es k t)) (picks n t) (λ k v. empty_at es k (part_at es k t) v) s.1,
        some_left n (length (picks n t)) (count es) (picked_has n (count es) (picks n t) x p.1 s.0),
      )
      (pick_has n _ x s.0)
  next_has (NonSeq n es) t x p (inr s) =
      is_of_first (next_of_last (λ k. next_at es k (part_at es k t)) (picks n t)) _ x
      (last_has (λ k. WholeAt es k (part_at es k t)) (λ k. PartAt es k (part_at es k t)) (λ k. StepAt es k (part_at es k t) x) (λ k. next_at es k (part_at es k t)) x (picks n t)
      (λ k q r. next_has_at es k (part_at es k t) x q r) p.2 s)
  next_has (Sel n es) [] x p s = pick_has n _ x s
  next_has (Sel n es) (y ∷ t) x (inl p) s = absurd (cc)
  next_has (Sel n es) (y ∷ t) x (inr p) s =
      after_has (λ k u. PartAt es k u) (λ k u. StepAt es k u x) (λ k u. next_at es k u) x (pick_of n y) t (λ k u q r. next_has_at es k u x q r) p s
  next_has (If n a b) [] x p s = test_has n _ x s
  next_has (If n a b) (y ∷ t) x (inl p) s = absurd (cc)
  next_has (If n a b) (y ∷ t) x (inr p) s =
      after_has (Answered (λ u. Part a u) (λ u. Part b u)) (Answered (λ u. Step a u x) (λ u. Step b u x)) (next_answered (λ u. next a u) (λ u. next b u)) x (test_of n y) t
      (elim [ true ↦ λ u q r. next_has a u x q r | false ↦ λ u q r. next_has b u x q r ]) p s
  next_has (While n a) t x p s =
      loop_has n (λ u. Whole a u) (λ u. Part a u) (λ u. Step a u x) (λ u. next a u) x (turns n t) (λ u q r. next_has a u x q r) (λ u v. empty_from_whole a u v) p.1 s

  pub next_has_in_order : (es : Execs) (t : List Entry) (x : Entry) → InOrder es t → StepInOrder es t x → is_of (next_in_order es t) x ≡ true
  next_has_in_order None_left t x p s = absurd s
  next_has_in_order (Then e es) t x p (inl s) = is_of_first (next e (only (nodes e) t)) _ x (next_has e (only (nodes e) t) x p.0 s.2)
  next_has_in_order (Then e es) t x p (inr s) = rw (empty_from_whole e (only (nodes e) t) s.1) (next_has_in_order es t x p.2 s.2)

  pub next_has_of_one : (es : Execs) (t : List Entry) (x : Entry) → EachPart es t → StepOfOne es t x → is_of (next_each es t) x ≡ true
  next_has_of_one None_left t x p s = absurd s
  next_has_of_one (Then e es) t x p (inl s) = is_of_left (next e (only (nodes e) t)) (next_each es t) x (next_has e (only (nodes e) t) x p.0 s.1)
  next_has_of_one (Then e es) t x p (inr s) = is_of_right (next e (only (nodes e) t)) (next_each es t) x (next_has_of_one es t x p.1 s.1)

  pub next_has_at : (es : Execs) (k : ℕ) (t : List Entry) (x : Entry) → PartAt es k t → StepAt es k t x → is_of (next_at es k t) x ≡ true
  next_has_at None_left k t x p s = absurd s
  next_has_at (Then e es) zero t x p s = next_has e t x p s
  next_has_at (Then e es) (suc k) t x p s = next_has_at es k t x p s
