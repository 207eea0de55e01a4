-- A run without loops has only so many entries.
use Rattle.std.specs.Prelude.{◌≡◌, ◌<◌, ◌≤◌, ◌+◌, ℕ, zero, suc, Bool, true, false, ◌==◌, ◌&&◌, ◌||◌, nat_lt, if◌then◌else◌, List, [], ◌∷◌, ◌++◌, length, slice_get, Option, Some, None, IsSomeAnd}
use Rattle.std.specs.List.{list_all}
use Rattle.std.proofs.Common.{refl, sym, ap, subst, inl, inr, arith}
use Rattle.std.proofs.lemmas.Bool.Decides.{nat_tests}
use Rattle.std.proofs.lemmas.Option.{slice_get_within}
use Rattle.path_blocks.specs.declared.limits.TheConstants.{MAX_BLOCKS}
use Rattle.exec_tree.specs.Exec.{LeafKind, Exec, Work, Leaf, Plan, Par, NonSeq, Sel, If, While, Execs, None_left, Then, nodes, nodes_all, works, works_all, has, count}
use Rattle.run_log.specs.declared.entry.Entry.{Entry}
use Rattle.run_log.specs.declared.entry.Entry.TheVariants.{Dispatch, Block, End, Pick, Test, Assign, Set, Pass, Note, Edit}
use Rattle.trace_law.specs.Of.{is_of, only, has_some, number_of}
use Rattle.trace_law.specs.Own.{pick_of, test_of, picks}
use Rattle.trace_law.specs.Elements.{joined, nodes_at, part_at, visits}
use Rattle.trace_law.specs.Whole.{IsCut, IsWork, IsLeaf, AreDistinctBelow, EachPicked, AfterPick, AfterTest, Answered, Whole, WholeAt}
use Rattle.trace_law.specs.Part.{LastMayBeCut, Part, EachPart, InOrder, PartAt}
use Rattle.run_law.specs.Rules.{Rules}
use Rattle.run_law.specs.Fits.{Fits, is_plain, plain, judged, is_due}
use Rattle.run_law.specs.Legal.{Legal}
use Rattle.run_law.proofs.GrowthLemmas.{snoc_ind, legal_front}
use Rattle.run_law.specs.Length.{HasNoLoop, HaveNoLoop, AreNumbered, HasNumbers, HaveNumbers, is_within, most_of, most_entries}

-- ---- lists

-- one where there is one
abbrev pub one_of : List ℕ → ℕ
one_of [] = 0
one_of (n ∷ ns) = 1

one_append : (ms ns : List ℕ) → one_of (ms ++ ns) ≤ one_of ms + one_of ns
one_append [] ns = let f : one_of ns ≤ 0 + one_of ns = omega arith in f
one_append (m ∷ ms) ns = let f : 1 ≤ 1 + one_of ns = omega arith in f

one_small : (ns : List ℕ) → one_of ns ≤ 1
one_small [] = omega arith
one_small (n ∷ ns) = omega arith

one_there : (ns : List ℕ) → 0 < length ns → one_of ns ≡ 1
one_there [] l = absurd (let f : ⊥ = omega (arith, l) in f)
one_there (n ∷ ns) l = refl

length_append : {A : Type 0} (s t : List A) → length (s ++ t) ≡ length s + length t
length_append [] t = let f : length t ≡ 0 + length t = omega arith in f
length_append (x ∷ s) t = let r : length (s ++ t) ≡ length s + length t = length_append s t in let f : suc (length (s ++ t)) ≡ suc (length s) + length t = omega (arith, r) in f

abbrev AreWithin : List Entry → Type 0
AreWithin t = list_all is_within t ≡ true

and_left : (a b : Bool) → (a && b) ≡ true → a ≡ true
and_left true b h = refl
and_left false b h = cc

and_right : (a b : Bool) → (a && b) ≡ true → b ≡ true
and_right true b h = h
and_right false b h = absurd (let f : false ≡ true = h in cc)

and_both : (a b : Bool) → a ≡ true → b ≡ true → (a && b) ≡ true
and_both a b h g = rw (h, g) refl

within_only : (ns : List ℕ) (t : List Entry) → AreWithin t → AreWithin (only ns t)
within_only ns [] h = refl
within_only ns (x ∷ t) h = go (is_of ns x) refl (within_only ns t (and_right (is_within x) (list_all is_within t) h))
  where
    go : (b : Bool) → is_of ns x ≡ b → AreWithin (only ns t) → AreWithin (only ns (x ∷ t))
    go true e rec = rw e (and_both (is_within x) (list_all is_within (only ns t)) (and_left (is_within x) (list_all is_within t) h) rec)
    go false e rec = rw e rec

of_nobody : (o : Option ℕ) → has_some [] o ≡ false
of_nobody None = refl
of_nobody (Some n) = refl

only_none : (t : List Entry) → only [] t ≡ []
only_none [] = refl
only_none (x ∷ t) = rw (of_nobody (number_of x)) (only_none t)

-- what is of either is at most what is of the one and of the other
has_append : (ms ns : List ℕ) (n : ℕ) → has (ms ++ ns) n ≡ (has ms n || has ns n)
has_append [] ns n = refl
has_append (m ∷ ms) ns n = rw (has_append ms ns n) (turned (m == n) (has ms n) (has ns n))
  where
    turned : (a b c : Bool) → (a || (b || c)) ≡ ((a || b) || c)
    turned true b c = refl
    turned false b c = refl

of_append : (ms ns : List ℕ) (o : Option ℕ) → has_some (ms ++ ns) o ≡ (has_some ms o || has_some ns o)
of_append ms ns None = refl
of_append ms ns (Some n) = has_append ms ns n

only_either : (ms ns : List ℕ) (t : List Entry) → length (only (ms ++ ns) t) ≤ length (only ms t) + length (only ns t)
only_either ms ns [] = omega arith
only_either ms ns (x ∷ t) = rw (of_append ms ns (number_of x)) (go (is_of ms x) (is_of ns x) (only_either ms ns t))
  where
    go : (a b : Bool) → length (only (ms ++ ns) t) ≤ length (only ms t) + length (only ns t)
        → length (if a || b then x ∷ only (ms ++ ns) t else only (ms ++ ns) t) ≤ length (if a then x ∷ only ms t else only ms t) + length (if b then x ∷ only ns t else only ns t)
    go true true r = omega (arith, r)
    go true false r = omega (arith, r)
    go false true r = omega (arith, r)
    go false false r = r

-- ---- the bound, part by part

most_append : (ms ns ws vs : List ℕ) → most_of (length (ms ++ ns)) (length (ws ++ vs)) ≡ most_of (length ms) (length ws) + most_of (length ns) (length vs)
most_append ms ns ws vs = rw (length_append ms ns, length_append ws vs) (sums (length ms) (length ns) (length ws) (length vs))
  where
    sums : (a b c d : ℕ) → most_of (a + b) (c + d) ≡ most_of a c + most_of b d
    sums a b c d = omega arith

-- of elements, and of the one at an index
abbrev most_all : Execs → ℕ
most_all es = most_of (length (nodes_all es)) (length (works_all es))

abbrev most_at : Execs → ℕ → ℕ
most_at None_left k = 0
most_at (Then e es) zero = most_entries e
most_at (Then e es) (suc k) = most_at es k

most_then : (e : Exec) (es : Execs) → most_all (Then e es) ≡ most_entries e + most_all es
most_then e es = most_append (nodes e) (nodes_all es) (works e) (works_all es)

at_most_all : (es : Execs) (k : ℕ) → most_at es k ≤ most_all es
at_most_all None_left k = omega arith
at_most_all (Then e es) zero = rw (most_then e es) (let f : most_entries e ≤ most_entries e + most_all es = omega arith in f)
at_most_all (Then e es) (suc k) = rw (most_then e es) (let r : most_at es k ≤ most_all es = at_most_all es k in let f : most_at es k ≤ most_entries e + most_all es = omega (arith, r) in f)

-- ---- indices picked once

abbrev sum_at : Execs → List ℕ → ℕ
sum_at es [] = 0
sum_at es (k ∷ ks) = most_at es k + sum_at es ks

-- the indices behind the first element's, each one less
abbrev lowered : List ℕ → List ℕ
lowered [] = []
lowered (zero ∷ ks) = lowered ks
lowered (suc k ∷ ks) = k ∷ lowered ks

zero_apart : (k : ℕ) → (0 == suc k) ≡ false
zero_apart k = grind (arith, nat_tests)

apart_zero : (k : ℕ) → (suc k == 0) ≡ false
apart_zero k = grind (arith, nat_tests)

lowered_has : (ks : List ℕ) (k : ℕ) → has ks (suc k) ≡ false → has (lowered ks) k ≡ false
lowered_has [] k h = refl
lowered_has (zero ∷ ks) k h = lowered_has ks k (let f : (false || has ks (suc k)) ≡ false = rw (zero_apart k) at h in f)
lowered_has (suc j ∷ ks) k h = go (j == k) refl (lowered_has ks k)
  where
    up : (j k : ℕ) → (j == k) ≡ true → (suc j == suc k) ≡ true
    up j k e = grind (arith, nat_tests)

    down : (j k : ℕ) → (j == k) ≡ false → (suc j == suc k) ≡ false
    down j k e = grind (arith, nat_tests)

    go : (b : Bool) → (j == k) ≡ b → (has ks (suc k) ≡ false → has (lowered ks) k ≡ false) → has (j ∷ lowered ks) k ≡ false
    go true e rec = absurd (let f : (true || has ks (suc k)) ≡ false = rw (up j k e) at h in let g : true ≡ false = f in cc)
    go false e rec = rw e (rec (let f : (false || has ks (suc k)) ≡ false = rw (down j k e) at h in f))

lowered_distinct : (c : ℕ) (ks : List ℕ) → AreDistinctBelow (suc c) ks → AreDistinctBelow c (lowered ks)
lowered_distinct c [] d = d
lowered_distinct c (zero ∷ ks) d = lowered_distinct c ks d.2
lowered_distinct c (suc k ∷ ks) d = (let l : suc k < suc c = d.0 in let f : k < c = omega (arith, l) in f, lowered_has ks k d.1, lowered_distinct c ks d.2)

-- the first element once, where it is picked
abbrev once : Bool → ℕ → ℕ
once true m = m
once false m = 0

once_small : (b : Bool) (m : ℕ) → once b m ≤ m
once_small true m = omega arith
once_small false m = omega arith

sum_splits : (e : Exec) (es : Execs) (c : ℕ) (ks : List ℕ) → AreDistinctBelow c ks → sum_at (Then e es) ks ≡ once (has ks 0) (most_entries e) + sum_at es (lowered ks)
sum_splits e es c [] d = refl
sum_splits e es c (zero ∷ ks) d = rw (sum_splits e es c ks d.2, d.1) (let f : most_entries e + (0 + sum_at es (lowered ks)) ≡ most_entries e + sum_at es (lowered ks) = omega arith in f)
sum_splits e es c (suc k ∷ ks) d = rw (sum_splits e es c ks d.2, apart_zero k) (turned (most_at es k) (once (has ks 0) (most_entries e)) (sum_at es (lowered ks)))
  where
    turned : (a b c : ℕ) → a + (b + c) ≡ b + (a + c)
    turned a b c = omega arith

sum_small : (es : Execs) (ks : List ℕ) → AreDistinctBelow (count es) ks → sum_at es ks ≤ most_all es
sum_small None_left [] d = omega arith
sum_small None_left (k ∷ ks) d = absurd (let l : k < 0 = d.0 in let f : ⊥ = omega (arith, l) in f)
sum_small (Then e es) ks d =
    rw (sum_splits e es (suc (count es)) ks d, most_then e es)
    (let r : sum_at es (lowered ks) ≤ most_all es = sum_small es (lowered ks) (lowered_distinct (count es) ks d) in
    let o : once (has ks 0) (most_entries e) ≤ most_entries e = once_small (has ks 0) (most_entries e) in
    let f : once (has ks 0) (most_entries e) + sum_at es (lowered ks) ≤ most_entries e + most_all es = omega (arith, r, o) in f)

numbered_at : (es : Execs) (k : ℕ) → AreNumbered es → k < count es → one_of (nodes_at es k) ≡ 1
numbered_at None_left k a l = absurd (let f : ⊥ = omega (arith, l) in f)
numbered_at (Then e es) zero a l = one_there (nodes e) a.0
numbered_at (Then e es) (suc k) a l = numbered_at es k a.1 (let f : k < count es = omega (arith, l) in f)

-- each pick and its part
visits_small : (n : ℕ) (es : Execs) (t : List Entry) (ks : List ℕ) → EachPicked (λ k. length (part_at es k t) + 1 ≤ most_at es k) ks → length (visits n es t ks) ≤ sum_at es ks
visits_small n es t [] h = omega arith
visits_small n es t (k ∷ ks) h =
    let r : length (visits n es t ks) ≤ sum_at es ks = visits_small n es t ks h.1 in
    let o : length (part_at es k t) + 1 ≤ most_at es k = h.0 in
    let e : length (part_at es k t ++ visits n es t ks) ≡ length (part_at es k t) + length (visits n es t ks) = length_append (part_at es k t) (visits n es t ks) in
    let f : suc (length (part_at es k t ++ visits n es t ks)) ≤ most_at es k + sum_at es ks = omega (arith, r, o, e) in f

-- what holds of each index below a count, of a whole part and of one so far, holds of each picked
picked_each : (c : ℕ) (whole part said : ℕ → Type 0) (ks : List ℕ) → AreDistinctBelow c ks → ((k : ℕ) → k < c → whole k → said k) → ((k : ℕ) → k < c → part k → said k) → LastMayBeCut whole part ks → EachPicked said ks
picked_each c whole part said [] d w p h = h
picked_each c whole part said (k ∷ []) d w p h = (p k d.0 h, d.2)
picked_each c whole part said (k ∷ j ∷ ks) d w p h = (w k d.0 h.0, picked_each c whole part said (j ∷ ks) d.2 w p h.1)

-- ---- workingsteps and leaves

no_end : (n k m : ℕ) (u : List Entry) → IsCut n k (End m ∷ u) → u ≡ []
no_end n k m [] h = refl
no_end n k m (x ∷ u) h = absurd h

empty_front : (s t : List Entry) → s ++ t ≡ [] → s ≡ []
empty_front [] t e = refl
empty_front (x ∷ s) t e = absurd (let f : x ∷ (s ++ t) ≡ [] = e in cc)

below_max : (j : ℕ) → nat_lt j MAX_BLOCKS ≡ true → j < MAX_BLOCKS
below_max j e = grind (arith, nat_tests)

cut_small : (n k : ℕ) (t rest : List Entry) → AreWithin t → k ≤ MAX_BLOCKS → IsCut n k (t ++ rest) → k + length t ≤ MAX_BLOCKS + 1
cut_small n k [] rest w l h = omega (arith, l)
cut_small n k (Block m j b ∷ t) rest w l h =
    let q : j ≡ k = h.1 in
    let o : j < MAX_BLOCKS = below_max j (and_left (nat_lt j MAX_BLOCKS) (list_all is_within t) w) in
    let r : (k + 1) + length t ≤ MAX_BLOCKS + 1 = cut_small n (k + 1) t rest (and_right (nat_lt j MAX_BLOCKS) (list_all is_within t) w) (let g : k + 1 ≤ MAX_BLOCKS = omega (arith, q, o) in g) h.2 in
    let f : k + suc (length t) ≤ MAX_BLOCKS + 1 = omega (arith, r) in f
cut_small n k (End m ∷ t) rest w l h = rw (empty_front t rest (no_end n k m (t ++ rest) h)) (let f : k + 1 ≤ MAX_BLOCKS + 1 = omega (arith, l) in f)
cut_small n k (Dispatch m v ∷ t) rest w l h = absurd h
cut_small n k (Pick m j ∷ t) rest w l h = absurd h
cut_small n k (Test m b ∷ t) rest w l h = absurd h
cut_small n k (Assign m x ∷ t) rest w l h = absurd h
cut_small n k (Set m ∷ t) rest w l h = absurd h
cut_small n k (Pass m ∷ t) rest w l h = absurd h
cut_small n k (Note m ∷ t) rest w l h = absurd h
cut_small n k (Edit i v ∷ t) rest w l h = absurd h

work_small : (n : ℕ) (t rest : List Entry) → AreWithin t → IsWork n (t ++ rest) → length t ≤ MAX_BLOCKS + 2
work_small n [] rest w h = omega arith
work_small n (Dispatch m v ∷ t) rest w h =
    let r : 0 + length t ≤ MAX_BLOCKS + 1 = cut_small n 0 t rest w (let g : 0 ≤ MAX_BLOCKS = omega arith in g) h.1 in let f : suc (length t) ≤ MAX_BLOCKS + 2 = omega (arith, r) in f
work_small n (Block m j b ∷ t) rest w h = absurd h
work_small n (End m ∷ t) rest w h = absurd h
work_small n (Pick m j ∷ t) rest w h = absurd h
work_small n (Test m b ∷ t) rest w h = absurd h
work_small n (Assign m x ∷ t) rest w h = absurd h
work_small n (Set m ∷ t) rest w h = absurd h
work_small n (Pass m ∷ t) rest w h = absurd h
work_small n (Note m ∷ t) rest w h = absurd h
work_small n (Edit i v ∷ t) rest w h = absurd h

leaf_small : (n : ℕ) (k : LeafKind) (t rest : List Entry) → IsLeaf k n (t ++ rest) → length t ≤ 1
leaf_small n k [] rest h = omega arith
leaf_small n k (x ∷ []) rest h = omega arith
leaf_small n k (x ∷ y ∷ t) rest h = absurd h

-- ---- executables

-- what is whole is a part
abbrev pub WholesAreParts : Type 0
WholesAreParts = (e : Exec) (t : List Entry) → Whole e t → Part e t

whole_at : WholesAreParts → (es : Execs) (k : ℕ) (t : List Entry) → WholeAt es k t → PartAt es k t
whole_at wholes None_left k t h = absurd h
whole_at wholes (Then e es) zero t h = wholes e t h
whole_at wholes (Then e es) (suc k) t h = whole_at wholes es k t h

-- after a pick, and after a test, there is one entry more
after_pick : (n : ℕ) (es : Execs) (t : List Entry) (most : ℕ) → ((k : ℕ) (u : List Entry) → AreWithin u → PartAt es k u → length u ≤ most) → AreWithin t → AfterPick n (λ k u. PartAt es k u) t → length t ≤ most + 1
after_pick n es [] most small w h = absurd h
after_pick n es (x ∷ t) most small w h = go (pick_of n x) h
  where
    go : (o : Option ℕ) → IsSomeAnd o (λ k. PartAt es k t) → length (x ∷ t) ≤ most + 1
    go None g = absurd g
    go (Some k) g = let r : length t ≤ most = small k t (and_right (is_within x) (list_all is_within t) w) g in let f : suc (length t) ≤ most + 1 = omega (arith, r) in f

after_test : (n : ℕ) (yes_part no_part : List Entry → Type 0) (t : List Entry) (most : ℕ) → ((u : List Entry) → AreWithin u → yes_part u → length u ≤ most) → ((u : List Entry) → AreWithin u → no_part u → length u ≤ most)
    → AreWithin t → AfterTest n (Answered yes_part no_part) t → length t ≤ most + 1
after_test n yes_part no_part [] most small_yes small_no w h = absurd h
after_test n yes_part no_part (x ∷ t) most small_yes small_no w h = go (test_of n x) h
  where
    more : length t ≤ most → length (x ∷ t) ≤ most + 1
    more r = let f : suc (length t) ≤ most + 1 = omega (arith, r) in f

    go : (o : Option Bool) → IsSomeAnd o (λ b. Answered yes_part no_part b t) → length (x ∷ t) ≤ most + 1
    go None g = absurd g
    go (Some true) g = more (small_yes t (and_right (is_within x) (list_all is_within t) w) g)
    go (Some false) g = more (small_no t (and_right (is_within x) (list_all is_within t) w) g)

-- a choice is made of at most as many entries as its elements together
chosen : (es : Execs) (n : ℕ) (t : List Entry) → length t ≤ most_all es + 1 → length t + 1 ≤ most_entries (Sel n es)
chosen es n t r = let f : length t + 1 ≤ most_of (suc (length (nodes_all es))) (length (works_all es)) = omega (arith, r) in f

mutual
  -- with one more where there is a node
  pub part_small : WholesAreParts → (e : Exec) (t : List Entry) → HasNoLoop e → HasNumbers e → AreWithin t → Part e t → length t + one_of (nodes e) ≤ most_entries e
  part_small wholes (Work n) t loop numbers w (rest, h) = let r : length t ≤ MAX_BLOCKS + 2 = work_small n t rest w h in let f : length t + 1 ≤ most_of 1 1 = omega (arith, r) in f
  part_small wholes (Leaf n k) t loop numbers w (rest, h) = let r : length t ≤ 1 = leaf_small n k t rest h in let f : length t + 1 ≤ most_of 1 0 = omega (arith, r) in f
  part_small wholes (Plan None es) t loop numbers w h =
      let r : length (joined es t) + one_of (nodes_all es) ≤ most_all es = order_small wholes es t loop numbers w h.1 in
      subst (λ (u : List Entry). length u + one_of (nodes_all es) ≤ most_all es) (sym h.0) r
  part_small wholes (Plan (Some n) es) t loop numbers w h =
      let r : length (joined es t) + one_of (nodes_all es) ≤ most_all es = order_small wholes es t loop numbers w h.1 in
      let q : length t ≡ length (joined es t) = ap (λ (u : List Entry). length u) h.0 in
      let f : length t + 1 ≤ most_of (suc (length (nodes_all es))) (length (works_all es)) = omega (arith, r, q) in f
  part_small wholes (Par n es) t loop numbers w h =
      let r : length (only (nodes_all es) t) ≤ most_all es = each_small wholes es t loop numbers w h.1 in
      let q : length (only (nodes_all es) t) ≡ length t = ap (λ (u : List Entry). length u) h.0 in
      let f : length t + 1 ≤ most_of (suc (length (nodes_all es))) (length (works_all es)) = omega (arith, r, q) in f
  part_small wholes (NonSeq n es) t loop numbers w h =
      let small : (k : ℕ) → k < count es → PartAt es k (part_at es k t) → length (part_at es k t) + 1 ≤ most_at es k =
      λ k l p. subst (λ (o : ℕ). length (part_at es k t) + o ≤ most_at es k) (numbered_at es k numbers.0 l) (at_small wholes es k (part_at es k t) loop numbers.1 (within_only (nodes_at es k) t w) p) in
      let each : EachPicked (λ k. length (part_at es k t) + 1 ≤ most_at es k) (picks n t) =
      picked_each (count es) (λ k. WholeAt es k (part_at es k t)) (λ k. PartAt es k (part_at es k t)) (λ k. length (part_at es k t) + 1 ≤ most_at es k) (picks n t) h.1
      (λ k l p. small k l (whole_at wholes es k (part_at es k t) p)) small h.2 in
      let r : length (visits n es t (picks n t)) ≤ sum_at es (picks n t) = visits_small n es t (picks n t) each in
      let s : sum_at es (picks n t) ≤ most_all es = sum_small es (picks n t) h.1 in
      let q : length t ≡ length (visits n es t (picks n t)) = ap (λ (u : List Entry). length u) h.0 in
      let f : length t + 1 ≤ most_of (suc (length (nodes_all es))) (length (works_all es)) = omega (arith, r, s, q) in f
  part_small wholes (Sel n es) t loop numbers w (inl e) = rw e (let f : 0 + 1 ≤ most_of (suc (length (nodes_all es))) (length (works_all es)) = omega arith in f)
  part_small wholes (Sel n es) t loop numbers w (inr h) =
      chosen es n t
      (after_pick n es t (most_all es)
      (λ k u v p. let r : length u + one_of (nodes_at es k) ≤ most_at es k = at_small wholes es k u loop numbers v p in
      let s : most_at es k ≤ most_all es = at_most_all es k in let f : length u ≤ most_all es = omega (arith, r, s) in f)
      w h)
  part_small wholes (If n a b) t loop numbers w (inl e) = rw e (let f : 0 + 1 ≤ most_of (suc (length (nodes a ++ nodes b))) (length (works a ++ works b)) = omega arith in f)
  part_small wholes (If n a b) t loop numbers w (inr h) =
      let q : most_of (length (nodes a ++ nodes b)) (length (works a ++ works b)) ≡ most_entries a + most_entries b = most_append (nodes a) (nodes b) (works a) (works b) in
      let r : length t ≤ (most_entries a + most_entries b) + 1 =
      after_test n (λ u. Part a u) (λ u. Part b u) t (most_entries a + most_entries b)
      (λ u v p. let r : length u + one_of (nodes a) ≤ most_entries a = part_small wholes a u loop.0 numbers.0 v p in let f : length u ≤ most_entries a + most_entries b = omega (arith, r) in f)
      (λ u v p. let r : length u + one_of (nodes b) ≤ most_entries b = part_small wholes b u loop.1 numbers.1 v p in let f : length u ≤ most_entries a + most_entries b = omega (arith, r) in f)
      w h in
      let f : length t + 1 ≤ most_of (suc (length (nodes a ++ nodes b))) (length (works a ++ works b)) = omega (arith, r, q) in f
  part_small wholes (While n a) t loop numbers w h = absurd loop

  order_small : WholesAreParts → (es : Execs) (t : List Entry) → HaveNoLoop es → HaveNumbers es → AreWithin t → InOrder es t → length (joined es t) + one_of (nodes_all es) ≤ most_all es
  order_small wholes None_left t loop numbers w h = omega arith
  order_small wholes (Then e es) t loop numbers w h =
      let r : length (only (nodes e) t) + one_of (nodes e) ≤ most_entries e = part_small wholes e (only (nodes e) t) loop.0 numbers.0 (within_only (nodes e) t w) h.0 in
      let s : length (joined es t) + one_of (nodes_all es) ≤ most_all es = order_small wholes es t loop.1 numbers.1 w h.2 in
      let o : one_of (nodes e ++ nodes_all es) ≤ one_of (nodes e) + one_of (nodes_all es) = one_append (nodes e) (nodes_all es) in
      rw (length_append (only (nodes e) t) (joined es t), most_then e es)
      (let f : (length (only (nodes e) t) + length (joined es t)) + one_of (nodes e ++ nodes_all es) ≤ most_entries e + most_all es = omega (arith, r, s, o) in f)

  each_small : WholesAreParts → (es : Execs) (t : List Entry) → HaveNoLoop es → HaveNumbers es → AreWithin t → EachPart es t → length (only (nodes_all es) t) ≤ most_all es
  each_small wholes None_left t loop numbers w h = rw (only_none t) (let f : 0 ≤ most_of 0 0 = omega arith in f)
  each_small wholes (Then e es) t loop numbers w h =
      let r : length (only (nodes e) t) + one_of (nodes e) ≤ most_entries e = part_small wholes e (only (nodes e) t) loop.0 numbers.0 (within_only (nodes e) t w) h.0 in
      let s : length (only (nodes_all es) t) ≤ most_all es = each_small wholes es t loop.1 numbers.1 w h.1 in
      let o : length (only (nodes e ++ nodes_all es) t) ≤ length (only (nodes e) t) + length (only (nodes_all es) t) = only_either (nodes e) (nodes_all es) t in
      rw (most_then e es) (let f : length (only (nodes e ++ nodes_all es) t) ≤ most_entries e + most_all es = omega (arith, r, s, o) in f)

  at_small : WholesAreParts → (es : Execs) (k : ℕ) (u : List Entry) → HaveNoLoop es → HaveNumbers es → AreWithin u → PartAt es k u → length u + one_of (nodes_at es k) ≤ most_at es k
  at_small wholes None_left k u loop numbers w h = absurd h
  at_small wholes (Then e es) zero u loop numbers w h = part_small wholes e u loop.0 numbers.0 w h
  at_small wholes (Then e es) (suc k) u loop numbers w h = at_small wholes es k u loop.1 numbers.1 w h

-- ---- the bound

pub at_most : WholesAreParts → (e : Exec) (t : List Entry) → HasNoLoop e → HasNumbers e → AreWithin t → Part e t → length t ≤ most_entries e
at_most wholes e t loop numbers w p = let r : length t + one_of (nodes e) ≤ most_entries e = part_small wholes e t loop numbers w p in let f : length t ≤ most_entries e = omega (arith, r) in f

pub fewer : WholesAreParts → (e : Exec) (t : List Entry) → HasNoLoop e → HasNumbers e → 0 < length (nodes e) → AreWithin t → Part e t → length t < most_entries e
fewer wholes e t loop numbers l w p =
    let r : length t + one_of (nodes e) ≤ most_entries e = part_small wholes e t loop numbers w p in
    let q : one_of (nodes e) ≡ 1 = one_there (nodes e) l in
    let f : length t < most_entries e = omega (arith, r, q) in f

-- ---- legal runs

-- each entry is an edit's or a node's
pub counted : (t : List Entry) → length t ≡ judged t + length (plain t)
counted [] = refl
counted (Edit i v ∷ t) = let r : length t ≡ judged t + length (plain t) = counted t in let f : suc (length t) ≡ (judged t + 1) + length (plain t) = omega (arith, r) in f
counted (Dispatch m v ∷ t) = let r : length t ≡ judged t + length (plain t) = counted t in let f : suc (length t) ≡ judged t + suc (length (plain t)) = omega (arith, r) in f
counted (Block m k b ∷ t) = let r : length t ≡ judged t + length (plain t) = counted t in let f : suc (length t) ≡ judged t + suc (length (plain t)) = omega (arith, r) in f
counted (End m ∷ t) = let r : length t ≡ judged t + length (plain t) = counted t in let f : suc (length t) ≡ judged t + suc (length (plain t)) = omega (arith, r) in f
counted (Pick m k ∷ t) = let r : length t ≡ judged t + length (plain t) = counted t in let f : suc (length t) ≡ judged t + suc (length (plain t)) = omega (arith, r) in f
counted (Test m b ∷ t) = let r : length t ≡ judged t + length (plain t) = counted t in let f : suc (length t) ≡ judged t + suc (length (plain t)) = omega (arith, r) in f
counted (Assign m x ∷ t) = let r : length t ≡ judged t + length (plain t) = counted t in let f : suc (length t) ≡ judged t + suc (length (plain t)) = omega (arith, r) in f
counted (Set m ∷ t) = let r : length t ≡ judged t + length (plain t) = counted t in let f : suc (length t) ≡ judged t + suc (length (plain t)) = omega (arith, r) in f
counted (Pass m ∷ t) = let r : length t ≡ judged t + length (plain t) = counted t in let f : suc (length t) ≡ judged t + suc (length (plain t)) = omega (arith, r) in f
counted (Note m ∷ t) = let r : length t ≡ judged t + length (plain t) = counted t in let f : suc (length t) ≡ judged t + suc (length (plain t)) = omega (arith, r) in f

-- how many edits an entry judges
abbrev pub judges : Entry → ℕ
judges (Edit i v) = 1
judges _ = 0

pub judged_more : (t : List Entry) (x : Entry) → judged (t ++ x ∷ []) ≡ judged t + judges x
judged_more [] (Edit i v) = refl
judged_more [] (Dispatch m v) = refl
judged_more [] (Block m k b) = refl
judged_more [] (End m) = refl
judged_more [] (Pick m k) = refl
judged_more [] (Test m b) = refl
judged_more [] (Assign m x) = refl
judged_more [] (Set m) = refl
judged_more [] (Pass m) = refl
judged_more [] (Note m) = refl
judged_more (Edit i v ∷ t) x = let r : judged (t ++ x ∷ []) ≡ judged t + judges x = judged_more t x in let f : judged (t ++ x ∷ []) + 1 ≡ (judged t + 1) + judges x = omega (arith, r) in f
judged_more (Dispatch m v ∷ t) x = judged_more t x
judged_more (Block m k b ∷ t) x = judged_more t x
judged_more (End m ∷ t) x = judged_more t x
judged_more (Pick m k ∷ t) x = judged_more t x
judged_more (Test m b ∷ t) x = judged_more t x
judged_more (Assign m y ∷ t) x = judged_more t x
judged_more (Set m ∷ t) x = judged_more t x
judged_more (Pass m ∷ t) x = judged_more t x
judged_more (Note m ∷ t) x = judged_more t x

-- an edit that is due is there
due_there : (r : Rules) (t : List Entry) (o : Option ℕ) → slice_get r.edits (judged t) ≡ o → is_due r t ≡ true → judged t < length r.edits
due_there r t None e h = absurd (let f : false ≡ true = rw e at h in cc)
due_there r t (Some at) e h = slice_get_within r.edits (judged t) at e

pub judged_within : (r : Rules) (t : List Entry) → Legal r t → judged t ≤ length r.edits
judged_within r = snoc_ind (λ t. Legal r t → judged t ≤ length r.edits) (λ l. let f : 0 ≤ length r.edits = omega arith in f) more
  where
    same : (s : List Entry) → judged s ≤ length r.edits → judged s + 0 ≤ length r.edits
    same s l = let g : judged s + 0 ≤ length r.edits = omega (arith, l) in g

    grown : (s : List Entry) (x : Entry) → Fits r s x → judged s ≤ length r.edits → judged s + judges x ≤ length r.edits
    grown s (Edit i v) f l = let d : judged s < length r.edits = due_there r s (slice_get r.edits (judged s)) refl f.due in let g : judged s + 1 ≤ length r.edits = omega (arith, d) in g
    grown s (Dispatch m v) f l = same s l
    grown s (Block m k b) f l = same s l
    grown s (End m) f l = same s l
    grown s (Pick m k) f l = same s l
    grown s (Test m b) f l = same s l
    grown s (Assign m x) f l = same s l
    grown s (Set m) f l = same s l
    grown s (Pass m) f l = same s l
    grown s (Note m) f l = same s l

    more : (s : List Entry) (x : Entry) → (Legal r s → judged s ≤ length r.edits) → Legal r (s ++ x ∷ []) → judged (s ++ x ∷ []) ≤ length r.edits
    more s x ih l = rw (judged_more s x) (grown s x (l s x [] refl) (ih (legal_front r s (x ∷ []) l)))

-- the entries of a run whose paths are short are within
within_append : (s t : List Entry) → AreWithin s → AreWithin t → AreWithin (s ++ t)
within_append [] t h g = g
within_append (x ∷ s) t h g = and_both (is_within x) (list_all is_within (s ++ t)) (and_left (is_within x) (list_all is_within s) h) (within_append s t (and_right (is_within x) (list_all is_within s) h) g)

below_test : (j : ℕ) → j < MAX_BLOCKS → nat_lt j MAX_BLOCKS ≡ true
below_test j l = grind (arith, nat_tests)

within_plain : (t : List Entry) → AreWithin t → AreWithin (plain t)
within_plain [] h = refl
within_plain (x ∷ t) h = go (is_plain x) refl (within_plain t (and_right (is_within x) (list_all is_within t) h))
  where
    go : (b : Bool) → is_plain x ≡ b → AreWithin (plain t) → AreWithin (plain (x ∷ t))
    go true e rec = rw e (and_both (is_within x) (list_all is_within (plain t)) (and_left (is_within x) (list_all is_within t) h) rec)
    go false e rec = rw e rec

pub legal_within : (r : Rules) → ((u : List Entry) (n : ℕ) → length (r.path u n) ≤ MAX_BLOCKS) → (t : List Entry) → Legal r t → AreWithin t
legal_within r short = snoc_ind (λ t. Legal r t → AreWithin t) (λ l. refl) more
  where
    one : (s : List Entry) (x : Entry) → Fits r s x → is_within x ≡ true
    one s (Block m k b) f =
        let l : k < length (r.path s m) = slice_get_within (r.path s m) k b f.values in
        let q : length (r.path s m) ≤ MAX_BLOCKS = short s m in
        below_test k (let g : k < MAX_BLOCKS = omega (arith, l, q) in g)
    one s (Edit i v) f = refl
    one s (Dispatch m v) f = refl
    one s (End m) f = refl
    one s (Pick m k) f = refl
    one s (Test m b) f = refl
    one s (Assign m x) f = refl
    one s (Set m) f = refl
    one s (Pass m) f = refl
    one s (Note m) f = refl

    more : (s : List Entry) (x : Entry) → (Legal r s → AreWithin s) → Legal r (s ++ x ∷ []) → AreWithin (s ++ x ∷ [])
    more s x ih l = within_append s (x ∷ []) (ih (legal_front r s (x ∷ []) l)) (and_both (is_within x) true (one s x (l s x [] refl)) refl)

pub legal_fewer : WholesAreParts → (r : Rules) (t : List Entry) → Part (r.tree t) (plain t) → Legal r t → HasNoLoop (r.tree t) → HasNumbers (r.tree t) → 0 < length (nodes (r.tree t)) → ((u : List Entry) (n : ℕ) → length (r.path u n) ≤ MAX_BLOCKS) → length t < length r.edits + most_entries (r.tree t)
legal_fewer wholes r t part legal loop numbers there short =
    let a : length (plain t) < most_entries (r.tree t) = fewer wholes (r.tree t) (plain t) loop numbers there (within_plain t (legal_within r short t legal)) part in
    let b : judged t ≤ length r.edits = judged_within r t legal in
    let c : length t ≡ judged t + length (plain t) = counted t in
    let f : length t < length r.edits + most_entries (r.tree t) = omega (arith, a, b, c) in f
