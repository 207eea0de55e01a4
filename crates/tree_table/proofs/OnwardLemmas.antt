-- Where a run goes on, told by what is opened and by what comes in.
use Rattle.std.specs.Prelude.{◌≡◌, ◌==◌, ◌||◌, ℕ, Bool, true, false, if◌then◌else◌, List, [], ◌∷◌, ◌++◌, Some, None}
use Rattle.std.proofs.Common.{refl, sym, ◌∙◌, ap, subst}
use Rattle.exec_tree.specs.Exec.{Exec, Work, Leaf, Plan, Par, NonSeq, Sel, If, While, Execs, None_left, Then, nodes, nodes_all, has, count, AreDistinct}
use Rattle.trace_law.specs.Next.{first_of_two, next, next_in_order}
use Rattle.trace_law.specs.Frames.{is_shared}
use Rattle.trace_law.specs.Leading.{has_none, leads}
use Rattle.trace_law.specs.After.{After, after, after_in_order, after_among}
use Rattle.trace_law.specs.After as after
use Rattle.tree_table.specs.Onward.{Onward, coming_in, opens_first, joins_where, onward, onward_in_order, onward_among, acting, acting_all}
use Rattle.tree_table.specs.Onward as onwards
use Rattle.tree_table.proofs.ListLemmas.{clash, same_number, has_left, has_right, has_rest, rest_has, right_has, once_left, once_right, once_across}
use Rattle.tree_table.proofs.TableLemmas.{LeadingLaw}

-- ---- what has entries is among the nodes

rest_in : (n m : ℕ) (ms ns : List ℕ) → (has ms m ≡ true → has ns m ≡ true) → has (n ∷ ms) m ≡ true → has (n ∷ ns) m ≡ true
rest_in n m ms ns f h = go (n == m) refl
  where
    go : (b : Bool) → (n == m) ≡ b → has (n ∷ ns) m ≡ true
    go true e = ap (λ (b : Bool). b || has ns m) e
    go false e = has_rest n ns m (f (rest_has n ms m h e))

both_in : (m : ℕ) (ms ns ms' ns' : List ℕ) → (has ms m ≡ true → has ms' m ≡ true) → (has ns m ≡ true → has ns' m ≡ true) → has (ms ++ ns) m ≡ true → has (ms' ++ ns') m ≡ true
both_in m ms ns ms' ns' f g h = go (has ms m) refl
  where
    go : (b : Bool) → has ms m ≡ b → has (ms' ++ ns') m ≡ true
    go true e = has_left ms' ns' m (f e)
    go false e = has_right ms' ns' m (g (right_has ms ns m h e))

mutual
  acting_in : (e : Exec) (m : ℕ) → has (acting e) m ≡ true → has (nodes e) m ≡ true
  acting_in (Work n) m h = h
  acting_in (Leaf n k) m h = h
  acting_in (Plan None es) m h = acting_all_in es m h
  acting_in (Plan (Some n) es) m h = has_rest n (nodes_all es) m (acting_all_in es m h)
  acting_in (Par n es) m h = has_rest n (nodes_all es) m (acting_all_in es m h)
  acting_in (NonSeq n es) m h = rest_in n m (acting_all es) (nodes_all es) (λ i. acting_all_in es m i) h
  acting_in (Sel n es) m h = rest_in n m (acting_all es) (nodes_all es) (λ i. acting_all_in es m i) h
  acting_in (If n a b) m h = rest_in n m (acting a ++ acting b) (nodes a ++ nodes b) (λ i. both_in m (acting a) (acting b) (nodes a) (nodes b) (λ j. acting_in a m j) (λ j. acting_in b m j) i) h
  acting_in (While n a) m h = rest_in n m (acting a) (nodes a) (λ i. acting_in a m i) h

  acting_all_in : (es : Execs) (m : ℕ) → has (acting_all es) m ≡ true → has (nodes_all es) m ≡ true
  acting_all_in None_left m h = h
  acting_all_in (Then e es) m h = both_in m (acting e) (acting_all es) (nodes e) (nodes_all es) (λ i. acting_in e m i) (λ i. acting_all_in es m i) h

-- ---- what is opened, and what comes in

opens_one : LeadingLaw → (e : Exec) (es : Execs) (k : Onward) (l : List ℕ) → next e [] ≡ l → coming_in (opens_first es k) ≡ after.opens_or (next_in_order es []) (coming_in k)
    → coming_in (if has_none l then opens_first es k else onwards.Opens (leads e)) ≡ after.opens_or (first_of_two l (next_in_order es [])) (coming_in k)
opens_one law e es k [] h rec = rec
opens_one law e es k (n ∷ l) h rec = ap (λ (ns : List ℕ). after.Opens ns) (law e ∙ h)

opens_same : LeadingLaw → (es : Execs) (k : Onward) → coming_in (opens_first es k) ≡ after.opens_or (next_in_order es []) (coming_in k)
opens_same law None_left k = refl
opens_same law (Then e es) k = opens_one law e es k (next e []) refl (opens_same law es k)

joins_same : (b : Bool) (n : ℕ) (k : Onward) → coming_in (joins_where b n k) ≡ after.joins_or b n (coming_in k)
joins_same true n k = refl
joins_same false n k = refl

-- ---- the two tell the same

other : (n m : ℕ) (ns : List ℕ) → has ns n ≡ false → has ns m ≡ true → (n == m) ≡ false
other n m ns out i = go (n == m) refl
  where
    go : (b : Bool) → (n == m) ≡ b → (n == m) ≡ false
    go true e = absurd (clash (has ns n) (subst (λ (q : ℕ). has ns q ≡ true) (sym (same_number n m e)) i) out)
    go false e = e

own_or_same : (b : Bool) (k : Onward) (x : Onward) (y : After) → (b ≡ false → coming_in x ≡ y) → coming_in (if b then k else x) ≡ (if b then coming_in k else y)
own_or_same true k x y h = refl
own_or_same false k x y h = h refl

either_same : (b : Bool) (x x' : Onward) (y y' : After) → (b ≡ true → coming_in x ≡ y) → (b ≡ false → coming_in x' ≡ y') → coming_in (if b then x else x') ≡ (if b then y else y')
either_same true x x' y y' h g = h refl
either_same false x x' y y' h g = g refl

-- what is of the first has entries there, and else of the others
of_first : (ms ns xs ys : List ℕ) (m : ℕ) → AreDistinct (ms ++ ns) → (has ys m ≡ true → has ns m ≡ true) → has (xs ++ ys) m ≡ true → has ms m ≡ true → has xs m ≡ true
of_first ms ns xs ys m d f h i = go (has xs m) refl
  where
    go : (b : Bool) → has xs m ≡ b → has xs m ≡ true
    go true e = e
    go false e = absurd (clash (has ns m) (f (right_has xs ys m h e)) (once_across ms ns d m i))

of_others : (ms xs ys : List ℕ) (m : ℕ) → (has xs m ≡ true → has ms m ≡ true) → has (xs ++ ys) m ≡ true → has ms m ≡ false → has ys m ≡ true
of_others ms xs ys m f h i = go (has xs m) refl
  where
    go : (b : Bool) → has xs m ≡ b → has ys m ≡ true
    go true e = absurd (clash (has ms m) (f e) i)
    go false e = right_has xs ys m h e

mutual
  pub same : LeadingLaw → (e : Exec) (k : Onward) (m : ℕ) → AreDistinct (nodes e) → has (acting e) m ≡ true → coming_in (onward e k m) ≡ after e (coming_in k) m
  same law (Work n) k m d h = refl
  same law (Leaf n j) k m d h = refl
  same law (Plan None es) k m d h = same_in_order law es k m d h
  same law (Plan (Some n) es) k m d h =
      ap (λ (b : Bool). coming_in (if b then k else onward_in_order es k m)) (other n m (nodes_all es) d.0 (acting_all_in es m h)) ∙ same_in_order law es k m d.1 h
  same law (Par n es) k m d h =
      ap (λ (b : Bool). coming_in (if b then k else onward_among es (joins_where (is_shared es) n k) m)) (other n m (nodes_all es) d.0 (acting_all_in es m h))
      ∙ (same_among law es (joins_where (is_shared es) n k) m d.1 h ∙ ap (λ (j : After). after_among es j m) (joins_same (is_shared es) n k))
  same law (NonSeq n es) k m d h =
      own_or_same (n == m) k (onward_among es (onwards.PicksOn n (count es) k) m) (after_among es (after.PicksOn n (count es) (coming_in k)) m)
      (λ e. same_among law es (onwards.PicksOn n (count es) k) m d.1 (rest_has n (acting_all es) m h e))
  same law (Sel n es) k m d h =
      own_or_same (n == m) k (onward_among es k m) (after_among es (coming_in k) m) (λ e. same_among law es k m d.1 (rest_has n (acting_all es) m h e))
  same law (If n a b) k m d h =
      own_or_same (n == m) k (if has (nodes a) m then onward a k m else onward b k m) (if has (nodes a) m then after a (coming_in k) m else after b (coming_in k) m)
      (λ e.
      let i = rest_has n (acting a ++ acting b) m h e in
      either_same (has (nodes a) m) (onward a k m) (onward b k m) (after a (coming_in k) m) (after b (coming_in k) m)
      (λ j. same law a k m (once_left (nodes a) (nodes b) d.1) (of_first (nodes a) (nodes b) (acting a) (acting b) m d.1 (λ g. acting_in b m g) i j))
      (λ j. same law b k m (once_right (nodes a) (nodes b) d.1) (of_others (nodes a) (acting a) (acting b) m (λ g. acting_in a m g) i j)))
  same law (While n a) k m d h =
      own_or_same (n == m) k (onward a (onwards.TestsAgain n) m) (after a (after.TestsAgain n) m) (λ e. same law a (onwards.TestsAgain n) m d.1 (rest_has n (acting a) m h e))

  same_in_order : LeadingLaw → (es : Execs) (k : Onward) (m : ℕ) → AreDistinct (nodes_all es) → has (acting_all es) m ≡ true → coming_in (onward_in_order es k m) ≡ after_in_order es (coming_in k) m
  same_in_order law None_left k m d h = refl
  same_in_order law (Then e es) k m d h =
      either_same (has (nodes e) m) (onward e (opens_first es k) m) (onward_in_order es k m) (after e (after.opens_or (next_in_order es []) (coming_in k)) m) (after_in_order es (coming_in k) m)
      (λ j.
      same law e (opens_first es k) m (once_left (nodes e) (nodes_all es) d) (of_first (nodes e) (nodes_all es) (acting e) (acting_all es) m d (λ g. acting_all_in es m g) h j)
      ∙ ap (λ (t : After). after e t m) (opens_same law es k))
      (λ j. same_in_order law es k m (once_right (nodes e) (nodes_all es) d) (of_others (nodes e) (acting e) (acting_all es) m (λ g. acting_in e m g) h j))

  same_among : LeadingLaw → (es : Execs) (k : Onward) (m : ℕ) → AreDistinct (nodes_all es) → has (acting_all es) m ≡ true → coming_in (onward_among es k m) ≡ after_among es (coming_in k) m
  same_among law None_left k m d h = refl
  same_among law (Then e es) k m d h =
      either_same (has (nodes e) m) (onward e k m) (onward_among es k m) (after e (coming_in k) m) (after_among es (coming_in k) m)
      (λ j. same law e k m (once_left (nodes e) (nodes_all es) d) (of_first (nodes e) (nodes_all es) (acting e) (acting_all es) m d (λ g. acting_all_in es m g) h j))
      (λ j. same_among law es k m (once_right (nodes e) (nodes_all es) d) (of_others (nodes e) (acting e) (acting_all es) m (λ g. acting_in e m g) h j))
