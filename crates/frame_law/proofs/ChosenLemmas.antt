-- Where a run can go on at a node, the node's own frame says so; so a selective that is picked of wasn't before.
use Rattle.std.specs.Prelude.{◌≡◌, ◌⊎◌, ◌==◌, ◌||◌, if◌then◌else◌, ℕ, zero, suc, Bool, true, false, List, [], ◌∷◌, ◌++◌, length, Option, Some, None}
use Rattle.std.proofs.Common.{refl, sym, ◌∙◌, inl, inr}
use Rattle.exec_tree.specs.Exec.{Exec, Work, Leaf, Plan, Par, NonSeq, Sel, If, While, Execs, None_left, Then, nodes, nodes_all, has, number_or_none, count, AreDistinct}
use Rattle.trace_law.specs.Next.{first_of_two, next_of_last}
use Rattle.trace_law.specs.Cells.{Cell, Cutting, Going, Over, Picked, AnsweredBy, Left, if_going, picked, answer, after_picks, after_answer, next_by, next_by_order, next_by_each, next_by_at}
use Rattle.trace_law.proofs.StepLemmas.{distinct_left, distinct_right, distinct_across, has-append}
use Rattle.trace_law.proofs.StepForthLemmas.{neither}
use Rattle.trace_law.proofs.ContinueLemmas.{clash}
use Rattle.frame_law.specs.Executable.{executable_at, executable_among}
use Rattle.frame_law.proofs.OutsideLemmas.{no_left, no_right, not_first, not_rest}

-- ---- lists without a node

pub no_append : (a b : List ℕ) (q : ℕ) → has a q ≡ false → has b q ≡ false → has (a ++ b) q ≡ false
no_append a b q h i = has-append a b q ∙ neither (has a q) (has b q) h i

no_first : (a b : List ℕ) (q : ℕ) → has a q ≡ false → has b q ≡ false → has (first_of_two a b) q ≡ false
no_first [] b q h i = i
no_first (n ∷ a) b q h i = h

no_one : (n q : ℕ) → (n == q) ≡ false → has (n ∷ []) q ≡ false
no_one n q h = rw h refl

no_going : (cell : Cell) (n q : ℕ) → has (n ∷ []) q ≡ false → has (if_going cell n) q ≡ false
no_going (Cutting o) n q h = h
no_going Going n q h = h
no_going Over n q h = refl
no_going (Picked ks) n q h = h
no_going (AnsweredBy o) n q h = h
no_going (Left k) n q h = h

no_last : (f : ℕ → List ℕ) (ks : List ℕ) (q : ℕ) → ((k : ℕ) → has (f k) q ≡ false) → has (next_of_last f ks) q ≡ false
no_last f [] q h = refl
no_last f (k ∷ []) q h = h k
no_last f (k ∷ j ∷ ks) q h = no_last f (j ∷ ks) q h

no_picks : (f : ℕ → List ℕ) (ks : List ℕ) (n q : ℕ) → (n == q) ≡ false → ((k : ℕ) → has (f k) q ≡ false) → has (after_picks n ks f) q ≡ false
no_picks f [] n q o h = no_one n q o
no_picks f (k ∷ ks) n q o h = h k

no_answer : (o : Option Bool) (a b : List ℕ) (n q : ℕ) → (n == q) ≡ false → has a q ≡ false → has b q ≡ false → has (after_answer n o a b) q ≡ false
no_answer None a b n q o h i = no_one n q o
no_answer (Some true) a b n q o h i = h
no_answer (Some false) a b n q o h i = i

no_rest : (b : Bool) (n q : ℕ) → (n == q) ≡ false → has (if b then [] else n ∷ []) q ≡ false
no_rest true n q h = refl
no_rest false n q h = no_one n q h

-- ---- a run goes on at its own nodes alone

mutual
  by_outside : (c : ℕ → Cell) (e : Exec) (q : ℕ) → has (nodes e) q ≡ false → has (next_by c e) q ≡ false
  by_outside c (Work n) q h = no_going (c n) n q h
  by_outside c (Leaf n k) q h = no_going (c n) n q h
  by_outside c (Plan n es) q h = order_outside c es q (no_right (number_or_none n) (nodes_all es) q h)
  by_outside c (Par n es) q h = each_outside c es q (not_rest n (nodes_all es) q h)
  by_outside c (NonSeq n es) q h =
      no_first _ _ q (no_last (λ k. next_by_at c es k) (picked (c n)) q (λ k. at_outside c es k q (not_rest n (nodes_all es) q h)))
      (no_rest (length (picked (c n)) == count es) n q (not_first n (nodes_all es) q h))
  by_outside c (Sel n es) q h = no_picks (λ k. next_by_at c es k) (picked (c n)) n q (not_first n (nodes_all es) q h) (λ k. at_outside c es k q (not_rest n (nodes_all es) q h))
  by_outside c (If n a b) q h =
      let r : has (nodes a ++ nodes b) q ≡ false = not_rest n (nodes a ++ nodes b) q h in
      no_answer (answer (c n)) (next_by c a) (next_by c b) n q (not_first n (nodes a ++ nodes b) q h) (by_outside c a q (no_left (nodes a) (nodes b) q r)) (by_outside c b q (no_right (nodes a) (nodes b) q r))
  by_outside c (While n a) q h =
      let o : (n == q) ≡ false = not_first n (nodes a) q h in
      no_answer (answer (c n)) (first_of_two (next_by c a) (n ∷ [])) [] n q o (no_first (next_by c a) (n ∷ []) q (by_outside c a q (not_rest n (nodes a) q h)) (no_one n q o)) refl

  order_outside : (c : ℕ → Cell) (es : Execs) (q : ℕ) → has (nodes_all es) q ≡ false → has (next_by_order c es) q ≡ false
  order_outside c None_left q h = refl
  order_outside c (Then e es) q h = no_first _ _ q (by_outside c e q (no_left (nodes e) (nodes_all es) q h)) (order_outside c es q (no_right (nodes e) (nodes_all es) q h))

  each_outside : (c : ℕ → Cell) (es : Execs) (q : ℕ) → has (nodes_all es) q ≡ false → has (next_by_each c es) q ≡ false
  each_outside c None_left q h = refl
  each_outside c (Then e es) q h = no_append _ _ q (by_outside c e q (no_left (nodes e) (nodes_all es) q h)) (each_outside c es q (no_right (nodes e) (nodes_all es) q h))

  at_outside : (c : ℕ → Cell) (es : Execs) (k q : ℕ) → has (nodes_all es) q ≡ false → has (next_by_at c es k) q ≡ false
  at_outside c None_left k q h = refl
  at_outside c (Then e es) zero q h = by_outside c e q (no_left (nodes e) (nodes_all es) q h)
  at_outside c (Then e es) (suc k) q h = at_outside c es k q (no_right (nodes e) (nodes_all es) q h)

-- ---- and at a node as its own frame says

in_first : (a b : List ℕ) (q : ℕ) → has (first_of_two a b) q ≡ true → has b q ≡ false → has a q ≡ true
in_first [] b q h o = absurd (clash (has b q) h o)
in_first (n ∷ a) b q h o = h

in_second : (a b : List ℕ) (q : ℕ) → has (first_of_two a b) q ≡ true → has a q ≡ false → has b q ≡ true
in_second [] b q h o = h
in_second (n ∷ a) b q h o = absurd (clash (has (n ∷ a) q) h o)

or_first : (a b : Bool) → (a || b) ≡ true → b ≡ false → a ≡ true
or_first true b h o = refl
or_first false b h o = absurd (clash b h o)

or_second : (a b : Bool) → (a || b) ≡ true → a ≡ false → b ≡ true
or_second true b h o = absurd (cc)
or_second false b h o = h

in_last : (f : ℕ → List ℕ) (ks : List ℕ) (q : ℕ) (G : Type 0) → ((k : ℕ) → has (f k) q ≡ true → G) → has (next_of_last f ks) q ≡ true → G
in_last f [] q G h i = absurd (cc)
in_last f (k ∷ []) q G h i = h k i
in_last f (k ∷ j ∷ ks) q G h i = in_last f (j ∷ ks) q G h i

in_picks : (f : ℕ → List ℕ) (ks : List ℕ) (n q : ℕ) (G : Type 0) → (n == q) ≡ false → ((k : ℕ) → has (f k) q ≡ true → G) → has (after_picks n ks f) q ≡ true → G
in_picks f [] n q G o h i = absurd (clash (has (n ∷ []) q) i (no_one n q o))
in_picks f (k ∷ ks) n q G o h i = h k i

in_answer : (o : Option Bool) (a b : List ℕ) (n q : ℕ) → (n == q) ≡ false → has (after_answer n o a b) q ≡ true → (has a q ≡ true) ⊎ (has b q ≡ true)
in_answer None a b n q d h = absurd (clash (has (n ∷ []) q) h (no_one n q d))
in_answer (Some true) a b n q d h = inl h
in_answer (Some false) a b n q d h = inr h

own_or : (c : ℕ → Cell) (e f : Exec) (m : ℕ) (b : Bool) → has (next_by c e) m ≡ true → (b ≡ false → has (next_by c f) m ≡ true) → has (next_by c (if b then e else f)) m ≡ true
own_or c e f m true h g = h
own_or c e f m false h g = g refl

one_or : (c : ℕ → Cell) (e f : Exec) (m : ℕ) (b : Bool) → (b ≡ true → has (next_by c e) m ≡ true) → (b ≡ false → has (next_by c f) m ≡ true) → has (next_by c (if b then e else f)) m ≡ true
one_or c e f m true h g = h refl
one_or c e f m false h g = g refl

mutual
  pub by_node : (c : ℕ → Cell) (e : Exec) (m : ℕ) → AreDistinct (nodes e) → has (next_by c e) m ≡ true → has (next_by c (executable_at e m)) m ≡ true
  by_node c (Work n) m d h = h
  by_node c (Leaf n k) m d h = h
  by_node c (Plan n es) m d h = own_or c (Plan n es) (executable_among es m) m (has (number_or_none n) m) h (λ o. order_node c es m (distinct_right (number_or_none n) (nodes_all es) d) h)
  by_node c (Par n es) m d h = own_or c (Par n es) (executable_among es m) m (n == m) h (λ o. each_node c es m d.1 h)
  by_node c (NonSeq n es) m d h =
      own_or c (NonSeq n es) (executable_among es m) m (n == m) h
      (λ o. in_last (λ k. next_by_at c es k) (picked (c n)) m _ (λ k i. at_node c es k m d.1 i) (in_first _ _ m h (no_rest (length (picked (c n)) == count es) n m o)))
  by_node c (Sel n es) m d h =
      own_or c (Sel n es) (executable_among es m) m (n == m) h (λ o. in_picks (λ k. next_by_at c es k) (picked (c n)) n m _ o (λ k i. at_node c es k m d.1 i) h)
  by_node c (If n a b) m d h =
      own_or c (If n a b) (if has (nodes a) m then executable_at a m else executable_at b m) m (n == m) h
      (λ o.
      let z = in_answer (answer (c n)) (next_by c a) (next_by c b) n m o h in
      one_or c (executable_at a m) (executable_at b m) m (has (nodes a) m)
      (λ i. by_node c a m (distinct_left (nodes a) (nodes b) d.1) (elim z [ inl g ↦ g | inr g ↦ absurd (clash (has (next_by c b) m) g (by_outside c b m (distinct_across (nodes a) (nodes b) m d.1 i))) ]))
      (λ i. by_node c b m (distinct_right (nodes a) (nodes b) d.1) (elim z [ inl g ↦ absurd (clash (has (next_by c a) m) g (by_outside c a m i)) | inr g ↦ g ])))
  by_node c (While n a) m d h =
      own_or c (While n a) (executable_at a m) m (n == m) h
      (λ o.
      by_node c a m d.1
      (elim (in_answer (answer (c n)) (first_of_two (next_by c a) (n ∷ [])) [] n m o h) [
        | inl g ↦ in_first (next_by c a) (n ∷ []) m g (no_one n m o)
        | inr g ↦ absurd (cc)
      ]))

  order_node : (c : ℕ → Cell) (es : Execs) (m : ℕ) → AreDistinct (nodes_all es) → has (next_by_order c es) m ≡ true → has (next_by c (executable_among es m)) m ≡ true
  order_node c None_left m d h = absurd (cc)
  order_node c (Then e es) m d h =
      one_or c (executable_at e m) (executable_among es m) m (has (nodes e) m)
      (λ i. by_node c e m (distinct_left (nodes e) (nodes_all es) d) (in_first _ _ m h (order_outside c es m (distinct_across (nodes e) (nodes_all es) m d i))))
      (λ i. order_node c es m (distinct_right (nodes e) (nodes_all es) d) (in_second _ _ m h (by_outside c e m i)))

  each_node : (c : ℕ → Cell) (es : Execs) (m : ℕ) → AreDistinct (nodes_all es) → has (next_by_each c es) m ≡ true → has (next_by c (executable_among es m)) m ≡ true
  each_node c None_left m d h = absurd (cc)
  each_node c (Then e es) m d h =
      let either : (has (next_by c e) m || has (next_by_each c es) m) ≡ true = sym (has-append (next_by c e) (next_by_each c es) m) ∙ h in
      one_or c (executable_at e m) (executable_among es m) m (has (nodes e) m)
      (λ i. by_node c e m (distinct_left (nodes e) (nodes_all es) d) (or_first _ _ either (each_outside c es m (distinct_across (nodes e) (nodes_all es) m d i))))
      (λ i. each_node c es m (distinct_right (nodes e) (nodes_all es) d) (or_second _ _ either (by_outside c e m i)))

  at_node : (c : ℕ → Cell) (es : Execs) (k m : ℕ) → AreDistinct (nodes_all es) → has (next_by_at c es k) m ≡ true → has (next_by c (executable_among es m)) m ≡ true
  at_node c None_left k m d h = absurd (cc)
  at_node c (Then e es) zero m d h =
      one_or c (executable_at e m) (executable_among es m) m (has (nodes e) m)
      (λ i. by_node c e m (distinct_left (nodes e) (nodes_all es) d) h) (λ i. absurd (clash (has (next_by c e) m) h (by_outside c e m i)))
  at_node c (Then e es) (suc k) m d h =
      one_or c (executable_at e m) (executable_among es m) m (has (nodes e) m)
      (λ i. absurd (clash (has (next_by_at c es k) m) h (at_outside c es k m (distinct_across (nodes e) (nodes_all es) m d i))))
      (λ i. at_node c es k m (distinct_right (nodes e) (nodes_all es) d) h)

-- a selective at which the run can go on itself has no pick
pub unchosen : (c : ℕ → Cell) (n : ℕ) (es : Execs) → has (nodes_all es) n ≡ false → has (next_by c (Sel n es)) n ≡ true → picked (c n) ≡ []
unchosen c n es own h = go (picked (c n)) h
  where
    go : (ks : List ℕ) → has (after_picks n ks (λ k. next_by_at c es k)) n ≡ true → ks ≡ []
    go [] i = refl
    go (k ∷ ks) i = absurd (clash (has (next_by_at c es k) n) i (at_outside c es k n own))

-- ---- the nodes of what is found are distinct

distinct_or : (b : Bool) (e f : Exec) → AreDistinct (nodes e) → AreDistinct (nodes f) → AreDistinct (nodes (if b then e else f))
distinct_or true e f d g = d
distinct_or false e f d g = g

mutual
  pub found_distinct : (e : Exec) (m : ℕ) → AreDistinct (nodes e) → AreDistinct (nodes (executable_at e m))
  found_distinct (Work n) m d = d
  found_distinct (Leaf n k) m d = d
  found_distinct (Plan n es) m d = distinct_or (has (number_or_none n) m) _ _ d (found_distinct_among es m (distinct_right (number_or_none n) (nodes_all es) d))
  found_distinct (Par n es) m d = distinct_or (n == m) _ _ d (found_distinct_among es m d.1)
  found_distinct (NonSeq n es) m d = distinct_or (n == m) _ _ d (found_distinct_among es m d.1)
  found_distinct (Sel n es) m d = distinct_or (n == m) _ _ d (found_distinct_among es m d.1)
  found_distinct (If n a b) m d =
      distinct_or (n == m) _ _ d
      (distinct_or (has (nodes a) m) _ _ (found_distinct a m (distinct_left (nodes a) (nodes b) d.1)) (found_distinct b m (distinct_right (nodes a) (nodes b) d.1)))
  found_distinct (While n a) m d = distinct_or (n == m) _ _ d (found_distinct a m d.1)

  found_distinct_among : (es : Execs) (m : ℕ) → AreDistinct (nodes_all es) → AreDistinct (nodes (executable_among es m))
  found_distinct_among None_left m d = tt
  found_distinct_among (Then e es) m d =
      distinct_or (has (nodes e) m) _ _ (found_distinct e m (distinct_left (nodes e) (nodes_all es) d)) (found_distinct_among es m (distinct_right (nodes e) (nodes_all es) d))
