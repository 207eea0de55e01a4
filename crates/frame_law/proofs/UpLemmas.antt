-- From what is written at an entry's own node and on the way up to the step of the whole.
use Rattle.std.specs.Prelude.{◌≡◌, ◌==◌, if◌then◌else◌, ℕ, zero, suc, Bool, true, false, List, [], ◌∷◌, ◌++◌, length, Some, None}
use Rattle.std.proofs.Common.{refl, sym, ◌∙◌, subst, inl, inr}
use Rattle.exec_tree.specs.Exec.{Exec, Work, Leaf, Plan, Par, NonSeq, Sel, If, While, Execs, None_left, Then, nodes, nodes_all, has, number_or_none, count, AreDistinct}
use Rattle.trace_law.specs.Of.{number_of, is_of, only}
use Rattle.trace_law.specs.Own.{picks, pick_of, test_of}
use Rattle.trace_law.specs.Elements.{part_at}
use Rattle.trace_law.specs.Part.{Part, EachPart, InOrder, PartAt}
use Rattle.trace_law.specs.Whole.{WholeAt}
use Rattle.trace_law.specs.Step.{Step, StepInOrder, StepOfOne, StepAt}
use Rattle.trace_law.specs.Next.{first_of_two, next, next_in_order}
use Rattle.trace_law.specs.Cells.{Cell, picked, next_by, next_by_order, next_by_at, AreKept}
use Rattle.trace_law.specs.Frames.{is_shared, next_by_of, Stands, StandsInOrder, StandsEach, StandsAt, Goes, GoesInOrder, GoesOne}
use Rattle.run_log.specs.declared.entry.Entry.{Entry}
use Rattle.trace_law.proofs.WholeNextLemmas.{empty_from_whole}
use Rattle.trace_law.proofs.StepLemmas.{Apart, apart, apart_all, distinct_left, distinct_right, distinct_across, is_of_left, is_of_right, here}
use Rattle.trace_law.proofs.StepForthLemmas.{at_inside}
use Rattle.trace_law.proofs.StepBackLemmas.{step_inside, part_of_step}
use Rattle.trace_law.proofs.StayLemmas.{inside_at}
use Rattle.trace_law.proofs.OfferLemmas.{chosen_yes, chosen_no}
use Rattle.trace_law.proofs.CellNextLemmas.{no_cons}
use Rattle.trace_law.proofs.FrameNextLemmas.{where_empty, next_from_frames}
use Rattle.trace_law.proofs.FrameMoveLemmas.{stands_kept, stands_step}
use Rattle.frame_law.specs.Executable.{executable_at, executable_among}
use Rattle.frame_law.specs.Onward.{Onward, PicksOn, TestsAgain, opened_or, joined_or, onward, onward_in_order, onward_among}
use Rattle.frame_law.specs.Way.{touched, Writes, AreUnpicked, AreUnpickedAll}
use Rattle.trace_law.proofs.AfterLemmas.{of_number}
use Rattle.frame_law.proofs.OutsideLemmas.{no_left, no_right, not_first, yes_left, yes_right, across_back, has_number, other_pick, other_test, opened_outside, joined_outside, picks_outside}
use Rattle.frame_law.proofs.ReachLemmas.{Reaches, own_reaches, writes_as, reaches_wider, kept_outside, kept_in_order, kept_among, first_reaches, par_count, par_reaches, picks_reaches, where_none, no_some, unpicked_elements}
use Rattle.frame_law.proofs.ElementLemmas.{last_is, picked_next, sel_later, branch_later, body_later}

-- nothing of these nodes is touched from k on
abbrev pub IsOutside : (ℕ → Cell) → Onward → List ℕ → Type 0
IsOutside c k ns = (q : ℕ) → has ns q ≡ true → has (touched c k) q ≡ false

outside_left : (c : ℕ → Cell) (k : Onward) (ms ns : List ℕ) → IsOutside c k (ms ++ ns) → IsOutside c k ms
outside_left c k ms ns o = λ q h. o q (yes_left ms ns q h)

outside_right : (c : ℕ → Cell) (k : Onward) (ms ns : List ℕ) → IsOutside c k (ms ++ ns) → IsOutside c k ns
outside_right c k ms ns o = λ q h. o q (yes_right ms ns q h)

outside_own : (c : ℕ → Cell) (k : Onward) (n : ℕ) (ns : List ℕ) → IsOutside c k (n ∷ ns) → has (touched c k) n ≡ false
outside_own c k n ns o = o n (yes_left (n ∷ []) ns n (self n))
  where
    self : (n : ℕ) → has (n ∷ []) n ≡ true
    self n = here n n [] refl

-- ---- an entry of the elements is of no plan or parallel itself

order_inside : (es : Execs) (t : List Entry) (x : Entry) → StepInOrder es t x → is_of (nodes_all es) x ≡ true
order_inside None_left t x q = absurd q
order_inside (Then e es) t x (inl q) = is_of_left (nodes e) (nodes_all es) x q.0
order_inside (Then e es) t x (inr q) = is_of_right (nodes e) (nodes_all es) x (order_inside es t x q.2)

one_inside : (es : Execs) (t : List Entry) (x : Entry) → StepOfOne es t x → is_of (nodes_all es) x ≡ true
one_inside None_left t x q = absurd q
one_inside (Then e es) t x (inl q) = is_of_left (nodes e) (nodes_all es) x q.0
one_inside (Then e es) t x (inr q) = is_of_right (nodes e) (nodes_all es) x (one_inside es t x q.1)

not_own : (ms ns : List ℕ) (x : Entry) (m : ℕ) → AreDistinct (ms ++ ns) → number_of x ≡ Some m → is_of ns x ≡ true → has ms m ≡ false
not_own ms ns x m d num h = across_back ms ns m d (has_number ns x m true num h)

-- ---- one element goes, and the others are kept

one_first : (c c' : ℕ → Cell) (e : Exec) (es : Execs) (x : Entry) → is_of (nodes e) x ≡ true → Goes c e x c' → AreKept c c' (nodes_all es) → GoesOne c (Then e es) x c'
one_first c c' e es x h g k = rw h (g, k)

one_rest : (c c' : ℕ → Cell) (e : Exec) (es : Execs) (x : Entry) → is_of (nodes e) x ≡ false → AreKept c c' (nodes e) → GoesOne c es x c' → GoesOne c (Then e es) x c'
one_rest c c' e es x h k g = rw h (k, g)

by_first : (c : ℕ → Cell) (e : Exec) (es : Execs) (x : Entry) → is_of (nodes e) x ≡ true → next_by_of c (Then e es) x ≡ next_by c e
by_first c e es x h = rw h refl

by_rest : (c : ℕ → Cell) (e : Exec) (es : Execs) (x : Entry) → is_of (nodes e) x ≡ false → next_by_of c (Then e es) x ≡ next_by_of c es x
by_rest c e es x h = rw h refl

rest_kept : (c c' : ℕ → Cell) (e : Exec) (es : Execs) (k : Onward) (m : ℕ) (x : Entry) → AreDistinct (nodes e ++ nodes_all es) → IsOutside c k (nodes e ++ nodes_all es) → Writes c (executable_at e m) (onward e k m) x c' → AreKept c c' (nodes_all es)
rest_kept c c' e es k m x d o w = λ q h. kept_outside c c' e k m x w q (across_back (nodes e) (nodes_all es) q d h) (o q (yes_right (nodes e) (nodes_all es) q h))

first_kept : (c c' : ℕ → Cell) (e : Exec) (es : Execs) (k : Onward) (m : ℕ) (x : Entry) → AreDistinct (nodes e ++ nodes_all es) → IsOutside c k (nodes e ++ nodes_all es) → Writes c (executable_among es m) (onward_among es k m) x c' → AreKept c c' (nodes e)
first_kept c c' e es k m x d o w = λ q h. kept_among c c' es k m x w q (distinct_across (nodes e) (nodes_all es) q d h) (o q (yes_left (nodes e) (nodes_all es) q h))

first_kept_in_order : (c c' : ℕ → Cell) (e : Exec) (es : Execs) (k : Onward) (m : ℕ) (x : Entry) → AreDistinct (nodes e ++ nodes_all es) → IsOutside c k (nodes e ++ nodes_all es) → Writes c (executable_among es m) (onward_in_order es k m) x c' → AreKept c c' (nodes e)
first_kept_in_order c c' e es k m x d o w = λ q h. kept_in_order c c' es k m x w q (distinct_across (nodes e) (nodes_all es) q d h) (o q (yes_left (nodes e) (nodes_all es) q h))

-- ---- the whole, by its element

par_up : (c c' : ℕ → Cell) (n : ℕ) (es : Execs) (t : List Entry) (x : Entry) (k : Onward) (m : ℕ) → AreDistinct (nodes (Par n es)) → Part (Par n es) t → Step (Par n es) t x → Stands c (Par n es) t → IsOutside c k (nodes (Par n es)) → (let j : Onward = joined_or (is_shared es) n k in Writes c (executable_among es m) (onward_among es j m) x c' → GoesOne c es x c' × Reaches c c' (next_by_of c' es x) (nodes_all es) j → Goes c (Par n es) x c' × Reaches c c' (next_by c' (Par n es)) (nodes (Par n es)) k)
par_up c c' n es t x k m d p q s o w r =
    let j : Onward = joined_or (is_shared es) n k in
    let g : Goes c (Par n es) x c' = (par_count c c' n es t x k (is_shared es) d.0 s.0 r.1, r.0) in
    let ap_n : Apart (Par n es) = apart (Par n es) d in
    let after = part_of_step (Par n es) t x ap_n p q in
    let z = stands_step c c' (Par n es) t x ap_n p q s g in
    (g, par_reaches c c' n es t x k (is_shared es) refl ap_n p.1 q after.1 z.1 s.0 (λ i h l. kept_among c c' es j m x w i h l) r.1)

picks_up : (c c' : ℕ → Cell) (n : ℕ) (es : Execs) (t : List Entry) (x : Entry) (k : Onward) (m : ℕ) → has (nodes_all es) n ≡ false → number_of x ≡ Some m → Part (NonSeq n es) t → Step (NonSeq n es) t x → Stands c (NonSeq n es) t → IsOutside c k (n ∷ nodes_all es) → (let j : Onward = PicksOn n (count es) k in Writes c (executable_among es m) (onward_among es j m) x c' → (i : ℕ) → PartAt es i (part_at es i t) → StepAt es i (part_at es i t) x → StandsAt c es i (part_at es i t) → GoesOne c es x c' × Reaches c c' (next_by_at c' es i) (nodes_all es) j) → (b : Bool) → (n == m) ≡ b → Writes c (executable_at (NonSeq n es) m) (onward (NonSeq n es) k m) x c' → Goes c (NonSeq n es) x c' × Reaches c c' (next_by c' (NonSeq n es)) (n ∷ nodes_all es) k
picks_up c c' n es t x k m own num p q s o rec true e w =
    own_reaches c c' (NonSeq n es) k x (writes_as c c' _ (NonSeq n es) _ k x (chosen_yes (n == m) _ _ e) (chosen_yes (n == m) _ _ e) w)
picks_up c c' n es t x k m own num p (inl q) s o rec false e w = absurd (no_some (pick_of n x) _ (other_pick n m x num e) q.0)
picks_up c c' n es t x k m own num p (inr q) s o rec false e w =
    let j : Onward = PicksOn n (count es) k in
    let v : Writes c (executable_among es m) (onward_among es j m) x c' = writes_as c c' _ (executable_among es m) _ (onward_among es j m) x (chosen_no (n == m) _ _ e) (chosen_no (n == m) _ _ e) w in
    let kept = kept_among c c' es j m x v in
    let same : c' n ≡ c n = kept n own (picks_outside c n (count es) k n (outside_own c k n (nodes_all es) o)) in
    last_is (λ i. WholeAt es i (part_at es i t)) (λ i. PartAt es i (part_at es i t)) (λ i. StandsAt c es i (part_at es i t)) (λ i. StepAt es i (part_at es i t) x) _ (picks n t)
    (λ i a b l last.
    let z = rec v i a l b in (
      where_none (pick_of n x) _ _ (other_pick n m x num e) (same, z.0),
      subst (λ (u : List ℕ). Reaches c c' u (n ∷ nodes_all es) k) (sym (picked_next c c' n es (picks n t) (next_by_at c' es i) same s.0 (last (λ r. next_by_at c' es r))))
          (picks_reaches c c' n es k (next_by_at c' es i) (length (picked (c n)) == count es) refl kept z.1),
    )) p.2 s.1 q

sel_up : (c c' : ℕ → Cell) (n : ℕ) (es : Execs) (t : List Entry) (x : Entry) (k : Onward) (m : ℕ) → has (nodes_all es) n ≡ false → number_of x ≡ Some m → Part (Sel n es) t → Step (Sel n es) t x → Stands c (Sel n es) t → IsOutside c k (n ∷ nodes_all es) → (Writes c (executable_among es m) (onward_among es k m) x c' → (i : ℕ) (u : List Entry) → PartAt es i u → StepAt es i u x → StandsAt c es i u → GoesOne c es x c' × Reaches c c' (next_by_at c' es i) (nodes_all es) k) → (b : Bool) → (n == m) ≡ b → Writes c (executable_at (Sel n es) m) (onward (Sel n es) k m) x c' → Goes c (Sel n es) x c' × Reaches c c' (next_by c' (Sel n es)) (n ∷ nodes_all es) k
sel_up c c' n es t x k m own num p q s o rec true e w =
    own_reaches c c' (Sel n es) k x (writes_as c c' _ (Sel n es) _ k x (chosen_yes (n == m) _ _ e) (chosen_yes (n == m) _ _ e) w)
sel_up c c' n es [] x k m own num p q s o rec false e w = absurd (no_some (pick_of n x) _ (other_pick n m x num e) q)
sel_up c c' n es (y ∷ t) x k m own num (inl p) q s o rec false e w = absurd (no_cons y t p)
sel_up c c' n es (y ∷ t) x k m own num (inr p) q s o rec false e w =
    let v : Writes c (executable_among es m) (onward_among es k m) x c' = writes_as c c' _ (executable_among es m) _ (onward_among es k m) x (chosen_no (n == m) _ _ e) (chosen_no (n == m) _ _ e) w in
    let same : c' n ≡ c n = kept_among c c' es k m x v n own (outside_own c k n (nodes_all es) o) in
    sel_later c c' n es y t x k own (λ i a b l. rec v i t a b l) same (other_pick n m x num e) (pick_of n y) refl p q s.0 s.1

if_up : (c c' : ℕ → Cell) (n : ℕ) (a b : Exec) (t : List Entry) (x : Entry) (k : Onward) (m : ℕ) → Apart (If n a b) → number_of x ≡ Some m → Part (If n a b) t → Step (If n a b) t x → Stands c (If n a b) t → IsOutside c k (nodes (If n a b)) → (Writes c (executable_at a m) (onward a k m) x c' → (u : List Entry) → Part a u → Step a u x → Stands c a u → Goes c a x c' × Reaches c c' (next_by c' a) (nodes a) k) → (Writes c (executable_at b m) (onward b k m) x c' → (u : List Entry) → Part b u → Step b u x → Stands c b u → Goes c b x c' × Reaches c c' (next_by c' b) (nodes b) k) → (own : Bool) → (n == m) ≡ own → Writes c (executable_at (If n a b) m) (onward (If n a b) k m) x c' → Goes c (If n a b) x c' × Reaches c c' (next_by c' (If n a b)) (nodes (If n a b)) k
if_up c c' n a b t x k m d num p q s o rec1 rec2 true e w =
    own_reaches c c' (If n a b) k x (writes_as c c' _ (If n a b) _ k x (chosen_yes (n == m) _ _ e) (chosen_yes (n == m) _ _ e) w)
if_up c c' n a b [] x k m d num p q s o rec1 rec2 false e w = absurd (no_some (test_of n x) _ (other_test n m x num e) q)
if_up c c' n a b (y ∷ t) x k m d num (inl p) q s o rec1 rec2 false e w = absurd (no_cons y t p)
if_up c c' n a b (y ∷ t) x k m d num (inr p) q s o rec1 rec2 false e w =
    let f : Exec = if has (nodes a) m then executable_at a m else executable_at b m in
    let j : Onward = if has (nodes a) m then onward a k m else onward b k m in
    let v : Writes c f j x c' = writes_as c c' _ f _ j x (chosen_no (n == m) _ _ e) (chosen_no (n == m) _ _ e) w in
    let in_a : has (nodes a) m ≡ true → Writes c (executable_at a m) (onward a k m) x c' =
    λ h. writes_as c c' f (executable_at a m) j (onward a k m) x (chosen_yes (has (nodes a) m) _ _ h) (chosen_yes (has (nodes a) m) _ _ h) v in
    let in_b : has (nodes a) m ≡ false → Writes c (executable_at b m) (onward b k m) x c' =
    λ h. writes_as c c' f (executable_at b m) j (onward b k m) x (chosen_no (has (nodes a) m) _ _ h) (chosen_no (has (nodes a) m) _ _ h) v in
    let same : c' n ≡ c n = kept_either n (no_left (nodes a) (nodes b) n d.0) (no_right (nodes a) (nodes b) n d.0) (outside_own c k n (nodes a ++ nodes b) o) in_a in_b (has (nodes a) m) refl in
    branch_later c c' n a b y t x m k num d.0 d.1 d.2 d.3
    (λ h i g l. let z = rec1 (in_a h) t i g l in (z.0, reaches_wider c c' (next_by c' a) (nodes a) (nodes a ++ nodes b) k (λ r. no_left (nodes a) (nodes b) r) z.1))
    (λ h i g l. let z = rec2 (in_b h) t i g l in (z.0, reaches_wider c c' (next_by c' b) (nodes b) (nodes a ++ nodes b) k (λ r. no_right (nodes a) (nodes b) r) z.1))
    same (other_test n m x num e) (test_of n y) refl p q s.0 s.1
  where
    kept_either : (i : ℕ) → has (nodes a) i ≡ false → has (nodes b) i ≡ false → has (touched c k) i ≡ false → (has (nodes a) m ≡ true → Writes c (executable_at a m) (onward a k m) x c') → (has (nodes a) m ≡ false → Writes c (executable_at b m) (onward b k m) x c') → (h : Bool) → has (nodes a) m ≡ h → c' i ≡ c i
    kept_either i ha hb l in_a in_b true h = kept_outside c c' a k m x (in_a h) i ha l
    kept_either i ha hb l in_a in_b false h = kept_outside c c' b k m x (in_b h) i hb l

while_up : (c c' : ℕ → Cell) (n : ℕ) (a : Exec) (t : List Entry) (x : Entry) (k : Onward) (m : ℕ) → has (nodes a) n ≡ false → number_of x ≡ Some m → Part (While n a) t → Step (While n a) t x → Stands c (While n a) t → (Writes c (executable_at a m) (onward a (TestsAgain n) m) x c' → (u : List Entry) → Part a u → Step a u x → Stands c a u → Goes c a x c') → (own : Bool) → (n == m) ≡ own → Writes c (executable_at (While n a) m) (onward (While n a) k m) x c' → Goes c (While n a) x c' × Reaches c c' (next_by c' (While n a)) (n ∷ nodes a) k
while_up c c' n a t x k m d num p q s rec true e w =
    own_reaches c c' (While n a) k x (writes_as c c' _ (While n a) _ k x (chosen_yes (n == m) _ _ e) (chosen_yes (n == m) _ _ e) w)
while_up c c' n a t x k m d num p q s rec false e w =
    let v : Writes c (executable_at a m) (onward a (TestsAgain n) m) x c' = writes_as c c' _ (executable_at a m) _ (onward a (TestsAgain n) m) x (chosen_no (n == m) _ _ e) (chosen_no (n == m) _ _ e) w in
    let kept : (i : ℕ) → has (nodes a) i ≡ false → c' i ≡ c i = λ i h. kept_outside c c' a (TestsAgain n) m x v i h refl in
    let none : test_of n x ≡ None = other_test n m x num e in
    body_later c c' n a t x k (λ f. no_some (test_of n x) _ none f) (λ u i j l. rec v u i j l) kept (kept n d) none p.1 q s.0 s.1

mutual
  pub up : (c c' : ℕ → Cell) (e : Exec) (t : List Entry) (x : Entry) (k : Onward) (m : ℕ) → AreDistinct (nodes e) → Part e t → Step e t x → Stands c e t → number_of x ≡ Some m → AreUnpicked c' e → IsOutside c k (nodes e) → Writes c (executable_at e m) (onward e k m) x c' → Goes c e x c' × Reaches c c' (next_by c' e) (nodes e) k
  up c c' (Work n) t x k m d p q s num v o w = own_reaches c c' (Work n) k x w
  up c c' (Leaf n l) t x k m d p q s num v o w = own_reaches c c' (Leaf n l) k x w
  up c c' (Plan n es) t x k m d p q s num v o w =
      let own : has (number_or_none n) m ≡ false = not_own (number_or_none n) (nodes_all es) x m d num (order_inside es t x q) in
      let z = up_in_order c c' es t x k m (distinct_right (number_or_none n) (nodes_all es) d) p.1 q s num v (outside_right c k (number_or_none n) (nodes_all es) o)
      (writes_as c c' _ (executable_among es m) _ (onward_in_order es k m) x (chosen_no (has (number_or_none n) m) _ _ own) (chosen_no (has (number_or_none n) m) _ _ own) w) in
      (z.0, reaches_wider c c' (next_by_order c' es) (nodes_all es) (nodes (Plan n es)) k (λ i h. no_right (number_or_none n) (nodes_all es) i h) z.1)
  up c c' (Par n es) t x k m d p q s num v o w =
      let j : Onward = joined_or (is_shared es) n k in
      let own : has (n ∷ []) m ≡ false = not_own (n ∷ []) (nodes_all es) x m d num (one_inside es t x q) in
      let u : Writes c (executable_among es m) (onward_among es j m) x c' = writes_as c c' _ (executable_among es m) _ (onward_among es j m) x (chosen_no (n == m) _ _ (not_first n [] m own)) (chosen_no (n == m) _ _ (not_first n [] m own)) w in
      par_up c c' n es t x k m d p q s o u
      (up_among c c' es t x j m d.1 p.1 q s.1 num v (λ i h. joined_outside c (is_shared es) n k i (not_first n [] i (across_back (n ∷ []) (nodes_all es) i d h)) (o i (yes_right (n ∷ []) (nodes_all es) i h))) u)
  up c c' (NonSeq n es) t x k m d p q s num v o w =
      picks_up c c' n es t x k m d.0 num p q s o
      (λ u i a b l. up_at c c' es i (part_at es i t) x (PicksOn n (count es) k) m d.1 a b l num (unpicked_elements c' n es v) (λ r h. picks_outside c n (count es) k r (o r (yes_right (n ∷ []) (nodes_all es) r h))) u)
      (n == m) refl w
  up c c' (Sel n es) t x k m d p q s num v o w =
      sel_up c c' n es t x k m d.0 num p q s o (λ u i y a b l. up_at c c' es i y x k m d.1 a b l num v (outside_right c k (n ∷ []) (nodes_all es) o) u) (n == m) refl w
  up c c' (If n a b) t x k m d p q s num v o w =
      let r : IsOutside c k (nodes a ++ nodes b) = outside_right c k (n ∷ []) (nodes a ++ nodes b) o in
      if_up c c' n a b t x k m (apart (If n a b) d) num p q s o
      (λ u y i j l. up c c' a y x k m (distinct_left (nodes a) (nodes b) d.1) i j l num v.0 (outside_left c k (nodes a) (nodes b) r) u)
      (λ u y i j l. up c c' b y x k m (distinct_right (nodes a) (nodes b) d.1) i j l num v.1 (outside_right c k (nodes a) (nodes b) r) u) (n == m) refl w
  up c c' (While n a) t x k m d p q s num v o w =
      while_up c c' n a t x k m d.0 num p q s (λ u y i j l. (up c c' a y x (TestsAgain n) m d.1 i j l num v (λ r h. refl) u).0) (n == m) refl w

  up_in_order : (c c' : ℕ → Cell) (es : Execs) (t : List Entry) (x : Entry) (k : Onward) (m : ℕ) → AreDistinct (nodes_all es) → InOrder es t → StepInOrder es t x → StandsInOrder c es t → number_of x ≡ Some m → AreUnpickedAll c' es → IsOutside c k (nodes_all es) → Writes c (executable_among es m) (onward_in_order es k m) x c' → GoesInOrder c es x c' × Reaches c c' (next_by_order c' es) (nodes_all es) k
  up_in_order c c' None_left t x k m d p q s num v o w = absurd q
  up_in_order c c' (Then e es) t x k m d p (inl q) s num v o w =
      let j : Onward = opened_or (next_in_order es []) es k in
      let inside : has (nodes e) m ≡ true = has_number (nodes e) x m true num q.0 in
      let u : Writes c (executable_at e m) (onward e j m) x c' = writes_as c c' _ (executable_at e m) _ (onward e j m) x (chosen_yes (has (nodes e) m) _ _ inside) (chosen_yes (has (nodes e) m) _ _ inside) w in
      let z = up c c' e (only (nodes e) t) x j m (distinct_left (nodes e) (nodes_all es) d) p.0 q.2 s.0 num v.0
      (λ i h. opened_outside c (next_in_order es []) es k i (distinct_across (nodes e) (nodes_all es) i d h) (o i (yes_left (nodes e) (nodes_all es) i h))) u in
      let r = first_reaches c c' e es k (next_in_order es []) refl (distinct_right (nodes e) (nodes_all es) d) v.1 (λ i h l. kept_outside c c' e j m x u i h l) z.1 in
      (rw q.0 (z.0, r.0), r.1)
  up_in_order c c' (Then e es) t x k m d p (inr q) s num v o w =
      let outside : has (nodes e) m ≡ false = has_number (nodes e) x m false num q.0 in
      let u : Writes c (executable_among es m) (onward_in_order es k m) x c' = writes_as c c' _ (executable_among es m) _ (onward_in_order es k m) x (chosen_no (has (nodes e) m) _ _ outside) (chosen_no (has (nodes e) m) _ _ outside) w in
      let kept : AreKept c c' (nodes e) = first_kept_in_order c c' e es k m x d o u in
      let none : next e (only (nodes e) t) ≡ [] = empty_from_whole e (only (nodes e) t) q.1 in
      let on : next_by c' e ≡ [] =
      sym (next_from_frames c' e (only (nodes e) t) (apart e (distinct_left (nodes e) (nodes_all es) d)) p.0 (stands_kept c c' e (only (nodes e) t) kept s.0)) ∙ none in
      let z = up_in_order c c' es t x k m (distinct_right (nodes e) (nodes_all es) d) p.2 q.2 (where_empty (next e (only (nodes e) t)) _ s.1 none) num v.1 (outside_right c k (nodes e) (nodes_all es) o) u in (
        rw q.0 (kept, z.0),
        subst (λ (l : List ℕ). Reaches c c' (first_of_two l (next_by_order c' es)) (nodes e ++ nodes_all es) k) (sym on)
            (reaches_wider c c' (next_by_order c' es) (nodes_all es) (nodes e ++ nodes_all es) k (λ i h. no_right (nodes e) (nodes_all es) i h) z.1),
      )

  up_among : (c c' : ℕ → Cell) (es : Execs) (t : List Entry) (x : Entry) (k : Onward) (m : ℕ) → AreDistinct (nodes_all es) → EachPart es t → StepOfOne es t x → StandsEach c es t → number_of x ≡ Some m → AreUnpickedAll c' es → IsOutside c k (nodes_all es) → Writes c (executable_among es m) (onward_among es k m) x c' → GoesOne c es x c' × Reaches c c' (next_by_of c' es x) (nodes_all es) k
  up_among c c' None_left t x k m d p q s num v o w = absurd q
  up_among c c' (Then e es) t x k m d p (inl q) s num v o w =
      let inside : has (nodes e) m ≡ true = has_number (nodes e) x m true num q.0 in
      let u : Writes c (executable_at e m) (onward e k m) x c' = writes_as c c' _ (executable_at e m) _ (onward e k m) x (chosen_yes (has (nodes e) m) _ _ inside) (chosen_yes (has (nodes e) m) _ _ inside) w in
      let z = up c c' e (only (nodes e) t) x k m (distinct_left (nodes e) (nodes_all es) d) p.0 q.1 s.0 num v.0 (outside_left c k (nodes e) (nodes_all es) o) u in (
        one_first c c' e es x q.0 z.0 (rest_kept c c' e es k m x d o u),
        subst (λ (l : List ℕ). Reaches c c' l (nodes e ++ nodes_all es) k) (sym (by_first c' e es x q.0))
            (reaches_wider c c' (next_by c' e) (nodes e) (nodes e ++ nodes_all es) k (λ i h. no_left (nodes e) (nodes_all es) i h) z.1),
      )
  up_among c c' (Then e es) t x k m d p (inr q) s num v o w =
      let outside : has (nodes e) m ≡ false = has_number (nodes e) x m false num q.0 in
      let u : Writes c (executable_among es m) (onward_among es k m) x c' = writes_as c c' _ (executable_among es m) _ (onward_among es k m) x (chosen_no (has (nodes e) m) _ _ outside) (chosen_no (has (nodes e) m) _ _ outside) w in
      let z = up_among c c' es t x k m (distinct_right (nodes e) (nodes_all es) d) p.1 q.1 s.1 num v.1 (outside_right c k (nodes e) (nodes_all es) o) u in (
        one_rest c c' e es x q.0 (first_kept c c' e es k m x d o u) z.0,
        subst (λ (l : List ℕ). Reaches c c' l (nodes e ++ nodes_all es) k) (sym (by_rest c' e es x q.0))
            (reaches_wider c c' (next_by_of c' es x) (nodes_all es) (nodes e ++ nodes_all es) k (λ i h. no_right (nodes e) (nodes_all es) i h) z.1),
      )

  up_at : (c c' : ℕ → Cell) (es : Execs) (i : ℕ) (t : List Entry) (x : Entry) (k : Onward) (m : ℕ) → AreDistinct (nodes_all es) → PartAt es i t → StepAt es i t x → StandsAt c es i t → number_of x ≡ Some m → AreUnpickedAll c' es → IsOutside c k (nodes_all es) → Writes c (executable_among es m) (onward_among es k m) x c' → GoesOne c es x c' × Reaches c c' (next_by_at c' es i) (nodes_all es) k
  up_at c c' None_left i t x k m d p q s num v o w = absurd p
  up_at c c' (Then e es) zero t x k m d p q s num v o w =
      let of_it : is_of (nodes e) x ≡ true = step_inside e t x (part_of_step e t x (apart e (distinct_left (nodes e) (nodes_all es) d)) p q) in
      let inside : has (nodes e) m ≡ true = has_number (nodes e) x m true num of_it in
      let u : Writes c (executable_at e m) (onward e k m) x c' = writes_as c c' _ (executable_at e m) _ (onward e k m) x (chosen_yes (has (nodes e) m) _ _ inside) (chosen_yes (has (nodes e) m) _ _ inside) w in
      let z = up c c' e t x k m (distinct_left (nodes e) (nodes_all es) d) p q s num v.0 (outside_left c k (nodes e) (nodes_all es) o) u in (
        one_first c c' e es x of_it z.0 (rest_kept c c' e es k m x d o u),
        reaches_wider c c' (next_by c' e) (nodes e) (nodes e ++ nodes_all es) k (λ j h. no_left (nodes e) (nodes_all es) j h) z.1,
      )
  up_at c c' (Then e es) (suc i) t x k m d p q s num v o w =
      let of_rest : is_of (nodes_all es) x ≡ true = at_inside es i x (inside_at es i t x (apart_all es (distinct_right (nodes e) (nodes_all es) d)) p q) in
      let outside : has (nodes e) m ≡ false = across_back (nodes e) (nodes_all es) m d (has_number (nodes_all es) x m true num of_rest) in
      let of_none : is_of (nodes e) x ≡ false = of_number (nodes e) x m num ∙ outside in
      let u : Writes c (executable_among es m) (onward_among es k m) x c' = writes_as c c' _ (executable_among es m) _ (onward_among es k m) x (chosen_no (has (nodes e) m) _ _ outside) (chosen_no (has (nodes e) m) _ _ outside) w in
      let z = up_at c c' es i t x k m (distinct_right (nodes e) (nodes_all es) d) p q s num v.1 (outside_right c k (nodes e) (nodes_all es) o) u in (
        one_rest c c' e es x of_none (first_kept c c' e es k m x d o u) z.0,
        reaches_wider c c' (next_by_at c' es i) (nodes_all es) (nodes e ++ nodes_all es) k (λ j h. no_right (nodes e) (nodes_all es) j h) z.1,
      )
