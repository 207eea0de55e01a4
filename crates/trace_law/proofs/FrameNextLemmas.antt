-- Where a run goes on, from its frames alone.
use Rattle.std.specs.Prelude.{◌≡◌, ℕ, zero, suc, Bool, true, false, List, [], ◌∷◌, ◌++◌, Option, Some, None, IsSomeAnd}
use Rattle.std.proofs.Common.{refl, sym, ◌∙◌, ap, subst, inl, inr}
use Rattle.std.specs.List.{cons_option}
use Rattle.exec_tree.specs.Exec.{Exec, Work, Leaf, Plan, Par, NonSeq, Sel, If, While, Execs, None_left, Then, nodes, nodes_all, has}
use Rattle.trace_law.specs.Of.{is_of, only}
use Rattle.trace_law.specs.Part.{LastMayBeCut, IsLoopSoFar, Part, EachPart, InOrder, PartAt}
use Rattle.trace_law.specs.Whole.{Answered, Whole, WholeAt}
use Rattle.trace_law.specs.Own.{picks, pick_of, test_of, Turn, Tested, turns}
use Rattle.trace_law.specs.Elements.{nodes_at, part_at}
use Rattle.trace_law.specs.Next.{first_of_two, next_of_last, next_after, next_answered, next_loop, next, next_in_order, next_each, next_at}
use Rattle.trace_law.specs.Cells.{Cell, last_answer, last_body, after_picks, after_answer, next_by, next_by_order, next_by_each, next_by_at}
use Rattle.trace_law.specs.Frames.{WhereEmpty, OfFirst, OfLast, OfBranch, Stands, StandsInOrder, StandsEach, StandsAt}
use Rattle.run_log.specs.declared.entry.Entry.{Entry}
use Rattle.trace_law.proofs.StepLemmas.{Apart, ApartAll, not_of_left, not_of_right}
use Rattle.trace_law.proofs.StepForthLemmas.{at_outside, pick_is}
use Rattle.trace_law.proofs.StepBackLemmas.{part_inside, part_inside_at, test_is}
use Rattle.trace_law.proofs.CellNextLemmas.{work_next, only_rest, no_cons}

pub where_empty : (l : List ℕ) (P : Type 0) → WhereEmpty l P → l ≡ [] → P
where_empty [] P w e = w
where_empty (n ∷ l) P w e = absurd (cc)

pub to_where_empty : (l : List ℕ) (P : Type 0) → (l ≡ [] → P) → WhereEmpty l P
to_where_empty [] P f = f refl
to_where_empty (n ∷ l) P f = tt

first_same : (l l' r r' : List ℕ) → l ≡ l' → (l ≡ [] → r ≡ r') → first_of_two l r ≡ first_of_two l' r'
first_same [] l' r r' e f = f refl ∙ ap (λ (z : List ℕ). first_of_two z r') e
first_same (n ∷ l) l' r r' e f = ap (λ (z : List ℕ). first_of_two z r') e

last_same : (whole part said : ℕ → Type 0) (f g : ℕ → List ℕ) (ks : List ℕ) → ((k : ℕ) → part k → said k → f k ≡ g k) → LastMayBeCut whole part ks → OfLast said ks → next_of_last f ks ≡ next_of_last g ks
last_same whole part said f g [] h p s = refl
last_same whole part said f g (k ∷ []) h p s = h k p s
last_same whole part said f g (k ∷ j ∷ ks) h p s = last_same whole part said f g (j ∷ ks) h p.1 s

sel_same : (c : ℕ → Cell) (n : ℕ) (es : Execs) (y : Entry) (t : List Entry) → has (nodes_all es) n ≡ false → ((k : ℕ) → PartAt es k t → StandsAt c es k t → next_at es k t ≡ next_by_at c es k) → (o : Option ℕ) → pick_of n y ≡ o → IsSomeAnd o (λ k. PartAt es k t) → OfFirst (λ k. StandsAt c es k (part_at es k (y ∷ t))) (cons_option o (picks n t)) → next_after (λ k u. next_at es k u) o t ≡ after_picks n (cons_option o (picks n t)) (λ k. next_by_at c es k)
sel_same c n es y t own h None e p s = absurd p
sel_same c n es y t own h (Some k) e p s =
    let out : is_of (nodes_all es) y ≡ false = subst (λ (w : Entry). is_of (nodes_all es) w ≡ false) (sym (pick_is n y k e)) own in
    h k p (subst (StandsAt c es k) (only_rest (nodes_at es k) y t (at_outside es k y out) (part_inside_at es k t p)) s)

if_same : (c : ℕ → Cell) (n : ℕ) (a b : Exec) (na nb : List ℕ) (y : Entry) (t : List Entry) → has (nodes a ++ nodes b) n ≡ false → (Part a t → Stands c a t → next a t ≡ na) → (Part b t → Stands c b t → next b t ≡ nb) → (o : Option Bool) → test_of n y ≡ o → IsSomeAnd o (λ k. Answered (λ u. Part a u) (λ u. Part b u) k t) → OfBranch o (Stands c a (only (nodes a) (y ∷ t))) (Stands c b (only (nodes b) (y ∷ t))) → next_after (next_answered (λ u. next a u) (λ u. next b u)) o t ≡ after_answer n o na nb
if_same c n a b na nb y t own h g None e p s = absurd p
if_same c n a b na nb y t own h g (Some true) e p s =
    let out : is_of (nodes a ++ nodes b) y ≡ false = subst (λ (w : Entry). is_of (nodes a ++ nodes b) w ≡ false) (sym (test_is n y true e)) own in
    h p (subst (Stands c a) (only_rest (nodes a) y t (not_of_left (nodes a) (nodes b) y out) (part_inside a t p)) s)
if_same c n a b na nb y t own h g (Some false) e p s =
    let out : is_of (nodes a ++ nodes b) y ≡ false = subst (λ (w : Entry). is_of (nodes a ++ nodes b) w ≡ false) (sym (test_is n y false e)) own in
    g p (subst (Stands c b) (only_rest (nodes b) y t (not_of_right (nodes a) (nodes b) y out) (part_inside b t p)) s)

loop_same : (n : ℕ) (whole part shows : List Entry → Type 0) (f : List Entry → List ℕ) (body : List ℕ) (ts : List Turn) → ((u : List Entry) → part u → shows u → f u ≡ body) → IsLoopSoFar whole part ts → OfBranch (last_answer ts) (shows (last_body ts)) (Unit {0}) → next_loop n f ts ≡ after_answer n (last_answer ts) (first_of_two body (n ∷ [])) []
loop_same n whole part shows f body [] h p s = refl
loop_same n whole part shows f body (Tested true t ∷ []) h p s = rw (h t p s) refl
loop_same n whole part shows f body (Tested false t ∷ []) h p s = refl
loop_same n whole part shows f body (Tested true t ∷ r ∷ rest) h p s = loop_same n whole part shows f body (r ∷ rest) h p.1 s
loop_same n whole part shows f body (Tested false t ∷ r ∷ rest) h p s = absurd p

mutual
  pub next_from_frames : (c : ℕ → Cell) (e : Exec) (t : List Entry) → Apart e → Part e t → Stands c e t → next e t ≡ next_by c e
  next_from_frames c (Work n) t d p s = rw s (work_next n t p.0 p.1)
  next_from_frames c (Leaf n k) [] d p s = rw s refl
  next_from_frames c (Leaf n k) (x ∷ t) d p s = rw s refl
  next_from_frames c (Plan n es) t d p s = order_from_frames c es t d p.1 s
  next_from_frames c (Par n es) t d p s = each_from_frames c es t d p.1 s.1
  next_from_frames c (NonSeq n es) t d p s =
      rw (
        s.0,
        last_same (λ k. WholeAt es k (part_at es k t)) (λ k. PartAt es k (part_at es k t)) (λ k. StandsAt c es k (part_at es k t)) (λ k. next_at es k (part_at es k t)) (λ k. next_by_at c es k) (picks n t)
            (λ k q r. at_from_frames c es k (part_at es k t) d.1 q r) p.2 s.1,
      ) refl
  next_from_frames c (Sel n es) [] d p s = rw s.0 refl
  next_from_frames c (Sel n es) (y ∷ t) d (inl p) s = absurd (no_cons y t p)
  next_from_frames c (Sel n es) (y ∷ t) d (inr p) s =
      rw s.0 (sel_same c n es y t d.0 (λ k q r. at_from_frames c es k t d.1 q r) (pick_of n y) refl p s.1)
  next_from_frames c (If n a b) [] d p s = rw s.0 refl
  next_from_frames c (If n a b) (y ∷ t) d (inl p) s = absurd (no_cons y t p)
  next_from_frames c (If n a b) (y ∷ t) d (inr p) s =
      rw s.0 (if_same c n a b (next_by c a) (next_by c b) y t d.0
      (λ q r. next_from_frames c a t d.1 q r) (λ q r. next_from_frames c b t d.2 q r) (test_of n y) refl p s.1)
  next_from_frames c (While n a) t d p s =
      rw s.0 (loop_same n (λ u. Whole a u) (λ u. Part a u) (λ u. Stands c a u) (λ u. next a u) (next_by c a) (turns n t) (λ u q r. next_from_frames c a u d.1 q r) p.1 s.1)

  pub order_from_frames : (c : ℕ → Cell) (es : Execs) (t : List Entry) → ApartAll es → InOrder es t → StandsInOrder c es t → next_in_order es t ≡ next_by_order c es
  order_from_frames c None_left t d p s = refl
  order_from_frames c (Then e es) t d p s =
      first_same (next e (only (nodes e) t)) (next_by c e) (next_in_order es t) (next_by_order c es) (next_from_frames c e (only (nodes e) t) d.0 p.0 s.0)
      (λ g. order_from_frames c es t d.1 p.2 (where_empty (next e (only (nodes e) t)) (StandsInOrder c es t) s.1 g))

  pub each_from_frames : (c : ℕ → Cell) (es : Execs) (t : List Entry) → ApartAll es → EachPart es t → StandsEach c es t → next_each es t ≡ next_by_each c es
  each_from_frames c None_left t d p s = refl
  each_from_frames c (Then e es) t d p s = rw (next_from_frames c e (only (nodes e) t) d.0 p.0 s.0, each_from_frames c es t d.1 p.1 s.1) refl

  pub at_from_frames : (c : ℕ → Cell) (es : Execs) (k : ℕ) (t : List Entry) → ApartAll es → PartAt es k t → StandsAt c es k t → next_at es k t ≡ next_by_at c es k
  at_from_frames c None_left k t d p s = absurd p
  at_from_frames c (Then e es) zero t d p s = next_from_frames c e t d.0 p s
  at_from_frames c (Then e es) (suc k) t d p s = at_from_frames c es k t d.1 p s
