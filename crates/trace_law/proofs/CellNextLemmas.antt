-- Next from the cells alone.
use Rattle.std.specs.Prelude.{◌≡◌, ℕ, zero, suc, Bool, true, false, ◌==◌, List, [], ◌∷◌, ◌++◌, Option, Some, None, IsSomeAnd, ◌+◌}
use Rattle.std.proofs.Common.{refl, sym, subst, inl, inr, arith}
use Rattle.std.proofs.lemmas.Bool.Decides.{nat_tests}
use Rattle.exec_tree.specs.Exec.{Exec, Work, Leaf, Plan, Par, NonSeq, Sel, If, While, Execs, None_left, Then, nodes, nodes_all, has}
use Rattle.trace_law.specs.Of.{is_of, only}
use Rattle.trace_law.specs.Whole.{IsCut, IsWork, Answered, Whole, WholeAt}
use Rattle.trace_law.specs.Own.{picks, pick_of, test_of, Turn, Tested, turns}
use Rattle.trace_law.specs.Part.{LastMayBeCut, IsLoopSoFar, Part, EachPart, InOrder, PartAt}
use Rattle.trace_law.specs.Elements.{nodes_at, part_at}
use Rattle.trace_law.specs.Next.{first_of_two, next_work, next_of_last, next_after, next_answered, next_loop, next, next_in_order, next_each, next_at}
use Rattle.trace_law.specs.State.{stage_from}
use Rattle.run_log.specs.declared.entry.Entry.{Entry}
use Rattle.run_log.specs.declared.entry.Entry.TheVariants.{Dispatch, Block, End}
use Rattle.trace_law.proofs.StepLemmas.{AllOf, only_all, not_of_left, not_of_right, Apart, ApartAll}
use Rattle.trace_law.proofs.StepForthLemmas.{at_outside, pick_is}
use Rattle.trace_law.proofs.StepBackLemmas.{part_inside, part_inside_at, test_is}
-- ---- a step continues
use Rattle.std.specs.List.{cons_option}
use Rattle.trace_law.specs.Cells.{Cell, cell_of_stage, work_cell, last_answer, last_body, Shows, ShowsAll, if_going, after_picks, after_answer, next_by, next_by_order, next_by_each, next_by_at}

self : (n m : ℕ) → m ≡ n → (m == n) ≡ true
self n m e = grind (arith, nat_tests)

cut_next : (n i : ℕ) (t rest : List Entry) → IsCut n i (t ++ rest) → next_work n t ≡ if_going (cell_of_stage (stage_from n (Some i) t)) n
cut_next n i [] rest w = refl
cut_next n i (Block m j b ∷ t) rest w = rw (self n m w.0) (cut_next n (i + 1) t rest w.2)
cut_next n i (End m ∷ []) [] w = rw (self n m w) refl
cut_next n i (End m ∷ []) (y ∷ rest) w = absurd w
cut_next n i (End m ∷ y ∷ t) rest w = absurd w
cut_next n i (y ∷ t) rest w = absurd w

pub work_next : (n : ℕ) (t rest : List Entry) → IsWork n (t ++ rest) → next_work n t ≡ if_going (work_cell n t) n
work_next n [] rest w = refl
work_next n (Dispatch m v ∷ t) rest w = rw (self n m w.0) (cut_next n 0 t rest w.1)
work_next n (y ∷ t) rest w = absurd w

last_same : (whole part : ℕ → Type 0) (f g : ℕ → List ℕ) (ks : List ℕ) → ((k : ℕ) → part k → f k ≡ g k) → LastMayBeCut whole part ks → next_of_last f ks ≡ next_of_last g ks
last_same whole part f g [] h p = refl
last_same whole part f g (k ∷ []) h p = h k p
last_same whole part f g (k ∷ j ∷ ks) h p = last_same whole part f g (j ∷ ks) h p.1

loop_same : (n : ℕ) (whole part shows : List Entry → Type 0) (f : List Entry → List ℕ) (body : List ℕ) (ts : List Turn) → ((u : List Entry) → part u → shows u → f u ≡ body) → IsLoopSoFar whole part ts → shows (last_body ts) → next_loop n f ts ≡ after_answer n (last_answer ts) (first_of_two body (n ∷ [])) []
loop_same n whole part shows f body [] h p s = refl
loop_same n whole part shows f body (Tested true t ∷ []) h p s = rw (h t p s) refl
loop_same n whole part shows f body (Tested false t ∷ []) h p s = refl
loop_same n whole part shows f body (Tested true t ∷ r ∷ rest) h p s = loop_same n whole part shows f body (r ∷ rest) h p.1 s
loop_same n whole part shows f body (Tested false t ∷ r ∷ rest) h p s = absurd p

-- past an own entry, the rest is the element's part
pub only_rest : (ns : List ℕ) (y : Entry) (t : List Entry) → is_of ns y ≡ false → AllOf ns t → only ns (y ∷ t) ≡ t
only_rest ns y t h p = rw h (only_all ns t p)

sel_same : (c : ℕ → Cell) (n : ℕ) (es : Execs) (y : Entry) (t : List Entry) → has (nodes_all es) n ≡ false → ((k : ℕ) → PartAt es k t → only (nodes_at es k) (y ∷ t) ≡ t → next_at es k t ≡ next_by_at c es k) → (o : Option ℕ) → pick_of n y ≡ o → IsSomeAnd o (λ k. PartAt es k t) → next_after (λ k u. next_at es k u) o t ≡ after_picks n (cons_option o (picks n t)) (λ k. next_by_at c es k)
sel_same c n es y t own h None e p = absurd p
sel_same c n es y t own h (Some k) e p =
    let out : is_of (nodes_all es) y ≡ false = subst (λ (w : Entry). is_of (nodes_all es) w ≡ false) (sym (pick_is n y k e)) own in
    h k p (only_rest (nodes_at es k) y t (at_outside es k y out) (part_inside_at es k t p))

pub no_cons : (y : Entry) (t : List Entry) → y ∷ t ≡ [] → ⊥
no_cons y t e = cc

if_same : (n : ℕ) (a b : Exec) (na nb : List ℕ) (y : Entry) (t : List Entry) → has (nodes a ++ nodes b) n ≡ false → (Part a t → only (nodes a) (y ∷ t) ≡ t → next a t ≡ na) → (Part b t → only (nodes b) (y ∷ t) ≡ t → next b t ≡ nb) → (o : Option Bool) → test_of n y ≡ o → IsSomeAnd o (λ k. Answered (λ u. Part a u) (λ u. Part b u) k t) → next_after (next_answered (λ u. next a u) (λ u. next b u)) o t ≡ after_answer n o na nb
if_same n a b na nb y t own h g None e p = absurd p
if_same n a b na nb y t own h g (Some true) e p =
    let out : is_of (nodes a ++ nodes b) y ≡ false = subst (λ (w : Entry). is_of (nodes a ++ nodes b) w ≡ false) (sym (test_is n y true e)) own in
    h p (only_rest (nodes a) y t (not_of_left (nodes a) (nodes b) y out) (part_inside a t p))
if_same n a b na nb y t own h g (Some false) e p =
    let out : is_of (nodes a ++ nodes b) y ≡ false = subst (λ (w : Entry). is_of (nodes a ++ nodes b) w ≡ false) (sym (test_is n y false e)) own in
    g p (only_rest (nodes b) y t (not_of_right (nodes a) (nodes b) y out) (part_inside b t p))

mutual
  pub next_from_cells : (c : ℕ → Cell) (e : Exec) (t : List Entry) → Apart e → Part e t → Shows c e t → next e t ≡ next_by c e
  next_from_cells c (Work n) t d p s = rw s (work_next n t p.0 p.1)
  next_from_cells c (Leaf n k) [] d p s = rw s refl
  next_from_cells c (Leaf n k) (x ∷ t) d p s = rw s refl
  next_from_cells c (Plan n es) t d p s = order_from_cells c es t d p.1 s
  next_from_cells c (Par n es) t d p s = each_from_cells c es t d p.1 s
  next_from_cells c (NonSeq n es) t d p s =
      rw (s.0, last_same (λ k. WholeAt es k (part_at es k t)) (λ k. PartAt es k (part_at es k t)) (λ k. next_at es k (part_at es k t)) (λ k. next_by_at c es k) (picks n t) (λ k q. at_from_cells c es k (part_at es k t) t d.1 q s.1 refl) p.2) refl
  next_from_cells c (Sel n es) [] d p s = rw s.0 refl
  next_from_cells c (Sel n es) (y ∷ t) d (inl p) s = absurd (no_cons y t p)
  next_from_cells c (Sel n es) (y ∷ t) d (inr p) s =
      rw s.0 (sel_same c n es y t d.0 (λ k q r. at_from_cells c es k t (y ∷ t) d.1 q s.1 r) (pick_of n y) refl p)
  next_from_cells c (If n a b) [] d p s = rw s.0 refl
  next_from_cells c (If n a b) (y ∷ t) d (inl p) s = absurd (no_cons y t p)
  next_from_cells c (If n a b) (y ∷ t) d (inr p) s =
      rw s.0 (if_same n a b (next_by c a) (next_by c b) y t d.0
      (λ q r. next_from_cells c a t d.1 q (subst (Shows c a) r s.1)) (λ q r. next_from_cells c b t d.2 q (subst (Shows c b) r s.2)) (test_of n y) refl p)
  next_from_cells c (While n a) t d p s =
      rw s.0 (loop_same n (λ u. Whole a u) (λ u. Part a u) (λ u. Shows c a u) (λ u. next a u) (next_by c a) (turns n t) (λ u q r. next_from_cells c a u d.1 q r) p.1 s.1)

  pub order_from_cells : (c : ℕ → Cell) (es : Execs) (t : List Entry) → ApartAll es → InOrder es t → ShowsAll c es t → next_in_order es t ≡ next_by_order c es
  order_from_cells c None_left t d p s = refl
  order_from_cells c (Then e es) t d p s = rw (next_from_cells c e (only (nodes e) t) d.0 p.0 s.0, order_from_cells c es t d.1 p.2 s.1) refl

  pub each_from_cells : (c : ℕ → Cell) (es : Execs) (t : List Entry) → ApartAll es → EachPart es t → ShowsAll c es t → next_each es t ≡ next_by_each c es
  each_from_cells c None_left t d p s = refl
  each_from_cells c (Then e es) t d p s = rw (next_from_cells c e (only (nodes e) t) d.0 p.0 s.0, each_from_cells c es t d.1 p.1 s.1) refl

  pub at_from_cells : (c : ℕ → Cell) (es : Execs) (k : ℕ) (t u : List Entry) → ApartAll es → PartAt es k t → ShowsAll c es u → only (nodes_at es k) u ≡ t → next_at es k t ≡ next_by_at c es k
  at_from_cells c None_left k t u d p s r = absurd p
  at_from_cells c (Then e es) zero t u d p s r = next_from_cells c e t d.0 p (subst (Shows c e) r s.0)
  at_from_cells c (Then e es) (suc k) t u d p s r = at_from_cells c es k t u d.1 p s.1 r
