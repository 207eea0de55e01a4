-- The cells after one more entry.
use Rattle.std.specs.Prelude.{◌≡◌, ◌<◌, ℕ, zero, suc, Bool, true, false, ◌||◌, ◌==◌, List, [], ◌∷◌, ◌++◌, Option, Some, None, IsSomeAnd}
use Rattle.std.proofs.Common.{refl, sym, ◌∙◌, ap, subst, inl, inr, arith}
use Rattle.exec_tree.specs.Exec.{Exec, Work, Leaf, Plan, Par, NonSeq, Sel, If, While, Execs, None_left, Then, nodes, nodes_all, number_or_none, has, count}
use Rattle.trace_law.specs.Of.{number_of, is_of, only}
use Rattle.trace_law.specs.Own.{picks, pick_of, test_of, Turn, Tested, lead, turns}
use Rattle.trace_law.specs.Part.{LastMayBeCut, IsLoopSoFar, Part, EachPart, InOrder, PartAt}
use Rattle.trace_law.specs.Whole.{Answered, Whole, WholeAt}
use Rattle.trace_law.specs.Elements.{nodes_at, part_at}
use Rattle.run_log.specs.declared.entry.Entry.{Entry}
use Rattle.trace_law.proofs.StepLemmas.{has-append, only_in, only_out, not_of_left, not_of_right, SameParts, Apart, ApartAll, of_none, same_number}
use Rattle.trace_law.proofs.StepForthLemmas.{lead_other, turns_other, turns_test, lead_not_empty, by_contradiction, at_outside, at_apart, pick_is, picks_more, picks_same, at_of_whole, longer}
use Rattle.trace_law.proofs.StepBackLemmas.{part_inside, part_inside_at, part_nil, at_nil, same_in, step_inside, only_none, visits_without, test_is}
-- ---- a step continues
use Rattle.trace_law.specs.Cells.{Cell, Over, Picked, AnsweredBy, cell_of_stage, work_cell, stage_of, leaf_cell, last_answer, last_body, Shows, ShowsAll, picked, AreKept, work_after, WhereTrue, WhereSome, Moves, MovesIn}
use Rattle.trace_law.proofs.CellNextLemmas.{only_rest, no_cons}
use Rattle.trace_law.specs.State.{stage, stage_step}
use Rattle.trace_law.proofs.OfferLemmas.{stage_append}
use Rattle.std.proofs.lemmas.Bool.Decides.{nat_tests}

has_self : (q : ℕ) → (q == q) ≡ true
has_self q = grind (arith, nat_tests)

no_way : true ≡ false → ⊥
no_way e = cc

pub kept_left : (c c' : ℕ → Cell) (ms ns : List ℕ) → AreKept c c' (ms ++ ns) → AreKept c c' ms
kept_left c c' ms ns h = λ m g. h m (has-append ms ns m ∙ rw g refl)

or_true : (b : Bool) → (b || true) ≡ true
or_true true = refl
or_true false = refl

pub kept_right : (c c' : ℕ → Cell) (ms ns : List ℕ) → AreKept c c' (ms ++ ns) → AreKept c c' ns
kept_right c c' ms ns h = λ m g. h m (has-append ms ns m ∙ rw g (or_true (has ms m)))

pub kept_own : (c c' : ℕ → Cell) (n : ℕ) (ns : List ℕ) → AreKept c c' (n ∷ ns) → c' n ≡ c n
kept_own c c' n ns h = h n (let g : (n == n) ≡ true = has_self n in rw g refl)

pub kept_rest : (c c' : ℕ → Cell) (n : ℕ) (ns : List ℕ) → AreKept c c' (n ∷ ns) → AreKept c c' ns
kept_rest c c' n ns h = kept_right c c' (n ∷ []) ns h

mutual
  pub shows_kept : (c c' : ℕ → Cell) (e : Exec) (t : List Entry) → AreKept c c' (nodes e) → Shows c e t → Shows c' e t
  shows_kept c c' (Work n) t h s = kept_own c c' n [] h ∙ s
  shows_kept c c' (Leaf n k) t h s = kept_own c c' n [] h ∙ s
  shows_kept c c' (Plan n es) t h s = shows_kept_all c c' es t (kept_right c c' (number_or_none n) (nodes_all es) h) s
  shows_kept c c' (Par n es) t h s = shows_kept_all c c' es t (kept_rest c c' n (nodes_all es) h) s
  shows_kept c c' (NonSeq n es) t h s = (kept_own c c' n (nodes_all es) h ∙ s.0, shows_kept_all c c' es t (kept_rest c c' n (nodes_all es) h) s.1)
  shows_kept c c' (Sel n es) t h s = (kept_own c c' n (nodes_all es) h ∙ s.0, shows_kept_all c c' es t (kept_rest c c' n (nodes_all es) h) s.1)
  shows_kept c c' (If n a b) t h s =
      let r = kept_rest c c' n (nodes a ++ nodes b) h in
      (kept_own c c' n (nodes a ++ nodes b) h ∙ s.0, shows_kept c c' a (only (nodes a) t) (kept_left c c' (nodes a) (nodes b) r) s.1, shows_kept c c' b (only (nodes b) t) (kept_right c c' (nodes a) (nodes b) r) s.2)
  shows_kept c c' (While n a) t h s = (kept_own c c' n (nodes a) h ∙ s.0, shows_kept c c' a (last_body (turns n t)) (kept_rest c c' n (nodes a) h) s.1)

  pub shows_kept_all : (c c' : ℕ → Cell) (es : Execs) (t : List Entry) → AreKept c c' (nodes_all es) → ShowsAll c es t → ShowsAll c' es t
  shows_kept_all c c' None_left t h s = tt
  shows_kept_all c c' (Then e es) t h s =
      (shows_kept c c' e (only (nodes e) t) (kept_left c c' (nodes e) (nodes_all es) h) s.0, shows_kept_all c c' es t (kept_right c c' (nodes e) (nodes_all es) h) s.1)

same_shows : (c : ℕ → Cell) (es : Execs) (t u : List Entry) → SameParts es t u → ShowsAll c es t → ShowsAll c es u
same_shows c None_left t u h s = tt
same_shows c (Then e es) t u h s = (subst (Shows c e) h.0 s.0, same_shows c es t u h.1 s.1)

-- the cell of a workingstep tells its blocks
pub work_stage_of : (n : ℕ) (t : List Entry) → stage_of (work_cell n t) ≡ stage n t
work_stage_of n [] = refl
work_stage_of n (x ∷ t) = of_stage (stage n (x ∷ t))
  where
    of_stage : (o : Option ℕ) → stage_of (cell_of_stage o) ≡ o
    of_stage None = refl
    of_stage (Some k) = refl

work_cell_more : (n : ℕ) (t : List Entry) (x : Entry) → work_cell n (t ++ x ∷ []) ≡ cell_of_stage (stage n (t ++ x ∷ []))
work_cell_more n [] x = refl
work_cell_more n (y ∷ t) x = refl

pub work_after_is : (n : ℕ) (t : List Entry) (x : Entry) → work_cell n (t ++ x ∷ []) ≡ work_after n (work_cell n t) x
work_after_is n t x =
    work_cell_more n t x ∙ ap cell_of_stage (stage_append n None t (x ∷ []) ∙ sym (ap (λ (o : Option ℕ). stage_step n o x) (work_stage_of n t)))

pub leaf_after : (t : List Entry) (x : Entry) → leaf_cell (t ++ x ∷ []) ≡ Over
leaf_after [] x = refl
leaf_after (y ∷ t) x = refl

-- the element that x is of moves, and the others are kept
moves_cons : (c c' : ℕ → Cell) (a : Exec) (es : Execs) (t : List Entry) (x : Entry) (b : Bool) → is_of (nodes a) x ≡ b → ((y : Entry) → is_of (nodes a) y ≡ true → is_of (nodes_all es) y ≡ false) → (is_of (nodes a) x ≡ true → Moves c a x c' → Shows c' a (only (nodes a) t ++ x ∷ [])) → (MovesIn c es x c' → ShowsAll c' es (t ++ x ∷ [])) → ShowsAll c (Then a es) t → WhereTrue b (Moves c a x c' × AreKept c c' (nodes_all es)) (AreKept c c' (nodes a) × MovesIn c es x c') → ShowsAll c' (Then a es) (t ++ x ∷ [])
moves_cons c c' a es t x true h across rec1 rec2 s m = (
  subst (Shows c' a) (sym (only_in (nodes a) t x h)) (rec1 h m.0),
  same_shows c' es t (t ++ x ∷ []) (same_in es t x (across x h)) (shows_kept_all c c' es t m.1 s.1),
)
moves_cons c c' a es t x false h across rec1 rec2 s m =
    (subst (Shows c' a) (sym (only_out (nodes a) t x h)) (shows_kept c c' a (only (nodes a) t) m.0 s.0), rec2 m.1)

-- ---- the elements' parts of a Part are Parts

in_range : (es : Execs) (k : ℕ) (x : Entry) → is_of (nodes_at es k) x ≡ true → k < count es
in_range None_left k x h = absurd (of_none (number_of x) h)
in_range (Then e es) zero x h = omega arith
in_range (Then e es) (suc k) x h = omega (arith, in_range es k x h)

pub order_at : (es : Execs) (k : ℕ) (t : List Entry) → InOrder es t → k < count es → PartAt es k (part_at es k t)
order_at None_left k t p l = absurd (omega arith)
order_at (Then e es) zero t p l = p.0
order_at (Then e es) (suc k) t p l = order_at es k t p.2 (omega arith)

pub each_at : (es : Execs) (k : ℕ) (t : List Entry) → EachPart es t → k < count es → PartAt es k (part_at es k t)
each_at None_left k t p l = absurd (omega arith)
each_at (Then e es) zero t p l = p.0
each_at (Then e es) (suc k) t p l = each_at es k t p.1 (omega arith)

picked_at : (whole part : ℕ → Type 0) (ks : List ℕ) (k : ℕ) → ((j : ℕ) → whole j → part j) → LastMayBeCut whole part ks → has ks k ≡ true → part k
picked_at whole part [] k h p g = absurd (cc)
picked_at whole part (j ∷ []) k h p g = go (j == k) refl
  where
    go : (b : Bool) → (j == k) ≡ b → part k
    go true e = subst part (same_number j k e) p
    go false e = let f : (false || false) ≡ true = rw e at g in absurd (cc)
picked_at whole part (j ∷ i ∷ ks) k h p g = go (j == k) refl (picked_at whole part (i ∷ ks) k h p.1)
  where
    go : (b : Bool) → (j == k) ≡ b → (has (i ∷ ks) k ≡ true → part k) → part k
    go true e f = subst part (same_number j k e) (h j p.0)
    go false e f = f (rw e at g)

pub nonseq_at : (n : ℕ) (es : Execs) (k : ℕ) (t : List Entry) → has (nodes_all es) n ≡ false → ApartAll es → Part (NonSeq n es) t → k < count es → PartAt es k (part_at es k t)
nonseq_at n es k t own d p l = go (has (picks n t) k) refl
  where
    go : (b : Bool) → has (picks n t) k ≡ b → PartAt es k (part_at es k t)
    go true e = picked_at (λ j. WholeAt es j (part_at es j t)) (λ j. PartAt es j (part_at es j t)) (picks n t) k (λ j w. at_of_whole es j (part_at es j t) w) p.2 e
    go false e =
        let emp : part_at es k t ≡ [] = ap (λ (w : List Entry). only (nodes_at es k) w) p.0 ∙ visits_without n es t (picks n t) k own d e in
        subst (PartAt es k) (sym emp) (at_nil es k l)

chosen_at : (n : ℕ) (es : Execs) (k : ℕ) (y : Entry) (t : List Entry) → has (nodes_all es) n ≡ false → ApartAll es → k < count es → (o : Option ℕ) → pick_of n y ≡ o → IsSomeAnd o (λ j. PartAt es j t) → PartAt es k (part_at es k (y ∷ t))
chosen_at n es k y t own d l None e p = absurd p
chosen_at n es k y t own d l (Some j) e p = go (j == k) refl
  where
    out : is_of (nodes_all es) y ≡ false
    out = subst (λ (w : Entry). is_of (nodes_all es) w ≡ false) (sym (pick_is n y j e)) own

    go : (b : Bool) → (j == k) ≡ b → PartAt es k (part_at es k (y ∷ t))
    go true q =
        let jk : j ≡ k = same_number j k q in
        subst (λ i. PartAt es i (part_at es i (y ∷ t))) jk
        (subst (PartAt es j) (sym (only_rest (nodes_at es j) y t (at_outside es j y out) (part_inside_at es j t p))) p)
    go false q =
        let ne : j ≡ k → ⊥ = λ r. let z : (j == k) ≡ true = rw r (has_self k) in let w : true ≡ false = sym z ∙ q in cc in
        let emp : only (nodes_at es k) (y ∷ t) ≡ [] =
        rw (at_outside es k y out) (only_none (nodes_at es j) (nodes_at es k) t (λ x h. at_apart es j k x d ne h) (part_inside_at es j t p)) in
        subst (PartAt es k) (sym emp) (at_nil es k l)

pub sel_at : (n : ℕ) (es : Execs) (k : ℕ) (t : List Entry) → has (nodes_all es) n ≡ false → ApartAll es → Part (Sel n es) t → k < count es → PartAt es k (part_at es k t)
sel_at n es k [] own d p l = at_nil es k l
sel_at n es k (y ∷ t) own d (inl p) l = absurd (no_cons y t p)
sel_at n es k (y ∷ t) own d (inr p) l = chosen_at n es k y t own d l (pick_of n y) refl p

-- ---- picks, tests and turns

PartsAt : Execs → List Entry → Type 0
PartsAt es t = (k : ℕ) → k < count es → PartAt es k (part_at es k t)

picked_moves : (c c' : ℕ → Cell) (n : ℕ) (es : Execs) (t : List Entry) (x : Entry) → has (nodes_all es) n ≡ false → (MovesIn c es x c' → ShowsAll c' es (t ++ x ∷ [])) → (c n ≡ Picked (picks n t)) × ShowsAll c es t → (o : Option ℕ) → pick_of n x ≡ o → WhereSome o (λ k. (c' n ≡ Picked (picked (c n) ++ k ∷ [])) × AreKept c c' (nodes_all es)) ((c' n ≡ c n) × MovesIn c es x c') → (c' n ≡ Picked (picks n (t ++ x ∷ []))) × ShowsAll c' es (t ++ x ∷ [])
picked_moves c c' n es t x own rec s (Some k) e m =
    let out : is_of (nodes_all es) x ≡ false = subst (λ (w : Entry). is_of (nodes_all es) w ≡ false) (sym (pick_is n x k e)) own in
    (m.0 ∙ rw (s.0, picks_more n t x k e) refl, same_shows c' es t (t ++ x ∷ []) (same_in es t x out) (shows_kept_all c c' es t m.1 s.1))
picked_moves c c' n es t x own rec s None e m = (m.0 ∙ rw (s.0, picks_same n t x e) refl, rec m.1)

pub last_answer_more : (ts : List Turn) (b : Bool) → last_answer (ts ++ Tested b [] ∷ []) ≡ Some b
last_answer_more [] b = refl
last_answer_more (Tested a t ∷ []) b = refl
last_answer_more (r ∷ s ∷ rest) b = last_answer_more (s ∷ rest) b

last_body_more : (ts : List Turn) (b : Bool) → last_body (ts ++ Tested b [] ∷ []) ≡ []
last_body_more [] b = refl
last_body_more (Tested a t ∷ []) b = refl
last_body_more (r ∷ s ∷ rest) b = last_body_more (s ∷ rest) b

pub last_answer_longer : (ts : List Turn) (x : Entry) → last_answer (longer ts x) ≡ last_answer ts
last_answer_longer [] x = refl
last_answer_longer (Tested a t ∷ []) x = refl
last_answer_longer (r ∷ Tested b t ∷ []) x = refl
last_answer_longer (r ∷ s ∷ q ∷ rest) x = last_answer_longer (s ∷ q ∷ rest) x

pub last_body_longer : (ts : List Turn) (x : Entry) → (ts ≡ [] → ⊥) → last_body (longer ts x) ≡ last_body ts ++ x ∷ []
last_body_longer [] x h = absurd (h refl)
last_body_longer (Tested a t ∷ []) x h = refl
last_body_longer (r ∷ Tested b t ∷ []) x h = refl
last_body_longer (r ∷ s ∷ q ∷ rest) x h = last_body_longer (s ∷ q ∷ rest) x (λ e. cc)

pub last_part : (whole part : List Entry → Type 0) (ts : List Turn) → part [] → IsLoopSoFar whole part ts → part (last_body ts)
last_part whole part [] nil p = nil
last_part whole part (Tested true t ∷ []) nil p = p
last_part whole part (Tested false t ∷ []) nil p = subst part (sym p) nil
last_part whole part (Tested true t ∷ r ∷ rest) nil p = last_part whole part (r ∷ rest) nil p.1
last_part whole part (Tested false t ∷ r ∷ rest) nil p = absurd p

while_moves : (c c' : ℕ → Cell) (n : ℕ) (whole part : List Entry → Type 0) (shows shows' : List Entry → Type 0) (moves : Type 0) (t : List Entry) (x : Entry) → part [] → ((u : List Entry) → part u → part (u ++ x ∷ []) → shows u → moves → shows' (u ++ x ∷ [])) → (lead n t ≡ []) × IsLoopSoFar whole part (turns n t) → (lead n (t ++ x ∷ []) ≡ []) × IsLoopSoFar whole part (turns n (t ++ x ∷ [])) → (c n ≡ AnsweredBy (last_answer (turns n t))) × shows (last_body (turns n t)) → (o : Option Bool) → test_of n x ≡ o → WhereSome o (λ ans. (c' n ≡ AnsweredBy (Some ans)) × shows' []) ((c' n ≡ c n) × moves) → (c' n ≡ AnsweredBy (last_answer (turns n (t ++ x ∷ [])))) × shows' (last_body (turns n (t ++ x ∷ [])))
while_moves c c' n whole part shows shows' moves t x nil rec p q s (Some b) e m =
    let ts : turns n (t ++ x ∷ []) ≡ turns n t ++ Tested b [] ∷ [] = turns_test n t x b e in (
      m.0 ∙ sym (ap (λ (w : List Turn). AnsweredBy (last_answer w)) ts ∙ ap AnsweredBy (last_answer_more (turns n t) b)),
      subst shows' (sym (ap last_body ts ∙ last_body_more (turns n t) b)) m.1,
    )
while_moves c c' n whole part shows shows' moves t x nil rec p q s None e m =
    let ts : turns n (t ++ x ∷ []) ≡ longer (turns n t) x = turns_other n t x e in
    let l = lead_not_empty (turns n t) (lead n t) x (sym (lead_other n t x e) ∙ q.0) in
    let lb : last_body (turns n (t ++ x ∷ [])) ≡ last_body (turns n t) ++ x ∷ [] = ap last_body ts ∙ last_body_longer (turns n t) x l.0 in (
      m.0 ∙ (s.0 ∙ sym (ap (λ (w : List Turn). AnsweredBy (last_answer w)) ts ∙ ap AnsweredBy (last_answer_longer (turns n t) x))),
      subst shows' (sym lb)
          (rec (last_body (turns n t)) (last_part whole part (turns n t) nil p.1) (subst part lb (last_part whole part (turns n (t ++ x ∷ [])) nil q.1)) s.1 m.1),
    )

branch_moves : (c c' : ℕ → Cell) (n : ℕ) (a b : Exec) (y : Entry) (u : List Entry) (x : Entry) → has (nodes a ++ nodes b) n ≡ false → ((z : Entry) → is_of (nodes a) z ≡ true → is_of (nodes b) z ≡ false) → (Part a u → Part a (u ++ x ∷ []) → Shows c a u → Moves c a x c' → Shows c' a (u ++ x ∷ [])) → (Part b u → Part b (u ++ x ∷ []) → Shows c b u → Moves c b x c' → Shows c' b (u ++ x ∷ [])) → (o : Option Bool) → test_of n y ≡ o → IsSomeAnd o (λ k. Answered (λ v. Part a v) (λ v. Part b v) k u) → IsSomeAnd o (λ k. Answered (λ v. Part a v) (λ v. Part b v) k (u ++ x ∷ [])) → Shows c a (only (nodes a) (y ∷ u)) × Shows c b (only (nodes b) (y ∷ u)) → WhereTrue (is_of (nodes a) x) (Moves c a x c' × AreKept c c' (nodes b)) (AreKept c c' (nodes a) × Moves c b x c') → Shows c' a (only (nodes a) (y ∷ (u ++ x ∷ []))) × Shows c' b (only (nodes b) (y ∷ (u ++ x ∷ [])))
branch_moves c c' n a b y u x own across rec1 rec2 None e p q s m = absurd p
branch_moves c c' n a b y u x own across rec1 rec2 (Some true) e p q s m =
    let out : is_of (nodes a ++ nodes b) y ≡ false = subst (λ (w : Entry). is_of (nodes a ++ nodes b) w ≡ false) (sym (test_is n y true e)) own in
    let ya : is_of (nodes a) y ≡ false = not_of_left (nodes a) (nodes b) y out in
    let xa : is_of (nodes a) x ≡ true = step_inside a u x q in
    let m2 = rw xa at m in
    let same : only (nodes b) (y ∷ u) ≡ only (nodes b) ((y ∷ u) ++ x ∷ []) = sym (only_out (nodes b) (y ∷ u) x (across x xa)) in (
      subst (Shows c' a) (sym (only_rest (nodes a) y (u ++ x ∷ []) ya (part_inside a (u ++ x ∷ []) q)))
          (rec1 p q (subst (Shows c a) (only_rest (nodes a) y u ya (part_inside a u p)) s.0) m2.0),
      subst (Shows c' b) same (shows_kept c c' b (only (nodes b) (y ∷ u)) m2.1 s.1),
    )
branch_moves c c' n a b y u x own across rec1 rec2 (Some false) e p q s m =
    let out : is_of (nodes a ++ nodes b) y ≡ false = subst (λ (w : Entry). is_of (nodes a ++ nodes b) w ≡ false) (sym (test_is n y false e)) own in
    let yb : is_of (nodes b) y ≡ false = not_of_right (nodes a) (nodes b) y out in
    let xb : is_of (nodes b) x ≡ true = step_inside b u x q in
    let xa : is_of (nodes a) x ≡ false = by_contradiction (is_of (nodes a) x) (λ g. let z : is_of (nodes b) x ≡ false = across x g in let w : true ≡ false = sym xb ∙ z in cc) in
    let m2 = rw xa at m in
    let same : only (nodes a) (y ∷ u) ≡ only (nodes a) ((y ∷ u) ++ x ∷ []) = sym (only_out (nodes a) (y ∷ u) x xa) in (
      subst (Shows c' a) same (shows_kept c c' a (only (nodes a) (y ∷ u)) m2.0 s.0),
      subst (Shows c' b) (sym (only_rest (nodes b) y (u ++ x ∷ []) yb (part_inside b (u ++ x ∷ []) q)))
          (rec2 p q (subst (Shows c b) (only_rest (nodes b) y u yb (part_inside b u p)) s.1) m2.1),
    )

-- an entry inside a branch isn't the test
not_inside : (n : ℕ) (a b : Exec) (y : Entry) (u : List Entry) (x : Entry) (ans : Bool) → has (nodes a ++ nodes b) n ≡ false → test_of n x ≡ Some ans → (o : Option Bool) → IsSomeAnd o (λ k. Answered (λ v. Part a v) (λ v. Part b v) k (u ++ x ∷ [])) → ⊥
not_inside n a b y u x ans own e None q = q
not_inside n a b y u x ans own e (Some true) q =
    let out : is_of (nodes a ++ nodes b) x ≡ false = subst (λ (w : Entry). is_of (nodes a ++ nodes b) w ≡ false) (sym (test_is n x ans e)) own in
    let w : true ≡ false = sym (step_inside a u x q) ∙ not_of_left (nodes a) (nodes b) x out in no_way w
not_inside n a b y u x ans own e (Some false) q =
    let out : is_of (nodes a ++ nodes b) x ≡ false = subst (λ (w : Entry). is_of (nodes a ++ nodes b) w ≡ false) (sym (test_is n x ans e)) own in
    let w : true ≡ false = sym (step_inside b u x q) ∙ not_of_right (nodes a) (nodes b) x out in no_way w

tested_first : (c c' : ℕ → Cell) (n : ℕ) (a b : Exec) (x : Entry) → has (nodes a ++ nodes b) n ≡ false → (o : Option Bool) → test_of n x ≡ o → IsSomeAnd o (λ k. Answered (λ v. Part a v) (λ v. Part b v) k []) → Shows c a [] × Shows c b [] → WhereSome o (λ ans. (c' n ≡ AnsweredBy (Some ans)) × AreKept c c' (nodes a ++ nodes b)) ((c' n ≡ c n) × WhereTrue (is_of (nodes a) x) (Moves c a x c' × AreKept c c' (nodes b)) (AreKept c c' (nodes a) × Moves c b x c')) → (c' n ≡ AnsweredBy (test_of n x)) × Shows c' a (only (nodes a) (x ∷ [])) × Shows c' b (only (nodes b) (x ∷ []))
tested_first c c' n a b x own None e p s m = absurd p
tested_first c c' n a b x own (Some ans) e p s m =
    let out : is_of (nodes a ++ nodes b) x ≡ false = subst (λ (w : Entry). is_of (nodes a ++ nodes b) w ≡ false) (sym (test_is n x ans e)) own in (
      m.0 ∙ rw e refl,
      subst (Shows c' a) (sym (only_rest (nodes a) x [] (not_of_left (nodes a) (nodes b) x out) tt)) (shows_kept c c' a [] (kept_left c c' (nodes a) (nodes b) m.1) s.0),
      subst (Shows c' b) (sym (only_rest (nodes b) x [] (not_of_right (nodes a) (nodes b) x out) tt)) (shows_kept c c' b [] (kept_right c c' (nodes a) (nodes b) m.1) s.1),
    )

tested_later : (c c' : ℕ → Cell) (n : ℕ) (a b : Exec) (y : Entry) (u : List Entry) (x : Entry) → has (nodes a ++ nodes b) n ≡ false → (WhereTrue (is_of (nodes a) x) (Moves c a x c' × AreKept c c' (nodes b)) (AreKept c c' (nodes a) × Moves c b x c') → Shows c' a (only (nodes a) (y ∷ (u ++ x ∷ []))) × Shows c' b (only (nodes b) (y ∷ (u ++ x ∷ [])))) → c n ≡ AnsweredBy (test_of n y) → IsSomeAnd (test_of n y) (λ k. Answered (λ v. Part a v) (λ v. Part b v) k (u ++ x ∷ [])) → (o : Option Bool) → test_of n x ≡ o → WhereSome o (λ ans. (c' n ≡ AnsweredBy (Some ans)) × AreKept c c' (nodes a ++ nodes b)) ((c' n ≡ c n) × WhereTrue (is_of (nodes a) x) (Moves c a x c' × AreKept c c' (nodes b)) (AreKept c c' (nodes a) × Moves c b x c')) → (c' n ≡ AnsweredBy (test_of n y)) × Shows c' a (only (nodes a) (y ∷ (u ++ x ∷ []))) × Shows c' b (only (nodes b) (y ∷ (u ++ x ∷ [])))
tested_later c c' n a b y u x own rec s q (Some ans) e m = absurd (not_inside n a b y u x ans own e (test_of n y) q)
tested_later c c' n a b y u x own rec s q None e m = let z = rec m.1 in (m.0 ∙ s, z.0, z.1)

mutual
  pub cells_step : (c c' : ℕ → Cell) (e : Exec) (t : List Entry) (x : Entry) → Apart e → Part e t → Part e (t ++ x ∷ []) → Shows c e t → Moves c e x c' → Shows c' e (t ++ x ∷ [])
  cells_step c c' (Work n) t x d p q s m =
      m ∙ (ap (λ (cell : Cell). work_after n cell x) s ∙ sym (work_after_is n t x))
  cells_step c c' (Leaf n k) t x d p q s m = m ∙ sym (leaf_after t x)
  cells_step c c' (Plan n es) t x d p q s m =
      moves_in c c' es t x d (λ k l. order_at es k t p.1 l) (λ k l. order_at es k (t ++ x ∷ []) q.1 l) s m
  cells_step c c' (Par n es) t x d p q s m =
      moves_in c c' es t x d (λ k l. each_at es k t p.1 l) (λ k l. each_at es k (t ++ x ∷ []) q.1 l) s m
  cells_step c c' (NonSeq n es) t x d p q s m =
      picked_moves c c' n es t x d.0 (λ v. moves_in c c' es t x d.1 (λ k l. nonseq_at n es k t d.0 d.1 p l) (λ k l. nonseq_at n es k (t ++ x ∷ []) d.0 d.1 q l) s.1 v) s (pick_of n x) refl m
  cells_step c c' (Sel n es) t x d p q s m =
      picked_moves c c' n es t x d.0 (λ v. moves_in c c' es t x d.1 (λ k l. sel_at n es k t d.0 d.1 p l) (λ k l. sel_at n es k (t ++ x ∷ []) d.0 d.1 q l) s.1 v) s (pick_of n x) refl m
  cells_step c c' (If n a b) [] x d p (inl q) s m = absurd (no_cons x [] q)
  cells_step c c' (If n a b) [] x d p (inr q) s m = tested_first c c' n a b x d.0 (test_of n x) refl q (s.1, s.2) m
  cells_step c c' (If n a b) (y ∷ t) x d p (inl q) s m = absurd (no_cons y (t ++ x ∷ []) q)
  cells_step c c' (If n a b) (y ∷ t) x d (inl p) (inr q) s m = absurd (no_cons y t p)
  cells_step c c' (If n a b) (y ∷ t) x d (inr p) (inr q) s m =
      tested_later c c' n a b y t x d.0
      (λ v. branch_moves c c' n a b y t x d.0 d.3 (λ i j k l. cells_step c c' a t x d.1 i j k l) (λ i j k l. cells_step c c' b t x d.2 i j k l) (test_of n y) refl p q (s.1, s.2) v)
      s.0 q (test_of n x) refl m
  cells_step c c' (While n a) t x d p q s m =
      while_moves c c' n (λ u. Whole a u) (λ u. Part a u) (λ u. Shows c a u) (λ u. Shows c' a u) (Moves c a x c') t x (part_nil a)
      (λ u i j k l. cells_step c c' a u x d.1 i j k l) p q s (test_of n x) refl m

  pub moves_in : (c c' : ℕ → Cell) (es : Execs) (t : List Entry) (x : Entry) → ApartAll es → ((k : ℕ) → k < count es → PartAt es k (part_at es k t)) → ((k : ℕ) → k < count es → PartAt es k (part_at es k (t ++ x ∷ []))) → ShowsAll c es t → MovesIn c es x c' → ShowsAll c' es (t ++ x ∷ [])
  moves_in c c' None_left t x d p q s m = tt
  moves_in c c' (Then e es) t x d p q s m =
      moves_cons c c' e es t x (is_of (nodes e) x) refl d.2
      (λ h v. cells_step c c' e (only (nodes e) t) x d.0 (p 0 (omega arith)) (subst (Part e) (only_in (nodes e) t x h) (q 0 (omega arith))) s.0 v)
      (λ v. moves_in c c' es t x d.1 (λ k l. p (suc k) (omega arith)) (λ k l. q (suc k) (omega arith)) s.1 v) s m
