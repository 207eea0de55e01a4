-- The frames after one more entry.
use Rattle.std.specs.Prelude.{◌≡◌, ◌-◌, ◌+◌, ◌<◌, ℕ, zero, suc, Bool, true, false, List, [], ◌∷◌, ◌++◌, Option, Some, None, IsSomeAnd, ⊤}
use Rattle.std.proofs.Common.{refl, sym, ◌∙◌, ap, subst, inl, inr}
use Rattle.std.specs.List.{cons_option}
use Rattle.exec_tree.specs.Exec.{Exec, Work, Leaf, Plan, Par, NonSeq, Sel, If, While, Execs, None_left, Then, nodes, nodes_all, number_or_none, has, count}
use Rattle.trace_law.specs.Of.{is_of, only}
use Rattle.trace_law.specs.Part.{LastMayBeCut, IsLoopSoFar, Part, EachPart, InOrder, PartAt}
use Rattle.trace_law.specs.Whole.{Answered, Whole, WholeAt}
use Rattle.trace_law.specs.Own.{picks, pick_of, test_of, Turn, Tested, turns}
use Rattle.trace_law.specs.Elements.{joined, nodes_at, part_at, visits}
use Rattle.trace_law.specs.Next.{next}
use Rattle.trace_law.specs.Step.{IsTest, AtLast, StepLoop, Step, StepInOrder, StepOfOne, StepAt}
use Rattle.trace_law.specs.Cells.{Cell, Picked, AnsweredBy, Left, work_after, first_answer, last_answer, last_body, picked, next_by, AreKept, WhereTrue, WhereSome}
use Rattle.trace_law.specs.Frames.{is_shared, going, left, one_where, next_by_of, WhereEmpty, OfFirst, OfLast, OfBranch, Stands, StandsInOrder, StandsEach, StandsAt, Goes, GoesInOrder, GoesOne}
use Rattle.run_log.specs.declared.entry.Entry.{Entry}
use Rattle.run_log.specs.declared.entry.Entry.TheVariants.{Note}
use Rattle.trace_law.proofs.WholeNextLemmas.{empty_from_whole}
use Rattle.trace_law.proofs.StepLemmas.{Apart, ApartAll, SameParts, only_in, only_out, not_of_left, not_of_right}
use Rattle.trace_law.proofs.StepForthLemmas.{append_empty_first, append_empty_second, at_inside, at_outside, pick_is, picks_more, picks_same, turns_test, turns_other, longer}
use Rattle.trace_law.proofs.StepBackLemmas.{part_inside, part_inside_at, test_is, same_in, step_inside, visits_without, part_of_step}
use Rattle.trace_law.proofs.ContinueLemmas.{clash}
use Rattle.trace_law.proofs.StayLemmas.{inside_at, not_true}
use Rattle.trace_law.proofs.CellNextLemmas.{only_rest, no_cons}
use Rattle.trace_law.proofs.CellMoveLemmas.{work_after_is, leaf_after, kept_left, kept_right, kept_own, kept_rest, last_answer_more, last_answer_longer}
use Rattle.trace_law.proofs.FrameNextLemmas.{where_empty, to_where_empty, next_from_frames}
use Rattle.trace_law.proofs.SharedCountLemmas.{left_after}

empty_map : (l : List ℕ) (P Q : Type 0) → (P → Q) → WhereEmpty l P → WhereEmpty l Q
empty_map [] P Q f w = f w
empty_map (n ∷ l) P Q f w = tt

first_map : (P Q : ℕ → Type 0) (ks : List ℕ) → ((k : ℕ) → P k → Q k) → OfFirst P ks → OfFirst Q ks
first_map P Q [] f w = tt
first_map P Q (k ∷ ks) f w = f k w

last_map : (P Q : ℕ → Type 0) (ks : List ℕ) → ((k : ℕ) → P k → Q k) → OfLast P ks → OfLast Q ks
last_map P Q [] f w = tt
last_map P Q (k ∷ []) f w = f k w
last_map P Q (k ∷ j ∷ ks) f w = last_map P Q (j ∷ ks) f w

branch_map : (o : Option Bool) (P P' Q Q' : Type 0) → (P → P') → (Q → Q') → OfBranch o P Q → OfBranch o P' Q'
branch_map None P P' Q Q' f g w = tt
branch_map (Some true) P P' Q Q' f g w = f w
branch_map (Some false) P P' Q Q' f g w = g w

pub where_map : (b : Bool) (P Q : Type 0) → (P → Q) → WhereTrue b P (Unit {0}) → WhereTrue b Q (Unit {0})
where_map true P Q f w = f w
where_map false P Q f w = tt

counted : (b : Bool) (cell cell' : Cell) (k k' one : ℕ) → k + one - 1 ≡ k' → WhereTrue b (cell ≡ Left k) (Unit {0}) → WhereTrue b (cell' ≡ Left (left cell + one - 1)) (Unit {0}) → WhereTrue b (cell' ≡ Left k') (Unit {0})
counted true cell cell' k k' one e s m = m ∙ ap Left (ap (λ (w : Cell). left w + one - 1) s ∙ e)
counted false cell cell' k k' one e s m = tt

-- ---- what is kept

mutual
  pub stands_kept : (c c' : ℕ → Cell) (e : Exec) (t : List Entry) → AreKept c c' (nodes e) → Stands c e t → Stands c' e t
  stands_kept c c' (Work n) t h s = kept_own c c' n [] h ∙ s
  stands_kept c c' (Leaf n k) t h s = kept_own c c' n [] h ∙ s
  stands_kept c c' (Plan n es) t h s = kept_in_order c c' es t (kept_right c c' (number_or_none n) (nodes_all es) h) s
  stands_kept c c' (Par n es) t h s = (where_map (is_shared es) _ _ (λ w. kept_own c c' n (nodes_all es) h ∙ w) s.0, kept_each c c' es t (kept_rest c c' n (nodes_all es) h) s.1)
  stands_kept c c' (NonSeq n es) t h s =
      (kept_own c c' n (nodes_all es) h ∙ s.0, last_map _ _ (picks n t) (λ k r. kept_at c c' es k (part_at es k t) (kept_rest c c' n (nodes_all es) h) r) s.1)
  stands_kept c c' (Sel n es) t h s =
      (kept_own c c' n (nodes_all es) h ∙ s.0, first_map _ _ (picks n t) (λ k r. kept_at c c' es k (part_at es k t) (kept_rest c c' n (nodes_all es) h) r) s.1)
  stands_kept c c' (If n a b) t h s =
      let r = kept_rest c c' n (nodes a ++ nodes b) h in (
        kept_own c c' n (nodes a ++ nodes b) h ∙ s.0,
        branch_map (first_answer n t) _ _ _ _ (λ w. stands_kept c c' a (only (nodes a) t) (kept_left c c' (nodes a) (nodes b) r) w)
            (λ w. stands_kept c c' b (only (nodes b) t) (kept_right c c' (nodes a) (nodes b) r) w) s.1,
      )
  stands_kept c c' (While n a) t h s = (
    kept_own c c' n (nodes a) h ∙ s.0,
    branch_map (last_answer (turns n t)) _ _ _ _ (λ w. stands_kept c c' a (last_body (turns n t)) (kept_rest c c' n (nodes a) h) w) (λ w. w) s.1,
  )

  kept_in_order : (c c' : ℕ → Cell) (es : Execs) (t : List Entry) → AreKept c c' (nodes_all es) → StandsInOrder c es t → StandsInOrder c' es t
  kept_in_order c c' None_left t h s = tt
  kept_in_order c c' (Then e es) t h s = (
    stands_kept c c' e (only (nodes e) t) (kept_left c c' (nodes e) (nodes_all es) h) s.0,
    empty_map (next e (only (nodes e) t)) _ _ (λ w. kept_in_order c c' es t (kept_right c c' (nodes e) (nodes_all es) h) w) s.1,
  )

  kept_each : (c c' : ℕ → Cell) (es : Execs) (t : List Entry) → AreKept c c' (nodes_all es) → StandsEach c es t → StandsEach c' es t
  kept_each c c' None_left t h s = tt
  kept_each c c' (Then e es) t h s =
      (stands_kept c c' e (only (nodes e) t) (kept_left c c' (nodes e) (nodes_all es) h) s.0, kept_each c c' es t (kept_right c c' (nodes e) (nodes_all es) h) s.1)

  kept_at : (c c' : ℕ → Cell) (es : Execs) (k : ℕ) (t : List Entry) → AreKept c c' (nodes_all es) → StandsAt c es k t → StandsAt c' es k t
  kept_at c c' None_left k t h s = tt
  kept_at c c' (Then e es) zero t h s = stands_kept c c' e t (kept_left c c' (nodes e) (nodes_all es) h) s
  kept_at c c' (Then e es) (suc k) t h s = kept_at c c' es k t (kept_right c c' (nodes e) (nodes_all es) h) s

same_stands_in_order : (c : ℕ → Cell) (es : Execs) (t u : List Entry) → SameParts es t u → StandsInOrder c es t → StandsInOrder c es u
same_stands_in_order c None_left t u h s = tt
same_stands_in_order c (Then e es) t u h s = (
  subst (Stands c e) h.0 s.0,
  subst (λ (v : List Entry). WhereEmpty (next e v) (StandsInOrder c es u)) h.0 (empty_map (next e (only (nodes e) t)) _ _ (λ w. same_stands_in_order c es t u h.1 w) s.1),
)

same_stands_each : (c : ℕ → Cell) (es : Execs) (t u : List Entry) → SameParts es t u → StandsEach c es t → StandsEach c es u
same_stands_each c None_left t u h s = tt
same_stands_each c (Then e es) t u h s = (subst (Stands c e) h.0 s.0, same_stands_each c es t u h.1 s.1)

-- elements that have no entry have none after another's
pub nil_parts : (es : Execs) (t : List Entry) (x : Entry) → joined es t ≡ [] → is_of (nodes_all es) x ≡ false → SameParts es [] (t ++ x ∷ [])
nil_parts None_left t x j o = tt
nil_parts (Then e es) t x j o = (
  sym (only_out (nodes e) t x (not_of_left (nodes e) (nodes_all es) x o) ∙ append_empty_first (only (nodes e) t) (joined es t) j),
  nil_parts es t x (append_empty_second (only (nodes e) t) (joined es t) j) (not_of_right (nodes e) (nodes_all es) x o),
)

-- ---- picks

last_more : (P : ℕ → Type 0) (ks : List ℕ) (k : ℕ) → P k → OfLast P (ks ++ k ∷ [])
last_more P [] k p = p
last_more P (j ∷ []) k p = p
last_more P (j ∷ i ∷ ks) k p = last_more P (i ∷ ks) k p

last_goes : (whole part said step said' : ℕ → Type 0) (ks : List ℕ) → ((k : ℕ) → part k → said k → step k → said' k) → LastMayBeCut whole part ks → OfLast said ks → AtLast step ks → OfLast said' ks
last_goes whole part said step said' [] h p s q = absurd q
last_goes whole part said step said' (k ∷ []) h p s q = h k p s q
last_goes whole part said step said' (k ∷ j ∷ ks) h p s q = last_goes whole part said step said' (j ∷ ks) h p.1 s q

pub last_says : (whole part step : ℕ → Type 0) (G : Type 0) (ks : List ℕ) → ((k : ℕ) → part k → step k → G) → LastMayBeCut whole part ks → AtLast step ks → G
last_says whole part step G [] h p q = absurd q
last_says whole part step G (k ∷ []) h p q = h k p q
last_says whole part step G (k ∷ j ∷ ks) h p q = last_says whole part step G (j ∷ ks) h p.1 q

pub no_pick : (n : ℕ) (ns : List ℕ) (x : Entry) → has ns n ≡ false → is_of ns x ≡ true → (o : Option ℕ) → pick_of n x ≡ o → pick_of n x ≡ None
no_pick n ns x own h None e = e
no_pick n ns x own h (Some k) e = absurd (clash (is_of ns x) h (subst (λ (w : Entry). is_of ns w ≡ false) (sym (pick_is n x k e)) own))

pub no_test : (n : ℕ) (ns : List ℕ) (x : Entry) → has ns n ≡ false → is_of ns x ≡ true → (o : Option Bool) → test_of n x ≡ o → test_of n x ≡ None
no_test n ns x own h None e = e
no_test n ns x own h (Some b) e = absurd (clash (is_of ns x) h (subst (λ (w : Entry). is_of ns w ≡ false) (sym (test_is n x b e)) own))

where_none : {A : Type 0} (o : Option A) (P : A → Type 0) (Q : Type 0) → o ≡ None → WhereSome o P Q → Q
where_none None P Q e w = w
where_none (Some a) P Q e w = absurd (cc)

new_pick : (c c' : ℕ → Cell) (n : ℕ) (es : Execs) (t : List Entry) (x : Entry) (Q : Type 0) → has (nodes_all es) n ≡ false → ApartAll es → t ≡ visits n es t (picks n t) → c n ≡ Picked (picks n t) → (o : Option ℕ) → pick_of n x ≡ o → IsSomeAnd o (λ k. (k < count es) × (has (picks n t) k ≡ false)) → WhereSome o (λ k. (c' n ≡ Picked (picked (c n) ++ k ∷ [])) × StandsAt c' es k []) Q → (c' n ≡ Picked (picks n (t ++ x ∷ []))) × OfLast (λ k. StandsAt c' es k (part_at es k (t ++ x ∷ []))) (picks n (t ++ x ∷ []))
new_pick c c' n es t x Q own d v s None e q m = absurd q
new_pick c c' n es t x Q own d v s (Some k) e q m =
    let P : ℕ → Type 0 = λ k. StandsAt c' es k (part_at es k (t ++ x ∷ [])) in
    let more : picks n (t ++ x ∷ []) ≡ picks n t ++ k ∷ [] = picks_more n t x k e in
    let out : is_of (nodes_all es) x ≡ false = subst (λ (w : Entry). is_of (nodes_all es) w ≡ false) (sym (pick_is n x k e)) own in
    let emp : part_at es k (t ++ x ∷ []) ≡ [] =
    only_out (nodes_at es k) t x (at_outside es k x out) ∙ (ap (λ (w : List Entry). only (nodes_at es k) w) v ∙ visits_without n es t (picks n t) k own d q.1) in
    (m.0 ∙ rw (s, more) refl, subst (OfLast P) (sym more) (last_more P (picks n t) k (subst (StandsAt c' es k) (sym emp) m.1)))

first_pick : (c c' : ℕ → Cell) (n : ℕ) (es : Execs) (x : Entry) (Q : Type 0) → has (nodes_all es) n ≡ false → c n ≡ Picked [] → (o : Option ℕ) → pick_of n x ≡ o → IsSomeAnd o (λ k. (k < count es) × (has [] k ≡ false)) → WhereSome o (λ k. (c' n ≡ Picked (picked (c n) ++ k ∷ [])) × StandsAt c' es k []) Q → (c' n ≡ Picked (picks n (x ∷ []))) × OfFirst (λ k. StandsAt c' es k (part_at es k (x ∷ []))) (picks n (x ∷ []))
first_pick c c' n es x Q own s None e q m = absurd q
first_pick c c' n es x Q own s (Some k) e q m =
    let P : ℕ → Type 0 = λ k. StandsAt c' es k (part_at es k (x ∷ [])) in
    let more : picks n (x ∷ []) ≡ k ∷ [] = picks_more n [] x k e in
    let out : is_of (nodes_all es) x ≡ false = subst (λ (w : Entry). is_of (nodes_all es) w ≡ false) (sym (pick_is n x k e)) own in
    let emp : part_at es k (x ∷ []) ≡ [] = only_out (nodes_at es k) [] x (at_outside es k x out) in
    (m.0 ∙ rw (s, more) refl, subst (OfFirst P) (sym more) (subst (StandsAt c' es k) (sym emp) m.1))

later_pick : (c c' : ℕ → Cell) (n : ℕ) (es : Execs) (y : Entry) (u : List Entry) (x : Entry) → has (nodes_all es) n ≡ false → ApartAll es → ((k : ℕ) → PartAt es k u → StepAt es k u x → StandsAt c es k u → StandsAt c' es k (u ++ x ∷ [])) → (o : Option ℕ) → pick_of n y ≡ o → IsSomeAnd o (λ k. PartAt es k u) → IsSomeAnd o (λ k. StepAt es k u x) → OfFirst (λ k. StandsAt c es k (part_at es k (y ∷ u))) (cons_option o (picks n u)) → (is_of (nodes_all es) x ≡ true) × ((ks : List ℕ) → OfFirst (λ k. StandsAt c' es k (part_at es k (y ∷ (u ++ x ∷ [])))) (cons_option o ks))
later_pick c c' n es y u x own d rec None e p q s = absurd p
later_pick c c' n es y u x own d rec (Some k) e p q s =
    let out : is_of (nodes_at es k) y ≡ false = at_outside es k y (subst (λ (w : Entry). is_of (nodes_all es) w ≡ false) (sym (pick_is n y k e)) own) in
    let inside : is_of (nodes_at es k) x ≡ true = inside_at es k u x d p q in
    let rest : only (nodes_at es k) (y ∷ u) ≡ u = only_rest (nodes_at es k) y u out (part_inside_at es k u p) in
    let longer_rest : only (nodes_at es k) (y ∷ (u ++ x ∷ [])) ≡ u ++ x ∷ [] = only_in (nodes_at es k) (y ∷ u) x inside ∙ ap (λ (w : List Entry). w ++ x ∷ []) rest in
    (at_inside es k x inside, λ ks. subst (StandsAt c' es k) (sym longer_rest) (rec k p q (subst (StandsAt c es k) rest s)))

-- ---- branches

pub test_out : (n : ℕ) (ns : List ℕ) (x : Entry) (b : Bool) → has ns n ≡ false → test_of n x ≡ Some b → is_of ns x ≡ false
test_out n ns x b own e = subst (λ (w : Entry). is_of ns w ≡ false) (sym (test_is n x b e)) own

pub no_answer : (o : Option Bool) → o ≡ None → IsSomeAnd o (λ b. ⊤) → ⊥
no_answer None e q = q
no_answer (Some b) e q = cc

first_test : (c c' : ℕ → Cell) (n : ℕ) (a b : Exec) (x : Entry) (Q : Type 0) → has (nodes a ++ nodes b) n ≡ false → (o : Option Bool) → test_of n x ≡ o → IsTest n x → WhereSome o (λ ans. (c' n ≡ AnsweredBy (Some ans)) × OfBranch (Some ans) (Stands c' a []) (Stands c' b [])) Q → (c' n ≡ AnsweredBy o) × OfBranch o (Stands c' a (only (nodes a) (x ∷ []))) (Stands c' b (only (nodes b) (x ∷ [])))
first_test c c' n a b x Q own None e q m = absurd (no_answer (test_of n x) e q)
first_test c c' n a b x Q own (Some true) e q m =
    (m.0, subst (Stands c' a) (sym (only_rest (nodes a) x [] (not_of_left (nodes a) (nodes b) x (test_out n _ x true own e)) tt)) m.1)
first_test c c' n a b x Q own (Some false) e q m =
    (m.0, subst (Stands c' b) (sym (only_rest (nodes b) x [] (not_of_right (nodes a) (nodes b) x (test_out n _ x false own e)) tt)) m.1)

branch_more : (P : List Entry → Type 0) (ts : List Turn) (b : Bool) → OfBranch (Some b) (P []) (Unit {0}) → OfBranch (last_answer (ts ++ Tested b [] ∷ [])) (P (last_body (ts ++ Tested b [] ∷ []))) (Unit {0})
branch_more P [] b m = m
branch_more P (Tested a t ∷ []) b m = m
branch_more P (r ∷ s ∷ rest) b m = branch_more P (s ∷ rest) b m

branch_longer : (whole part step said said' : List Entry → Type 0) (test : Type 0) (x : Entry) (ts : List Turn) → (test → ⊥) → ((u : List Entry) → part u → step u → said u → said' (u ++ x ∷ [])) → IsLoopSoFar whole part ts → StepLoop test whole step ts → OfBranch (last_answer ts) (said (last_body ts)) (Unit {0}) → OfBranch (last_answer (longer ts x)) (said' (last_body (longer ts x))) (Unit {0})
branch_longer whole part step said said' test x [] f h p q s = absurd (f q)
branch_longer whole part step said said' test x (Tested true t ∷ []) f h p (inl q) s = absurd (f q.0)
branch_longer whole part step said said' test x (Tested true t ∷ []) f h p (inr q) s = h t p q s
branch_longer whole part step said said' test x (Tested false t ∷ []) f h p q s = absurd q
branch_longer whole part step said said' test x (Tested true u ∷ Tested b t ∷ []) f h p q s = branch_longer whole part step said said' test x (Tested b t ∷ []) f h p.1 q s
branch_longer whole part step said said' test x (Tested true u ∷ r ∷ w ∷ rest) f h p q s = branch_longer whole part step said said' test x (r ∷ w ∷ rest) f h p.1 q s
branch_longer whole part step said said' test x (Tested false u ∷ r ∷ rest) f h p q s = absurd p

stands_branch : (c c' : ℕ → Cell) (n : ℕ) (a b : Exec) (y : Entry) (t : List Entry) (x : Entry) → has (nodes a ++ nodes b) n ≡ false → Apart a → Apart b → (Part a t → Step a t x → Stands c a t → Goes c a x c' → Stands c' a (t ++ x ∷ [])) → (Part b t → Step b t x → Stands c b t → Goes c b x c' → Stands c' b (t ++ x ∷ [])) → ((x : Entry) → is_of (nodes a) x ≡ true → is_of (nodes b) x ≡ false) → (o : Option Bool) → test_of n y ≡ o → IsSomeAnd o (λ k. Answered (λ u. Part a u) (λ u. Part b u) k t) → IsSomeAnd o (λ k. Answered (λ u. Step a u x) (λ u. Step b u x) k t) → c n ≡ AnsweredBy o → OfBranch o (Stands c a (only (nodes a) (y ∷ t))) (Stands c b (only (nodes b) (y ∷ t))) → WhereSome (test_of n x) (λ ans. (c' n ≡ AnsweredBy (Some ans)) × OfBranch (Some ans) (Stands c' a []) (Stands c' b [])) ((c' n ≡ c n) × WhereTrue (is_of (nodes a) x) (Goes c a x c') (Goes c b x c')) → (c' n ≡ AnsweredBy o) × OfBranch o (Stands c' a (only (nodes a) (y ∷ (t ++ x ∷ [])))) (Stands c' b (only (nodes b) (y ∷ (t ++ x ∷ []))))
stands_branch c c' n a b y t x own da db rec1 rec2 across None e p q r s m = absurd p
stands_branch c c' n a b y t x own da db rec1 rec2 across (Some true) e p q r s m =
    let more : Part a (t ++ x ∷ []) = part_of_step a t x da p q in
    let inside : is_of (nodes a) x ≡ true = step_inside a t x more in
    let out : is_of (nodes a) y ≡ false = not_of_left (nodes a) (nodes b) y (test_out n _ y true own e) in
    let own_a : has (nodes a) n ≡ false = not_of_left (nodes a) (nodes b) (Note n) own in
    let z = where_none (test_of n x) _ _ (no_test n (nodes a) x own_a inside (test_of n x) refl) m in
    let g = rw inside at z.1 in (
      z.0 ∙ r,
      subst (Stands c' a) (sym (only_rest (nodes a) y (t ++ x ∷ []) out (part_inside a (t ++ x ∷ []) more)))
          (rec1 p q (subst (Stands c a) (only_rest (nodes a) y t out (part_inside a t p)) s) g),
    )
stands_branch c c' n a b y t x own da db rec1 rec2 across (Some false) e p q r s m =
    let more : Part b (t ++ x ∷ []) = part_of_step b t x db p q in
    let inside : is_of (nodes b) x ≡ true = step_inside b t x more in
    let outside : is_of (nodes a) x ≡ false = not_true (is_of (nodes a) x) (λ f. clash _ inside (across x f)) in
    let out : is_of (nodes b) y ≡ false = not_of_right (nodes a) (nodes b) y (test_out n _ y false own e) in
    let own_b : has (nodes b) n ≡ false = not_of_right (nodes a) (nodes b) (Note n) own in
    let z = where_none (test_of n x) _ _ (no_test n (nodes b) x own_b inside (test_of n x) refl) m in
    let g = rw outside at z.1 in (
      z.0 ∙ r,
      subst (Stands c' b) (sym (only_rest (nodes b) y (t ++ x ∷ []) out (part_inside b (t ++ x ∷ []) more)))
          (rec2 p q (subst (Stands c b) (only_rest (nodes b) y t out (part_inside b t p)) s) g),
    )

stands_loop : (c c' : ℕ → Cell) (n : ℕ) (a : Exec) (t : List Entry) (x : Entry) → has (nodes a) n ≡ false → ((u : List Entry) → Part a u → Step a u x → Stands c a u → Goes c a x c' → Stands c' a (u ++ x ∷ [])) → IsLoopSoFar (λ u. Whole a u) (λ u. Part a u) (turns n t) → StepLoop (IsTest n x) (λ u. Whole a u) (λ u. Step a u x) (turns n t) → c n ≡ AnsweredBy (last_answer (turns n t)) → OfBranch (last_answer (turns n t)) (Stands c a (last_body (turns n t))) (Unit {0}) → (o : Option Bool) → test_of n x ≡ o → WhereSome o (λ ans. (c' n ≡ AnsweredBy (Some ans)) × OfBranch (Some ans) (Stands c' a []) (Unit {0})) ((c' n ≡ c n) × Goes c a x c') → (c' n ≡ AnsweredBy (last_answer (turns n (t ++ x ∷ [])))) × OfBranch (last_answer (turns n (t ++ x ∷ []))) (Stands c' a (last_body (turns n (t ++ x ∷ [])))) (Unit {0})
stands_loop c c' n a t x own rec p q r s (Some b) e m =
    let ts : turns n (t ++ x ∷ []) ≡ turns n t ++ Tested b [] ∷ [] = turns_test n t x b e in (
      m.0 ∙ sym (ap (λ (w : List Turn). AnsweredBy (last_answer w)) ts ∙ ap AnsweredBy (last_answer_more (turns n t) b)),
      subst (λ (w : List Turn). OfBranch (last_answer w) (Stands c' a (last_body w)) (Unit {0})) (sym ts) (branch_more (λ u. Stands c' a u) (turns n t) b m.1),
    )
stands_loop c c' n a t x own rec p q r s None e m =
    let ts : turns n (t ++ x ∷ []) ≡ longer (turns n t) x = turns_other n t x e in (
      m.0 ∙ (r ∙ sym (ap (λ (w : List Turn). AnsweredBy (last_answer w)) ts ∙ ap AnsweredBy (last_answer_longer (turns n t) x))),
      subst (λ (w : List Turn). OfBranch (last_answer w) (Stands c' a (last_body w)) (Unit {0})) (sym ts)
          (branch_longer (λ u. Whole a u) (λ u. Part a u) (λ u. Step a u x) (λ u. Stands c a u) (λ u. Stands c' a u) (IsTest n x) x (turns n t) (λ f. no_answer (test_of n x) e f)
          (λ u i j k. rec u i j k m.1) p q s),
    )

mutual
  pub stands_step : (c c' : ℕ → Cell) (e : Exec) (t : List Entry) (x : Entry) → Apart e → Part e t → Step e t x → Stands c e t → Goes c e x c' → Stands c' e (t ++ x ∷ [])
  stands_step c c' (Work n) t x d p q s m = m ∙ (ap (λ (cell : Cell). work_after n cell x) s ∙ sym (work_after_is n t x))
  stands_step c c' (Leaf n k) t x d p q s m = m ∙ sym (leaf_after t x)
  stands_step c c' (Plan n es) t x d p q s m = stands_in_order c c' es t x d p.1 q s m
  stands_step c c' (Par n es) t x d p q s m =
      let z = stands_each c c' es t x d p.1 q s.1 m.1 in
      (counted (is_shared es) (c n) (c' n) (going es t) (going es (t ++ x ∷ [])) (one_where (next_by_of c' es x)) (left_after c' es t x d p.1 q (part_of_step (Par n es) t x d p q).1 z) s.0 m.0, z)
  stands_step c c' (NonSeq n es) t x d p (inl q) s m =
      new_pick c c' n es t x _ d.0 d.1 p.0 s.0 (pick_of n x) refl q.0 m
  stands_step c c' (NonSeq n es) t x d p (inr q) s m =
      let inside : is_of (nodes_all es) x ≡ true =
      last_says (λ k. WholeAt es k (part_at es k t)) (λ k. PartAt es k (part_at es k t)) (λ k. StepAt es k (part_at es k t) x) _ (picks n t)
      (λ k i j. at_inside es k x (inside_at es k (part_at es k t) x d.1 i j)) p.2 q in
      let none : pick_of n x ≡ None = no_pick n (nodes_all es) x d.0 inside (pick_of n x) refl in
      let z = where_none (pick_of n x) _ _ none m in
      let same : picks n (t ++ x ∷ []) ≡ picks n t = picks_same n t x none in (
        z.0 ∙ (s.0 ∙ ap Picked (sym same)),
        subst (OfLast (λ k. StandsAt c' es k (part_at es k (t ++ x ∷ [])))) (sym same)
            (last_goes (λ k. WholeAt es k (part_at es k t)) (λ k. PartAt es k (part_at es k t)) (λ k. StandsAt c es k (part_at es k t)) (λ k. StepAt es k (part_at es k t) x)
            (λ k. StandsAt c' es k (part_at es k (t ++ x ∷ []))) (picks n t)
            (λ k i j l. subst (StandsAt c' es k) (sym (only_in (nodes_at es k) t x (inside_at es k (part_at es k t) x d.1 i l))) (stands_at c c' es k (part_at es k t) x d.1 i l j z.1)) p.2 s.1 q),
      )
  stands_step c c' (Sel n es) [] x d p q s m = first_pick c c' n es x _ d.0 s.0 (pick_of n x) refl q m
  stands_step c c' (Sel n es) (y ∷ t) x d (inl p) q s m = absurd (no_cons y t p)
  stands_step c c' (Sel n es) (y ∷ t) x d (inr p) q s m =
      let w = later_pick c c' n es y t x d.0 d.1 (λ k i j l. stands_at c c' es k t x d.1 i j l (where_none (pick_of n x) _ _ (no_pick n (nodes_all es) x d.0 (at_inside es k x (inside_at es k t x d.1 i j)) (pick_of n x) refl) m).1)
      (pick_of n y) refl p q s.1 in
      let none : pick_of n x ≡ None = no_pick n (nodes_all es) x d.0 w.0 (pick_of n x) refl in
      let z = where_none (pick_of n x) _ _ none m in
      (z.0 ∙ (s.0 ∙ ap Picked (sym (picks_same n (y ∷ t) x none))), w.1 (picks n (t ++ x ∷ [])))
  stands_step c c' (If n a b) [] x d p q s m = first_test c c' n a b x _ d.0 (test_of n x) refl q m
  stands_step c c' (If n a b) (y ∷ t) x d (inl p) q s m = absurd (no_cons y t p)
  stands_step c c' (If n a b) (y ∷ t) x d (inr p) q s m = stands_branch c c' n a b y t x d.0 d.1 d.2
      (λ i j k l. stands_step c c' a t x d.1 i j k l) (λ i j k l. stands_step c c' b t x d.2 i j k l) d.3 (test_of n y) refl p q s.0 s.1 m
  stands_step c c' (While n a) t x d p q s m = stands_loop c c' n a t x d.0 (λ u i j k l. stands_step c c' a u x d.1 i j k l) p.1 q s.0 s.1 (test_of n x) refl m

  stands_in_order : (c c' : ℕ → Cell) (es : Execs) (t : List Entry) (x : Entry) → ApartAll es → InOrder es t → StepInOrder es t x → StandsInOrder c es t → GoesInOrder c es x c' → StandsInOrder c' es (t ++ x ∷ [])
  stands_in_order c c' None_left t x d p q s m = absurd q
  stands_in_order c c' (Then e es) t x d p (inl q) s m =
      let g = rw q.0 at m in
      let se : Stands c' e (only (nodes e) t ++ x ∷ []) = stands_step c c' e (only (nodes e) t) x d.0 p.0 q.2 s.0 g.0 in
      let nx : next e (only (nodes e) t ++ x ∷ []) ≡ next_by c' e = next_from_frames c' e (only (nodes e) t ++ x ∷ []) d.0 (part_of_step e (only (nodes e) t) x d.0 p.0 q.2) se in
      let inside : only (nodes e) (t ++ x ∷ []) ≡ only (nodes e) t ++ x ∷ [] = only_in (nodes e) t x q.0 in (
        subst (Stands c' e) (sym inside) se,
        subst (λ (l : List ℕ). WhereEmpty l (StandsInOrder c' es (t ++ x ∷ []))) (sym (ap (next e) inside ∙ nx))
            (empty_map (next_by c' e) _ _ (λ w. same_stands_in_order c' es [] (t ++ x ∷ []) (nil_parts es t x q.1 (d.2 x q.0)) w) g.1),
      )
  stands_in_order c c' (Then e es) t x d p (inr q) s m =
      let g = rw q.0 at m in (
        subst (Stands c' e) (sym (only_out (nodes e) t x q.0)) (stands_kept c c' e (only (nodes e) t) g.0 s.0),
        to_where_empty _ _ (λ f. stands_in_order c c' es t x d.1 p.2 q.2 (where_empty (next e (only (nodes e) t)) _ s.1 (empty_from_whole e (only (nodes e) t) q.1)) g.1),
      )

  stands_each : (c c' : ℕ → Cell) (es : Execs) (t : List Entry) (x : Entry) → ApartAll es → EachPart es t → StepOfOne es t x → StandsEach c es t → GoesOne c es x c' → StandsEach c' es (t ++ x ∷ [])
  stands_each c c' None_left t x d p q s m = absurd q
  stands_each c c' (Then e es) t x d p (inl q) s m =
      let g = rw q.0 at m in (
        subst (Stands c' e) (sym (only_in (nodes e) t x q.0)) (stands_step c c' e (only (nodes e) t) x d.0 p.0 q.1 s.0 g.0),
        same_stands_each c' es t (t ++ x ∷ []) (same_in es t x (d.2 x q.0)) (kept_each c c' es t g.1 s.1),
      )
  stands_each c c' (Then e es) t x d p (inr q) s m =
      let g = rw q.0 at m in
      (subst (Stands c' e) (sym (only_out (nodes e) t x q.0)) (stands_kept c c' e (only (nodes e) t) g.0 s.0), stands_each c c' es t x d.1 p.1 q.1 s.1 g.1)

  stands_at : (c c' : ℕ → Cell) (es : Execs) (k : ℕ) (t : List Entry) (x : Entry) → ApartAll es → PartAt es k t → StepAt es k t x → StandsAt c es k t → GoesOne c es x c' → StandsAt c' es k (t ++ x ∷ [])
  stands_at c c' None_left k t x d p q s m = tt
  stands_at c c' (Then e es) zero t x d p q s m =
      let inside : is_of (nodes e) x ≡ true = step_inside e t x (part_of_step e t x d.0 p q) in
      let g = rw inside at m in
      stands_step c c' e t x d.0 p q s g.0
  stands_at c c' (Then e es) (suc k) t x d p q s m =
      let inside : is_of (nodes_all es) x ≡ true = at_inside es k x (inside_at es k t x d.1 p q) in
      let outside : is_of (nodes e) x ≡ false = not_true (is_of (nodes e) x) (λ f. clash _ inside (d.2 x f)) in
      let g = rw outside at m in
      stands_at c c' es k t x d.1 p q s g.1
