-- What a node that can go on does next, from the frames alone.
use Rattle.std.specs.Prelude.{◌≡◌, ◌⊎◌, ℕ, zero, suc, Bool, true, false, ◌||◌, ◌==◌, if◌then◌else◌, List, [], ◌∷◌, ◌++◌, length, Option, Some, None, IsSomeAnd}
use Rattle.std.proofs.Common.{refl, sym, ◌∙◌, ap, subst, inl, inr}
use Rattle.exec_tree.specs.Exec.{Exec, Work, Leaf, Plan, Par, NonSeq, Sel, If, While, Execs, None_left, Then, nodes, nodes_all, has, count}
use Rattle.trace_law.specs.Of.{is_of, only}
use Rattle.trace_law.specs.Part.{LastMayBeCut, IsLoopSoFar, Part, EachPart, InOrder, PartAt}
use Rattle.trace_law.specs.Whole.{Answered, Whole, WholeAt}
use Rattle.trace_law.specs.Own.{picks, pick_of, test_of, Turn, Tested, turns}
use Rattle.trace_law.specs.Elements.{nodes_at, part_at}
use Rattle.trace_law.specs.Next.{first_of_two, next_of_last, next_after, next_answered, next_loop, next, next_in_order, next_each, next_at}
use Rattle.trace_law.specs.State.{stage}
use Rattle.trace_law.specs.Cells.{Cell, stage_of, last_answer, last_body}
use Rattle.trace_law.specs.Frames.{OfFirst, OfLast, OfBranch, Stands, StandsInOrder, StandsEach, StandsAt}
use Rattle.trace_law.specs.Offer.{Offer, offer_of_work, offer_of_two, offer, offer_among, offer_by, offer_by_among}
use Rattle.trace_law.specs.Order.{Within}
use Rattle.run_log.specs.declared.entry.Entry.{Entry}
use Rattle.run_log.specs.declared.entry.Entry.TheVariants.{Note}
use Rattle.std.specs.List.{cons_option}
use Rattle.trace_law.proofs.StepLemmas.{Apart, ApartAll, has-append, not_of_left, not_of_right}
use Rattle.trace_law.proofs.StepForthLemmas.{at_outside, pick_is}
use Rattle.trace_law.proofs.StepBackLemmas.{part_inside, part_inside_at, test_is}
use Rattle.trace_law.proofs.ContinueLemmas.{clash}
use Rattle.trace_law.proofs.CellNextLemmas.{only_rest, no_cons}
use Rattle.trace_law.proofs.CellMoveLemmas.{work_stage_of}
use Rattle.trace_law.proofs.CellOfferLemmas.{only_one, of_two}
use Rattle.trace_law.proofs.FrameNextLemmas.{where_empty}
use Rattle.trace_law.proofs.PreorderLemmas.{next_within, order_within, each_within, at_within, not_within}

-- what is in the list is in the one that it is within
inside : (xs ys : List ℕ) (m : ℕ) → Within xs ys → has xs m ≡ true → has ys m ≡ true
inside xs ys m s h = go (has ys m) refl
  where
    go : (b : Bool) → has ys m ≡ b → has ys m ≡ true
    go true e = e
    go false e = absurd (clash (has xs m) h (not_within xs ys m s e))

chosen_both : (b : Bool) (p q r s : Offer) → (b ≡ true → p ≡ q) → (b ≡ false → r ≡ s) → (if b then p else r) ≡ (if b then q else s)
chosen_both true p q r s h g = h refl
chosen_both false p q r s h g = g refl

first_split : (l r : List ℕ) (m : ℕ) → has (first_of_two l r) m ≡ true → (has l m ≡ true) ⊎ ((l ≡ []) × (has r m ≡ true))
first_split [] r m h = inr (refl, h)
first_split (x ∷ l) r m h = inl h

either : (a b : Bool) → (a || b) ≡ true → (a ≡ true) ⊎ (b ≡ true)
either true b h = inl refl
either false b h = inr h

own_only : (n m : ℕ) → has (n ∷ []) m ≡ true → (n == m) ≡ false → ⊥
own_only n m h e = clash (has (n ∷ []) m) h (let z : has (n ∷ []) m ≡ false = rw e refl in z)

rest_only : (b : Bool) (n m : ℕ) → has (if b then [] else n ∷ []) m ≡ true → (n == m) ≡ false → ⊥
rest_only true n m h e = cc
rest_only false n m h e = own_only n m h e

last_has : (whole part said : ℕ → Type 0) (f : ℕ → List ℕ) (m : ℕ) (G : Type 0) (ks : List ℕ) → ((k : ℕ) → part k → said k → has (f k) m ≡ true → G) → LastMayBeCut whole part ks → OfLast said ks → has (next_of_last f ks) m ≡ true → G
last_has whole part said f m G [] h p s q = absurd (cc)
last_has whole part said f m G (k ∷ []) h p s q = h k p s q
last_has whole part said f m G (k ∷ j ∷ ks) h p s q = last_has whole part said f m G (j ∷ ks) h p.1 s q

loop_has : (n m : ℕ) (whole part said : List Entry → Type 0) (f : List Entry → List ℕ) (G : Type 0) (ts : List Turn) → (n == m) ≡ false → ((u : List Entry) → u ≡ last_body ts → part u → said u → has (f u) m ≡ true → G) → IsLoopSoFar whole part ts → OfBranch (last_answer ts) (said (last_body ts)) (Unit {0}) → has (next_loop n f ts) m ≡ true → G
loop_has n m whole part said f G [] e h p s q = absurd (own_only n m q e)
loop_has n m whole part said f G (Tested true t ∷ []) e h p s q =
    elim (first_split (f t) (n ∷ []) m q) [ inl r ↦ h t refl p s r | inr r ↦ absurd (own_only n m r.1 e) ]
loop_has n m whole part said f G (Tested false t ∷ []) e h p s q = absurd (cc)
loop_has n m whole part said f G (Tested true u ∷ r ∷ rest) e h p s q = loop_has n m whole part said f G (r ∷ rest) e h p.1 s q
loop_has n m whole part said f G (Tested false u ∷ r ∷ rest) e h p s q = absurd p

sel_offers : (c : ℕ → Cell) (n : ℕ) (es : Execs) (y : Entry) (t : List Entry) (m : ℕ) → has (nodes_all es) n ≡ false → ((k : ℕ) → only (nodes_at es k) (y ∷ t) ≡ t → PartAt es k t → StandsAt c es k t → has (next_at es k t) m ≡ true → offer_among es (y ∷ t) m ≡ offer_by_among c es m) → (o : Option ℕ) → pick_of n y ≡ o → IsSomeAnd o (λ k. PartAt es k t) → OfFirst (λ k. StandsAt c es k (part_at es k (y ∷ t))) (cons_option o (picks n t)) → has (next_after (λ k u. next_at es k u) o t) m ≡ true → offer_among es (y ∷ t) m ≡ offer_by_among c es m
sel_offers c n es y t m own rec None e p s h = absurd p
sel_offers c n es y t m own rec (Some k) e p s h =
    let out : is_of (nodes_all es) y ≡ false = subst (λ (w : Entry). is_of (nodes_all es) w ≡ false) (sym (pick_is n y k e)) own in
    let r = only_rest (nodes_at es k) y t (at_outside es k y out) (part_inside_at es k t p) in
    rec k r p (subst (StandsAt c es k) r s) h

if_offers : (c : ℕ → Cell) (n : ℕ) (a b : Exec) (y : Entry) (t : List Entry) (m : ℕ) → has (nodes a ++ nodes b) n ≡ false → ((x : Entry) → is_of (nodes a) x ≡ true → is_of (nodes b) x ≡ false) → (Part a t → Stands c a t → has (next a t) m ≡ true → offer a t m ≡ offer_by c a m) → (Part b t → Stands c b t → has (next b t) m ≡ true → offer b t m ≡ offer_by c b m) → (o : Option Bool) → test_of n y ≡ o → IsSomeAnd o (λ k. Answered (λ u. Part a u) (λ u. Part b u) k t) → OfBranch o (Stands c a (only (nodes a) (y ∷ t))) (Stands c b (only (nodes b) (y ∷ t))) → has (next_after (next_answered (λ u. next a u) (λ u. next b u)) o t) m ≡ true → offer_of_two (has (nodes a) m) (has (nodes b) m) (offer a (only (nodes a) (y ∷ t)) m) (offer b (only (nodes b) (y ∷ t)) m) ≡ offer_of_two (has (nodes a) m) (has (nodes b) m) (offer_by c a m) (offer_by c b m)
if_offers c n a b y t m own across rec1 rec2 None e p s h = absurd p
if_offers c n a b y t m own across rec1 rec2 (Some true) e p s h =
    let out : is_of (nodes a ++ nodes b) y ≡ false = subst (λ (w : Entry). is_of (nodes a ++ nodes b) w ≡ false) (sym (test_is n y true e)) own in
    let r = only_rest (nodes a) y t (not_of_left (nodes a) (nodes b) y out) (part_inside a t p) in
    let here : has (nodes a) m ≡ true = inside _ _ m (next_within a t) h in
    of_two (has (nodes a) m) (has (nodes b) m) _ _ _ _
    (λ g. subst (λ (v : List Entry). offer a v m ≡ offer_by c a m) (sym r) (rec1 p (subst (Stands c a) r s) h))
    (λ g. absurd (clash (has (nodes b) m) g (across (Note m) here)))
if_offers c n a b y t m own across rec1 rec2 (Some false) e p s h =
    let out : is_of (nodes a ++ nodes b) y ≡ false = subst (λ (w : Entry). is_of (nodes a ++ nodes b) w ≡ false) (sym (test_is n y false e)) own in
    let r = only_rest (nodes b) y t (not_of_right (nodes a) (nodes b) y out) (part_inside b t p) in
    let here : has (nodes b) m ≡ true = inside _ _ m (next_within b t) h in
    of_two (has (nodes a) m) (has (nodes b) m) _ _ _ _
    (λ g. absurd (clash (has (nodes b) m) here (across (Note m) g)))
    (λ g. subst (λ (v : List Entry). offer b v m ≡ offer_by c b m) (sym r) (rec2 p (subst (Stands c b) r s) h))

mutual
  pub offer_from_frames : (c : ℕ → Cell) (e : Exec) (t : List Entry) (m : ℕ) → Apart e → Part e t → Stands c e t → has (next e t) m ≡ true → offer e t m ≡ offer_by c e m
  offer_from_frames c (Work n) t m d p s h =
      subst (λ (j : ℕ). offer_of_work (stage j t) ≡ offer_of_work (stage_of (c n))) (only_one n m (inside _ _ m (next_within (Work n) t) h)) (ap offer_of_work (sym (ap stage_of s ∙ work_stage_of n t)))
  offer_from_frames c (Leaf n k) t m d p s h = refl
  offer_from_frames c (Plan n es) t m d p s h = offers_in_order c es t m d p.1 s h
  offer_from_frames c (Par n es) t m d p s h = offers_each c es t m d p.1 s.1 h
  offer_from_frames c (NonSeq n es) t m d p s h =
      chosen_both (n == m) _ _ _ _ (λ e. rw s.0 refl)
      (λ e. elim (first_split (next_of_last (λ k. next_at es k (part_at es k t)) (picks n t)) (if length (picks n t) == count es then [] else n ∷ []) m h) [
        | inl q ↦ last_has (λ k. WholeAt es k (part_at es k t)) (λ k. PartAt es k (part_at es k t)) (λ k. StandsAt c es k (part_at es k t)) (λ k. next_at es k (part_at es k t)) m _ (picks n t)
            (λ k i j l. offers_at c es k t (part_at es k t) m d.1 refl i j l) p.2 s.1 q
        | inr q ↦ absurd (rest_only (length (picks n t) == count es) n m q.1 e)
      ])
  offer_from_frames c (Sel n es) [] m d p s h = chosen_both (n == m) _ _ _ _ (λ e. refl) (λ e. absurd (own_only n m h e))
  offer_from_frames c (Sel n es) (y ∷ t) m d (inl p) s h = absurd (no_cons y t p)
  offer_from_frames c (Sel n es) (y ∷ t) m d (inr p) s h =
      chosen_both (n == m) _ _ _ _ (λ e. refl) (λ e. sel_offers c n es y t m d.0 (λ k i j l g. offers_at c es k (y ∷ t) t m d.1 i j l g) (pick_of n y) refl p s.1 h)
  offer_from_frames c (If n a b) [] m d p s h = chosen_both (n == m) _ _ _ _ (λ e. refl) (λ e. absurd (own_only n m h e))
  offer_from_frames c (If n a b) (y ∷ t) m d (inl p) s h = absurd (no_cons y t p)
  offer_from_frames c (If n a b) (y ∷ t) m d (inr p) s h =
      chosen_both (n == m) _ _ _ _ (λ e. refl)
      (λ e. if_offers c n a b y t m d.0 d.3 (λ i j l. offer_from_frames c a t m d.1 i j l) (λ i j l. offer_from_frames c b t m d.2 i j l) (test_of n y) refl p s.1 h)
  offer_from_frames c (While n a) t m d p s h =
      chosen_both (n == m) _ _ _ _ (λ e. refl)
      (λ e. loop_has n m (λ u. Whole a u) (λ u. Part a u) (λ u. Stands c a u) (λ u. next a u) (offer a (last_body (turns n t)) m ≡ offer_by c a m) (turns n t) e
      (λ u i j k l. subst (λ (v : List Entry). offer a v m ≡ offer_by c a m) i (offer_from_frames c a u m d.1 j k l)) p.1 s.1 h)

  offers_in_order : (c : ℕ → Cell) (es : Execs) (t : List Entry) (m : ℕ) → ApartAll es → InOrder es t → StandsInOrder c es t → has (next_in_order es t) m ≡ true → offer_among es t m ≡ offer_by_among c es m
  offers_in_order c None_left t m d p s h = refl
  offers_in_order c (Then e es) t m d p s h =
      let z = first_split (next e (only (nodes e) t)) (next_in_order es t) m h in
      chosen_both (has (nodes e) m) _ _ _ _
      (λ g. elim z [
        | inl q ↦ offer_from_frames c e (only (nodes e) t) m d.0 p.0 s.0 q
        | inr q ↦ absurd (clash (has (nodes_all es) m) (inside _ _ m (order_within es t) q.1) (d.2 (Note m) g))
      ])
      (λ g. elim z [
        | inl q ↦ absurd (clash (has (nodes e) m) (inside _ _ m (next_within e (only (nodes e) t)) q) g)
        | inr q ↦ offers_in_order c es t m d.1 p.2 (where_empty (next e (only (nodes e) t)) _ s.1 q.0) q.1
      ])

  offers_each : (c : ℕ → Cell) (es : Execs) (t : List Entry) (m : ℕ) → ApartAll es → EachPart es t → StandsEach c es t → has (next_each es t) m ≡ true → offer_among es t m ≡ offer_by_among c es m
  offers_each c None_left t m d p s h = refl
  offers_each c (Then e es) t m d p s h =
      let z = either (has (next e (only (nodes e) t)) m) (has (next_each es t) m) (sym (has-append (next e (only (nodes e) t)) (next_each es t) m) ∙ h) in
      chosen_both (has (nodes e) m) _ _ _ _
      (λ g. elim z [
        | inl q ↦ offer_from_frames c e (only (nodes e) t) m d.0 p.0 s.0 q
        | inr q ↦ absurd (clash (has (nodes_all es) m) (inside _ _ m (each_within es t) q) (d.2 (Note m) g))
      ])
      (λ g. elim z [
        | inl q ↦ absurd (clash (has (nodes e) m) (inside _ _ m (next_within e (only (nodes e) t)) q) g)
        | inr q ↦ offers_each c es t m d.1 p.1 s.1 q
      ])

  offers_at : (c : ℕ → Cell) (es : Execs) (k : ℕ) (t u : List Entry) (m : ℕ) → ApartAll es → only (nodes_at es k) t ≡ u → PartAt es k u → StandsAt c es k u → has (next_at es k u) m ≡ true → offer_among es t m ≡ offer_by_among c es m
  offers_at c None_left k t u m d i p s h = refl
  offers_at c (Then e es) zero t u m d i p s h =
      chosen_both (has (nodes e) m) _ _ _ _
      (λ g. subst (λ (v : List Entry). offer e v m ≡ offer_by c e m) (sym i) (offer_from_frames c e u m d.0 p s h))
      (λ g. absurd (clash (has (nodes e) m) (inside _ _ m (next_within e u) h) g))
  offers_at c (Then e es) (suc k) t u m d i p s h =
      chosen_both (has (nodes e) m) _ _ _ _
      (λ g. absurd (clash (has (nodes_all es) m) (inside _ _ m (at_within es k u) h) (d.2 (Note m) g)))
      (λ g. offers_at c es k t u m d.1 i p s h)
