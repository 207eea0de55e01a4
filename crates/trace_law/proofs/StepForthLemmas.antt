-- What follows a Part, onwards: a Part with an entry at its end is a Part and a step from it.
use Rattle.std.specs.Prelude.{◌≡◌, ◌⊎◌, ◌<◌, ℕ, zero, suc, Bool, true, false, ◌||◌, ◌==◌, List, [], ◌∷◌, ◌++◌, Option, Some, None, IsSomeAnd}
use Rattle.std.proofs.Common.{refl, sym, ◌∙◌, ap, subst, inl, inr, arith, append_assoc}
use Rattle.std.proofs.lemmas.List.{append-nil}
use Rattle.std.proofs.lemmas.Bool.Decides.{nat_tests}
use Rattle.exec_tree.specs.Exec.{LeafKind, Exec, Work, Leaf, Plan, Par, NonSeq, Sel, If, While, Execs, None_left, Then, nodes, nodes_all, has, count}
use Rattle.trace_law.specs.Of.{number_of, is_of, only}
use Rattle.trace_law.specs.Whole.{IsWork, IsOfLeaf, IsLeaf, AreDistinctBelow, EachPicked, AfterPick, AfterTest, Answered, IsLoop, Whole, EachWhole, WholeAt}
use Rattle.trace_law.specs.Own.{picks, pick_of, test_of, Turn, Tested, lead, lead_by, turns, turns_by}
use Rattle.trace_law.specs.Part.{LastMayBeCut, IsLoopSoFar, Part, EachPart, InOrder, PartAt}
use Rattle.trace_law.specs.Elements.{joined, nodes_at, part_at, visits}
use Rattle.trace_law.specs.Step.{IsNewPick, IsTest, AtLast, StepPicked, StepTested, StepLoop, Step, StepInOrder, StepOfOne, StepAt}
use Rattle.run_log.specs.declared.entry.Entry.{Entry}
use Rattle.run_log.specs.declared.entry.Entry.TheVariants.{Pick}
use Rattle.std.proofs.lemmas.List.Elements.{filter_map-append}
use Rattle.trace_law.proofs.StepLemmas.{is_of-append, has-append, or_false_left, or_false_right, only_in, only_out, AllOf, AllOf_last, AllOf_front, AllOf-only, only_all, AllOf-joined, is_of_left, is_of_right, SameParts, same_out, same_joined, same_in_order, same_each, Apart, ApartAll, of_none, same_number}

pub of_rest : (ms ns : List ℕ) (x : Entry) → is_of ms x ≡ false → is_of (ms ++ ns) x ≡ true → is_of ns x ≡ true
of_rest ms ns x e h = rw e at (sym (is_of-append ms ns x) ∙ h)

-- ---- the ends of lists

pub snoc_view : (t : List Entry) → (t ≡ []) ⊎ ((s : List Entry) × (x : Entry) × (t ≡ s ++ x ∷ []))
snoc_view [] = inl refl
snoc_view (y ∷ t) = go (snoc_view t)
  where
    go : (t ≡ []) ⊎ ((s : List Entry) × (x : Entry) × (t ≡ s ++ x ∷ [])) → (y ∷ t ≡ []) ⊎ ((s : List Entry) × (x : Entry) × (y ∷ t ≡ s ++ x ∷ []))
    go (inl e) = inr ([], y, rw e refl)
    go (inr (s, x, e)) = inr (y ∷ s, x, rw e refl)

pub snoc_not_empty : (s : List Entry) (x : Entry) → s ++ x ∷ [] ≡ [] → ⊥
snoc_not_empty [] x e = cc
snoc_not_empty (y ∷ s) x e = cc

pub snoc_front : (s t : List Entry) (x y : Entry) → s ++ x ∷ [] ≡ t ++ y ∷ [] → s ≡ t
snoc_front [] [] x y e = refl
snoc_front [] (z ∷ t) x y e = let g : [] ≡ t ++ y ∷ [] = cc in absurd (snoc_not_empty t y (sym g))
snoc_front (z ∷ s) [] x y e = let g : s ++ x ∷ [] ≡ [] = cc in absurd (snoc_not_empty s x g)
snoc_front (z ∷ s) (w ∷ t) x y e =
    let g : s ++ x ∷ [] ≡ t ++ y ∷ [] = cc in let h : s ≡ t = snoc_front s t x y g in cc

pub snoc_last : (s t : List Entry) (x y : Entry) → s ++ x ∷ [] ≡ t ++ y ∷ [] → x ≡ y
snoc_last [] [] x y e = cc
snoc_last [] (z ∷ t) x y e = let g : [] ≡ t ++ y ∷ [] = cc in absurd (snoc_not_empty t y (sym g))
snoc_last (z ∷ s) [] x y e = let g : s ++ x ∷ [] ≡ [] = cc in absurd (snoc_not_empty s x g)
snoc_last (z ∷ s) (w ∷ t) x y e = let g : s ++ x ∷ [] ≡ t ++ y ∷ [] = cc in snoc_last s t x y g

pub append_empty_first : (s t : List Entry) → s ++ t ≡ [] → s ≡ []
append_empty_first [] t e = refl
append_empty_first (x ∷ s) t e = cc

pub append_empty_second : (s t : List Entry) → s ++ t ≡ [] → t ≡ []
append_empty_second [] t e = e
append_empty_second (x ∷ s) t e = cc

-- what ends in x, which isn't of these nodes, has none of their entries after x
pub nothing_after : (ns : List ℕ) (a b s : List Entry) (x : Entry) → is_of ns x ≡ false → AllOf ns b → (a ++ x ∷ []) ++ b ≡ s ++ x ∷ [] → b ≡ []
nothing_after ns a b s x f all e = go (snoc_view b)
  where
    go : (b ≡ []) ⊎ ((u : List Entry) × (y : Entry) × (b ≡ u ++ y ∷ [])) → b ≡ []
    go (inl q) = q
    go (inr (u, y, q)) =
        let g : ((a ++ x ∷ []) ++ u) ++ y ∷ [] ≡ s ++ x ∷ [] = append_assoc (a ++ x ∷ []) u (y ∷ []) ∙ (ap (λ (w : List Entry). (a ++ x ∷ []) ++ w) (sym q) ∙ e) in
        let h : y ≡ x = snoc_last ((a ++ x ∷ []) ++ u) s y x g in
        let k : is_of ns y ≡ true = AllOf_last ns u y (subst (AllOf ns) q all) in
        let l : is_of ns x ≡ true = subst (λ (w : Entry). is_of ns w ≡ true) h k in cc

pub joined_some : (es : Execs) (t : List Entry) (x : Entry) → is_of (nodes_all es) x ≡ true → joined es (t ++ x ∷ []) ≡ [] → ⊥
joined_some None_left t x h e = of_none (number_of x) h
joined_some (Then a es) t x h e = go (is_of (nodes a) x) refl (joined_some es t x)
  where
    go : (b : Bool) → is_of (nodes a) x ≡ b → (is_of (nodes_all es) x ≡ true → joined es (t ++ x ∷ []) ≡ [] → ⊥) → ⊥
    go true q f = snoc_not_empty (only (nodes a) t) x (sym (only_in (nodes a) t x q) ∙ append_empty_first (only (nodes a) (t ++ x ∷ [])) _ e)
    go false q f = f (of_rest (nodes a) (nodes_all es) x q h) (append_empty_second (only (nodes a) (t ++ x ∷ [])) _ e)

-- ---- what is whole is a part

pub parts_of_wholes : (whole part : ℕ → Type 0) (ks : List ℕ) → ((k : ℕ) → whole k → part k) → EachPicked whole ks → LastMayBeCut whole part ks
parts_of_wholes whole part [] h w = tt
parts_of_wholes whole part (k ∷ []) h w = h k w.0
parts_of_wholes whole part (k ∷ j ∷ ks) h w = (w.0, parts_of_wholes whole part (j ∷ ks) h w.1)

pub some_map : {A : Type 0} (P Q : A → Type 0) (o : Option A) → ((a : A) → P a → Q a) → IsSomeAnd o P → IsSomeAnd o Q
some_map P Q None h p = absurd p
some_map P Q (Some a) h p = h a p

pub picked_part : (n : ℕ) (whole part : ℕ → List Entry → Type 0) (t : List Entry) → ((k : ℕ) (u : List Entry) → whole k u → part k u) → AfterPick n whole t → AfterPick n part t
picked_part n whole part [] h w = absurd w
picked_part n whole part (x ∷ t) h w = some_map (λ k. whole k t) (λ k. part k t) (pick_of n x) (λ k v. h k t v) w

pub tested_part : (n : ℕ) (whole part : Bool → List Entry → Type 0) (t : List Entry) → ((k : Bool) (u : List Entry) → whole k u → part k u) → AfterTest n whole t → AfterTest n part t
tested_part n whole part [] h w = absurd w
tested_part n whole part (x ∷ t) h w = some_map (λ k. whole k t) (λ k. part k t) (test_of n x) (λ k v. h k t v) w

pub loop_part : (whole part : List Entry → Type 0) (ts : List Turn) → IsLoop whole ts → IsLoopSoFar whole part ts
loop_part whole part [] w = absurd w
loop_part whole part (Tested true t ∷ []) w = absurd w.1
loop_part whole part (Tested false t ∷ []) w = w
loop_part whole part (Tested true t ∷ r ∷ rest) w = (w.0, loop_part whole part (r ∷ rest) w.1)
loop_part whole part (Tested false t ∷ r ∷ rest) w = absurd w

mutual
  pub part_of_whole : (e : Exec) (t : List Entry) → Whole e t → Part e t
  part_of_whole (Work n) t w = ([], rw (append-nil t) w)
  part_of_whole (Leaf n k) t w = ([], rw (append-nil t) w)
  part_of_whole (Plan n es) t w = (w.0, order_of_whole es t w.1)
  part_of_whole (Par n es) t w = (w.0, each_of_whole es t w.1)
  part_of_whole (NonSeq n es) t w = (w.0, w.1, parts_of_wholes (λ k. WholeAt es k (part_at es k t)) (λ k. PartAt es k (part_at es k t)) (picks n t) (λ k v. at_of_whole es k (part_at es k t) v) w.3)
  part_of_whole (Sel n es) t w = inr (picked_part n (λ k u. WholeAt es k u) (λ k u. PartAt es k u) t (λ k u v. at_of_whole es k u v) w)
  part_of_whole (If n a b) t w = inr (tested_part n (Answered (λ u. Whole a u) (λ u. Whole b u)) (Answered (λ u. Part a u) (λ u. Part b u)) t (elim [ true ↦ λ u v. part_of_whole a u v | false ↦ λ u v. part_of_whole b u v ]) w)
  part_of_whole (While n a) t w = (w.0, loop_part (λ u. Whole a u) (λ u. Part a u) (turns n t) w.1)

  pub order_of_whole : (es : Execs) (t : List Entry) → EachWhole es t → InOrder es t
  order_of_whole None_left t w = tt
  order_of_whole (Then e es) t w = (part_of_whole e (only (nodes e) t) w.0, λ g. w.0, order_of_whole es t w.1)

  pub each_of_whole : (es : Execs) (t : List Entry) → EachWhole es t → EachPart es t
  each_of_whole None_left t w = tt
  each_of_whole (Then e es) t w = (part_of_whole e (only (nodes e) t) w.0, each_of_whole es t w.1)

  pub at_of_whole : (es : Execs) (k : ℕ) (t : List Entry) → WholeAt es k t → PartAt es k t
  at_of_whole None_left k t w = absurd w
  at_of_whole (Then e es) zero t w = part_of_whole e t w
  at_of_whole (Then e es) (suc k) t w = at_of_whole es k t w

-- ---- sequences

pub order_cons : (a : Exec) (es : Execs) (t s : List Entry) (x : Entry) (b : Bool) → is_of (nodes a) x ≡ b → ((y : Entry) → is_of (nodes a) y ≡ true → is_of (nodes_all es) y ≡ false) → (Part a (only (nodes a) t ++ x ∷ []) → Part a (only (nodes a) t) × Step a (only (nodes a) t) x) → ((r : List Entry) → joined es (t ++ x ∷ []) ≡ r ++ x ∷ [] → is_of (nodes_all es) x ≡ true → InOrder es (t ++ x ∷ []) → (joined es t ≡ r) × InOrder es t × StepInOrder es t x) → joined (Then a es) (t ++ x ∷ []) ≡ s ++ x ∷ [] → is_of (nodes_all (Then a es)) x ≡ true → InOrder (Then a es) (t ++ x ∷ []) → (joined (Then a es) t ≡ s) × InOrder (Then a es) t × StepInOrder (Then a es) t x
order_cons a es t s x true h across rec1 rec2 eq has p =
    let io : only (nodes a) (t ++ x ∷ []) ≡ only (nodes a) t ++ x ∷ [] = only_in (nodes a) t x h in
    let out : is_of (nodes_all es) x ≡ false = across x h in
    let same : SameParts es (t ++ x ∷ []) t = same_out es t x out in
    let js : joined es (t ++ x ∷ []) ≡ joined es t = same_joined es (t ++ x ∷ []) t same in
    let q : (only (nodes a) t ++ x ∷ []) ++ joined es t ≡ s ++ x ∷ [] =
    ap (λ (w : List Entry). w ++ joined es t) (sym io) ∙ (ap (λ (w : List Entry). only (nodes a) (t ++ x ∷ []) ++ w) (sym js) ∙ eq) in
    let je : joined es t ≡ [] = nothing_after (nodes_all es) (only (nodes a) t) (joined es t) s x out (AllOf-joined es t) q in
    let fr : only (nodes a) t ≡ s = snoc_front (only (nodes a) t) s x x (sym (append-nil (only (nodes a) t ++ x ∷ [])) ∙ (ap (λ (w : List Entry). (only (nodes a) t ++ x ∷ []) ++ w) (sym je) ∙ q)) in
    let rec = rec1 (subst (Part a) io p.0) in (
      ap (λ (w : List Entry). only (nodes a) t ++ w) je ∙ (append-nil (only (nodes a) t) ∙ fr),
      (rec.0, λ g. absurd (g je), same_in_order es (t ++ x ∷ []) t same p.2),
      inl (h, je, rec.1),
    )
order_cons a es t s x false h across rec1 rec2 eq has p = go (snoc_view (joined es (t ++ x ∷ [])))
  where
    oe : only (nodes a) (t ++ x ∷ []) ≡ only (nodes a) t
    oe = only_out (nodes a) t x h

    inside : is_of (nodes_all es) x ≡ true
    inside = of_rest (nodes a) (nodes_all es) x h has

    whole : Whole a (only (nodes a) t)
    whole = subst (Whole a) oe (p.1 (λ z. joined_some es t x inside z))

    go : (joined es (t ++ x ∷ []) ≡ []) ⊎ ((u : List Entry) × (y : Entry) × (joined es (t ++ x ∷ []) ≡ u ++ y ∷ [])) → (joined (Then a es) t ≡ s) × InOrder (Then a es) t × StepInOrder (Then a es) t x
    go (inl q) = absurd (joined_some es t x inside q)
    go (inr (u, y, q)) =
        let g : (only (nodes a) t ++ u) ++ y ∷ [] ≡ s ++ x ∷ [] =
        append_assoc (only (nodes a) t) u (y ∷ []) ∙ (ap (λ (w : List Entry). only (nodes a) t ++ w) (sym q) ∙ (ap (λ (w : List Entry). w ++ joined es (t ++ x ∷ [])) (sym oe) ∙ eq)) in
        let yx : y ≡ x = snoc_last (only (nodes a) t ++ u) s y x g in
        let fr : only (nodes a) t ++ u ≡ s = snoc_front (only (nodes a) t ++ u) s y x g in
        let rec = rec2 u (q ∙ ap (λ (w : Entry). u ++ w ∷ []) yx) inside p.2 in
        (ap (λ (w : List Entry). only (nodes a) t ++ w) rec.0 ∙ fr, (subst (Part a) oe p.0, λ g. whole, rec.1), inr (h, whole, rec.2))

pub each_cons : (a : Exec) (es : Execs) (t : List Entry) (x : Entry) (b : Bool) → is_of (nodes a) x ≡ b → ((y : Entry) → is_of (nodes a) y ≡ true → is_of (nodes_all es) y ≡ false) → (Part a (only (nodes a) t ++ x ∷ []) → Part a (only (nodes a) t) × Step a (only (nodes a) t) x) → (is_of (nodes_all es) x ≡ true → EachPart es (t ++ x ∷ []) → EachPart es t × StepOfOne es t x) → is_of (nodes_all (Then a es)) x ≡ true → EachPart (Then a es) (t ++ x ∷ []) → EachPart (Then a es) t × StepOfOne (Then a es) t x
each_cons a es t x true h across rec1 rec2 has p =
    let rec = rec1 (subst (Part a) (only_in (nodes a) t x h) p.0) in
    ((rec.0, same_each es (t ++ x ∷ []) t (same_out es t x (across x h)) p.1), inl (h, rec.1))
each_cons a es t x false h across rec1 rec2 has p =
    let rec = rec2 (of_rest (nodes a) (nodes_all es) x h has) p.1 in
    ((subst (Part a) (only_out (nodes a) t x h) p.0, rec.0), inr (h, rec.1))

-- ---- leaves, choices

pub leaf_step : (k : LeafKind) (n : ℕ) (t rest : List Entry) (x : Entry) → IsLeaf k n ((t ++ x ∷ []) ++ rest) → ((r : List Entry) × IsLeaf k n (t ++ r)) × ((t ≡ []) × IsOfLeaf k n x)
leaf_step k n [] [] x p = ((x ∷ [], p), (refl, p))
leaf_step k n [] (y ∷ rest) x p = absurd p
leaf_step k n (y ∷ []) rest x p = absurd p
leaf_step k n (y ∷ z ∷ t) rest x p = absurd p

pub part_in_range : (es : Execs) (k : ℕ) (t : List Entry) → PartAt es k t → k < count es
part_in_range None_left k t p = absurd p
part_in_range (Then e es) zero t p = omega arith
part_in_range (Then e es) (suc k) t p = omega (arith, part_in_range es k t p)

pub some_both : {A : Type 0} (P Q R : A → Type 0) (o : Option A) → ((a : A) → P a → Q a × R a) → IsSomeAnd o P → IsSomeAnd o Q × IsSomeAnd o R
some_both P Q R None h p = absurd p
some_both P Q R (Some a) h p = h a p

pub picked_step : (n c : ℕ) (part : ℕ → List Entry → Type 0) (step : ℕ → List Entry → Entry → Type 0) (t : List Entry) (x : Entry) → ((k : ℕ) (u : List Entry) → part k (u ++ x ∷ []) → part k u × step k u x) → ((k : ℕ) (u : List Entry) → part k u → k < c) → (t ++ x ∷ [] ≡ []) ⊎ AfterPick n part (t ++ x ∷ []) → ((t ≡ []) ⊎ AfterPick n part t) × StepPicked n (IsNewPick n c [] x) (λ k u. step k u x) t
picked_step n c part step t x h r (inl q) = absurd (snoc_not_empty t x q)
picked_step n c part step [] x h r (inr p) = (inl refl, some_map (λ k. part k []) _ (pick_of n x) (λ k v. (r k [] v, refl)) p)
picked_step n c part step (y ∷ t) x h r (inr p) =
    let z = some_both (λ k. part k (t ++ x ∷ [])) (λ k. part k t) (λ k. step k t x) (pick_of n y) (λ k v. h k t v) p in (inr z.0, z.1)

pub tested_step : (n : ℕ) (part : Bool → List Entry → Type 0) (step : Bool → List Entry → Type 0) (t : List Entry) (x : Entry) → ((k : Bool) (u : List Entry) → part k (u ++ x ∷ []) → part k u × step k u) → (t ++ x ∷ [] ≡ []) ⊎ AfterTest n part (t ++ x ∷ []) → ((t ≡ []) ⊎ AfterTest n part t) × StepTested n (IsTest n x) step t
tested_step n part step t x h (inl q) = absurd (snoc_not_empty t x q)
tested_step n part step [] x h (inr p) = (inl refl, some_map (λ k. part k []) _ (test_of n x) (λ k v. tt) p)
tested_step n part step (y ∷ t) x h (inr p) =
    let z = some_both (λ k. part k (t ++ x ∷ [])) (λ k. part k t) (λ k. step k t) (test_of n y) (λ k v. h k t v) p in (inr z.0, z.1)

-- ---- loops

-- the last turn with one more entry
abbrev pub longer : List Turn → Entry → List Turn
longer [] x = []
longer (Tested b t ∷ []) x = Tested b (t ++ x ∷ []) ∷ []
longer (r ∷ s ∷ rest) x = r ∷ longer (s ∷ rest) x

abbrev pub lead_more : List Turn → List Entry → Entry → List Entry
lead_more [] t x = t ++ x ∷ []
lead_more (r ∷ rest) t x = t

pub lead_more_by : (o : Option Bool) (y : Entry) (t v : List Entry) (ts : List Turn) (x : Entry) → v ≡ lead_more ts t x → lead_by o y v ≡ lead_more (turns_by o t ts) (lead_by o y t) x
lead_more_by (Some b) y t v ts x e = refl
lead_more_by None y t v [] x e = rw e refl
lead_more_by None y t v (r ∷ ts) x e = rw e refl

pub lead_other : (n : ℕ) (t : List Entry) (x : Entry) → test_of n x ≡ None → lead n (t ++ x ∷ []) ≡ lead_more (turns n t) (lead n t) x
lead_other n [] x e = rw e refl
lead_other n (y ∷ t) x e = lead_more_by (test_of n y) y (lead n t) (lead n (t ++ x ∷ [])) (turns n t) x (lead_other n t x e)

pub turns_more_by : (o : Option Bool) (t v : List Entry) (ts us : List Turn) (x : Entry) → v ≡ lead_more ts t x → us ≡ longer ts x → turns_by o v us ≡ longer (turns_by o t ts) x
turns_more_by None t v ts us x e f = f
turns_more_by (Some b) t v [] us x e f = rw (e, f) refl
turns_more_by (Some b) t v (r ∷ ts) us x e f = rw (e, f) refl

pub turns_other : (n : ℕ) (t : List Entry) (x : Entry) → test_of n x ≡ None → turns n (t ++ x ∷ []) ≡ longer (turns n t) x
turns_other n [] x e = rw e refl
turns_other n (y ∷ t) x e = turns_more_by (test_of n y) (lead n t) (lead n (t ++ x ∷ [])) (turns n t) (turns n (t ++ x ∷ [])) x (lead_other n t x e) (turns_other n t x e)

pub lead_same_by : (o : Option Bool) (y : Entry) (t v : List Entry) → v ≡ t → lead_by o y v ≡ lead_by o y t
lead_same_by o y t v e = rw e refl

pub lead_test : (n : ℕ) (t : List Entry) (x : Entry) (b : Bool) → test_of n x ≡ Some b → lead n (t ++ x ∷ []) ≡ lead n t
lead_test n [] x b e = rw e refl
lead_test n (y ∷ t) x b e = lead_same_by (test_of n y) y (lead n t) (lead n (t ++ x ∷ [])) (lead_test n t x b e)

pub turns_test_by : (o : Option Bool) (t v : List Entry) (ts us : List Turn) (b : Bool) → v ≡ t → us ≡ ts ++ Tested b [] ∷ [] → turns_by o v us ≡ turns_by o t ts ++ Tested b [] ∷ []
turns_test_by None t v ts us b e f = f
turns_test_by (Some c) t v ts us b e f = rw (e, f) refl

pub turns_test : (n : ℕ) (t : List Entry) (x : Entry) (b : Bool) → test_of n x ≡ Some b → turns n (t ++ x ∷ []) ≡ turns n t ++ Tested b [] ∷ []
turns_test n [] x b e = rw e refl
turns_test n (y ∷ t) x b e = turns_test_by (test_of n y) (lead n t) (lead n (t ++ x ∷ [])) (turns n t) (turns n (t ++ x ∷ [])) b (lead_test n t x b e) (turns_test n t x b e)

pub loop_test : (whole part step : List Entry → Type 0) (test : Type 0) (b : Bool) (ts : List Turn) → ((u : List Entry) → whole u → part u) → test → IsLoopSoFar whole part (ts ++ Tested b [] ∷ []) → IsLoopSoFar whole part ts × StepLoop test whole step ts
loop_test whole part step test b [] h g p = (tt, g)
loop_test whole part step test b (Tested true t ∷ []) h g p = (h t p.0, inl (g, p.0))
loop_test whole part step test b (Tested false t ∷ []) h g p = absurd p
loop_test whole part step test b (Tested true t ∷ r ∷ rest) h g p =
    let z = loop_test whole part step test b (r ∷ rest) h g p.1 in ((p.0, z.0), z.1)
loop_test whole part step test b (Tested false t ∷ r ∷ rest) h g p = absurd p

pub loop_other : (whole part : List Entry → Type 0) (step : List Entry → Type 0) (test : Type 0) (x : Entry) (ts : List Turn) → ((u : List Entry) → part (u ++ x ∷ []) → part u × step u) → (ts ≡ [] → ⊥) → IsLoopSoFar whole part (longer ts x) → IsLoopSoFar whole part ts × StepLoop test whole step ts
loop_other whole part step test x [] h g p = absurd (g refl)
loop_other whole part step test x (Tested true t ∷ []) h g p = let z = h t p in (z.0, inr z.1)
loop_other whole part step test x (Tested false t ∷ []) h g p = absurd (snoc_not_empty t x p)
loop_other whole part step test x (Tested true t ∷ Tested c s ∷ []) h g p =
    let z = loop_other whole part step test x (Tested c s ∷ []) h (λ q. cc) p.1 in ((p.0, z.0), z.1)
loop_other whole part step test x (Tested true t ∷ r ∷ s ∷ rest) h g p =
    let z = loop_other whole part step test x (r ∷ s ∷ rest) h (λ q. cc) p.1 in ((p.0, z.0), z.1)
loop_other whole part step test x (Tested false t ∷ Tested c s ∷ []) h g p = absurd p
loop_other whole part step test x (Tested false t ∷ r ∷ s ∷ rest) h g p = absurd p

pub lead_not_empty : (ts : List Turn) (t : List Entry) (x : Entry) → lead_more ts t x ≡ [] → (ts ≡ [] → ⊥) × (t ≡ [])
lead_not_empty [] t x e = absurd (snoc_not_empty t x e)
lead_not_empty (r ∷ ts) t x e = ((λ q. cc), e)

pub while_step : (n : ℕ) (whole part : List Entry → Type 0) (step : List Entry → Type 0) (t : List Entry) (x : Entry) → ((u : List Entry) → part (u ++ x ∷ []) → part u × step u) → ((u : List Entry) → whole u → part u) → (lead n (t ++ x ∷ []) ≡ []) × IsLoopSoFar whole part (turns n (t ++ x ∷ [])) → ((lead n t ≡ []) × IsLoopSoFar whole part (turns n t)) × StepLoop (IsTest n x) whole step (turns n t)
while_step n whole part step t x h w p = go (test_of n x) refl
  where
    go : (o : Option Bool) → test_of n x ≡ o → ((lead n t ≡ []) × IsLoopSoFar whole part (turns n t)) × StepLoop (IsTest n x) whole step (turns n t)
    go (Some b) e =
        let test : IsTest n x = rw e tt in
        let z = loop_test whole part step (IsTest n x) b (turns n t) w test (subst (IsLoopSoFar whole part) (turns_test n t x b e) p.1) in
        ((sym (lead_test n t x b e) ∙ p.0, z.0), z.1)
    go None e =
        let l = lead_not_empty (turns n t) (lead n t) x (sym (lead_other n t x e) ∙ p.0) in
        let z = loop_other whole part step (IsTest n x) x (turns n t) h l.0 (subst (IsLoopSoFar whole part) (turns_other n t x e) p.1) in
        ((l.1, z.0), z.1)

-- ---- elements by their index

pub at_inside : (es : Execs) (k : ℕ) (x : Entry) → is_of (nodes_at es k) x ≡ true → is_of (nodes_all es) x ≡ true
at_inside None_left k x h = h
at_inside (Then e es) zero x h = is_of_left (nodes e) (nodes_all es) x h
at_inside (Then e es) (suc k) x h = is_of_right (nodes e) (nodes_all es) x (at_inside es k x h)

pub by_contradiction : (b : Bool) → (b ≡ true → ⊥) → b ≡ false
by_contradiction true h = absurd (h refl)
by_contradiction false h = refl

pub at_outside : (es : Execs) (k : ℕ) (x : Entry) → is_of (nodes_all es) x ≡ false → is_of (nodes_at es k) x ≡ false
at_outside es k x h = by_contradiction (is_of (nodes_at es k) x) (λ g. let i : is_of (nodes_all es) x ≡ true = at_inside es k x g in cc)

pub at_apart : (es : Execs) (i k : ℕ) (x : Entry) → ApartAll es → (i ≡ k → ⊥) → is_of (nodes_at es i) x ≡ true → is_of (nodes_at es k) x ≡ false
at_apart None_left i k x d ne h = absurd (of_none (number_of x) h)
at_apart (Then e es) zero zero x d ne h = absurd (ne refl)
at_apart (Then e es) zero (suc k) x d ne h = at_outside es k x (d.2 x h)
at_apart (Then e es) (suc i) zero x d ne h =
    by_contradiction (is_of (nodes e) x) (λ g. let a : is_of (nodes_all es) x ≡ true = at_inside es i x h in let b : is_of (nodes_all es) x ≡ false = d.2 x g in cc)
at_apart (Then e es) (suc i) (suc k) x d ne h = at_apart es i k x d.1 (λ q. ne (rw q refl)) h

-- ---- picks and visits

pub pick_is : (n : ℕ) (x : Entry) (k : ℕ) → pick_of n x ≡ Some k → x ≡ Pick n k
pick_is n (Pick m j) k e = go (m == n) refl
  where
    go : (b : Bool) → (m == n) ≡ b → Pick m j ≡ Pick n k
    go true q = let f : Some j ≡ Some k = rw q at e in let g : j ≡ k = cc in let h : m ≡ n = same_number m n q in rw (g, h) refl
    go false q = let f : None ≡ Some k = rw q at e in absurd (cc)
pick_is n x k e = absurd (cc)

pub pick_of_pick : (n k : ℕ) → pick_of n (Pick n k) ≡ Some k
pick_of_pick n k = let g : (n == n) ≡ true = grind (arith, nat_tests) in rw g refl

pub picks_more : (n : ℕ) (t : List Entry) (x : Entry) (k : ℕ) → pick_of n x ≡ Some k → picks n (t ++ x ∷ []) ≡ picks n t ++ k ∷ []
picks_more n t x k e = filter_map-append (pick_of n) t (x ∷ []) ∙ rw e refl

pub picks_same : (n : ℕ) (t : List Entry) (x : Entry) → pick_of n x ≡ None → picks n (t ++ x ∷ []) ≡ picks n t
picks_same n t x e = filter_map-append (pick_of n) t (x ∷ []) ∙ rw e (append-nil (picks n t))

pub visits_same : (n : ℕ) (es : Execs) (t u : List Entry) (ks : List ℕ) → ((k : ℕ) → part_at es k t ≡ part_at es k u) → visits n es t ks ≡ visits n es u ks
visits_same n es t u [] h = refl
visits_same n es t u (k ∷ ks) h = rw (h k, visits_same n es t u ks h) refl

pub visits_more : (n : ℕ) (es : Execs) (t : List Entry) (ks : List ℕ) (k : ℕ) → visits n es t (ks ++ k ∷ []) ≡ visits n es t ks ++ (Pick n k ∷ part_at es k t)
visits_more n es t [] k = ap (λ (w : List Entry). Pick n k ∷ w) (append-nil (part_at es k t))
visits_more n es t (j ∷ ks) k =
    ap (λ (w : List Entry). Pick n j ∷ w)
    (ap (λ (w : List Entry). part_at es j t ++ w) (visits_more n es t ks k) ∙ sym (append_assoc (part_at es j t) (visits n es t ks) (Pick n k ∷ part_at es k t)))

pub not_same_back : (k j : ℕ) → (k == j) ≡ false → (j == k) ≡ false
not_same_back k j e = grind (arith, nat_tests)

pub neither : (a b : Bool) → a ≡ false → b ≡ false → (a || b) ≡ false
neither a b e f = rw e f

pub distinct_more : (c : ℕ) (ks : List ℕ) (k : ℕ) → AreDistinctBelow c (ks ++ k ∷ []) → AreDistinctBelow c ks × (k < c) × (has ks k ≡ false)
distinct_more c [] k d = (tt, d.0, refl)
distinct_more c (j ∷ ks) k d =
    let z = distinct_more c ks k d.2 in
    let g : (has ks j || has (k ∷ []) j) ≡ false = sym (has-append ks (k ∷ []) j) ∙ d.1 in
    let f : (k == j) ≡ false = or_false_left (k == j) false (or_false_right (has ks j) (has (k ∷ []) j) g) in
    ((d.0, or_false_left (has ks j) (has (k ∷ []) j) g, z.0), z.1, neither (j == k) (has ks k) (not_same_back k j f) z.2)

pub last_more : (whole part : ℕ → Type 0) (ks : List ℕ) (k : ℕ) → LastMayBeCut whole part (ks ++ k ∷ []) → EachPicked whole ks × part k
last_more whole part [] k p = (tt, p)
last_more whole part (j ∷ []) k p = ((p.0, tt), p.1)
last_more whole part (j ∷ i ∷ ks) k p = let z = last_more whole part (i ∷ ks) k p.1 in ((p.0, z.0), z.1)

pub each_map : (P Q : ℕ → Type 0) (ks : List ℕ) → ((k : ℕ) → P k → Q k) → EachPicked P ks → EachPicked Q ks
each_map P Q [] h p = tt
each_map P Q (k ∷ ks) h p = (h k p.0, each_map P Q ks h p.1)

pub pick_step : (n : ℕ) (es : Execs) (t : List Entry) (x : Entry) (k : ℕ) → pick_of n x ≡ Some k → has (nodes_all es) n ≡ false → Part (NonSeq n es) (t ++ x ∷ []) → Part (NonSeq n es) t × Step (NonSeq n es) t x
pick_step n es t x k e own p =
    let isp : x ≡ Pick n k = pick_is n x k e in
    let out : is_of (nodes_all es) x ≡ false = subst (λ (w : Entry). is_of (nodes_all es) w ≡ false) (sym isp) own in
    let same : (j : ℕ) → part_at es j (t ++ x ∷ []) ≡ part_at es j t = λ j. only_out (nodes_at es j) t x (at_outside es j x out) in
    let pk : picks n (t ++ x ∷ []) ≡ picks n t ++ k ∷ [] = picks_more n t x k e in
    let e1 : t ++ x ∷ [] ≡ visits n es (t ++ x ∷ []) (picks n t ++ k ∷ []) = p.0 ∙ ap (λ (w : List ℕ). visits n es (t ++ x ∷ []) w) pk in
    let e2 : t ++ x ∷ [] ≡ visits n es t (picks n t) ++ (Pick n k ∷ part_at es k t) =
    e1 ∙ (visits_same n es (t ++ x ∷ []) t (picks n t ++ k ∷ []) same ∙ visits_more n es t (picks n t) k) in
    let e3 : (visits n es t (picks n t) ++ x ∷ []) ++ part_at es k t ≡ t ++ x ∷ [] =
    append_assoc (visits n es t (picks n t)) (x ∷ []) (part_at es k t) ∙ (ap (λ (w : Entry). visits n es t (picks n t) ++ (w ∷ part_at es k t)) isp ∙ sym e2) in
    let emp : part_at es k t ≡ [] = nothing_after (nodes_at es k) (visits n es t (picks n t)) (part_at es k t) t x (at_outside es k x out) (AllOf-only (nodes_at es k) t) e3 in
    let fr : visits n es t (picks n t) ≡ t =
    snoc_front (visits n es t (picks n t)) t x x (sym (append-nil (visits n es t (picks n t) ++ x ∷ [])) ∙ (ap (λ (w : List Entry). (visits n es t (picks n t) ++ x ∷ []) ++ w) (sym emp) ∙ e3)) in
    let d = distinct_more (count es) (picks n t) k (subst (AreDistinctBelow (count es)) pk p.1) in
    let l = last_more (λ j. WholeAt es j (part_at es j (t ++ x ∷ []))) (λ j. PartAt es j (part_at es j (t ++ x ∷ []))) (picks n t) k
    (subst (LastMayBeCut (λ j. WholeAt es j (part_at es j (t ++ x ∷ []))) (λ j. PartAt es j (part_at es j (t ++ x ∷ [])))) pk p.2) in
    let whole : EachPicked (λ j. WholeAt es j (part_at es j t)) (picks n t) =
    each_map (λ j. WholeAt es j (part_at es j (t ++ x ∷ []))) (λ j. WholeAt es j (part_at es j t)) (picks n t) (λ j v. subst (WholeAt es j) (same j) v) l.0 in (
      (sym fr, d.0, parts_of_wholes (λ j. WholeAt es j (part_at es j t)) (λ j. PartAt es j (part_at es j t)) (picks n t) (λ j v. at_of_whole es j (part_at es j t) v) whole),
      inl (rw e (d.1, d.2), whole),
    )

pub last_not : (es : Execs) (x : Entry) (ks : List ℕ) (k : ℕ) → ApartAll es → has ks k ≡ false → AtLast (λ i. is_of (nodes_at es i) x ≡ true) ks → is_of (nodes_at es k) x ≡ false
last_not es x [] k d h p = absurd p
last_not es x (i ∷ []) k d h p = at_apart es i k x d (λ q. let g : (i == k) ≡ false = or_false_left (i == k) false h in grind (arith, nat_tests)) p
last_not es x (i ∷ j ∷ ks) k d h p = last_not es x (j ∷ ks) k d (or_false_right (i == k) (has (j ∷ ks) k) h) p

pub ends_outside : (n : ℕ) (ns : List ℕ) (k : ℕ) (b s : List Entry) (x : Entry) → pick_of n x ≡ None → is_of ns x ≡ false → AllOf ns b → Pick n k ∷ b ≡ s ++ x ∷ [] → ⊥
ends_outside n ns k b s x e f all q = go (snoc_view b)
  where
    go : (b ≡ []) ⊎ ((u : List Entry) × (y : Entry) × (b ≡ u ++ y ∷ [])) → ⊥
    go (inl z) =
        let g : [] ++ Pick n k ∷ [] ≡ s ++ x ∷ [] = ap (λ (w : List Entry). Pick n k ∷ w) (sym z) ∙ q in
        let h : Pick n k ≡ x = snoc_last [] s (Pick n k) x g in
        let i : pick_of n x ≡ Some k = subst (λ (w : Entry). pick_of n w ≡ Some k) h (pick_of_pick n k) in cc
    go (inr (u, y, z)) =
        let g : (Pick n k ∷ u) ++ y ∷ [] ≡ s ++ x ∷ [] = ap (λ (w : List Entry). Pick n k ∷ w) (sym z) ∙ q in
        let h : y ≡ x = snoc_last (Pick n k ∷ u) s y x g in
        let i : is_of ns y ≡ true = AllOf_last ns u y (subst (AllOf ns) z all) in
        let j : is_of ns x ≡ true = subst (λ (w : Entry). is_of ns w ≡ true) h i in cc

abbrev pub Visited : ℕ → Execs → List Entry → Entry → List ℕ → List Entry → Type 0
Visited n es t x ks s =
    (visits n es t ks ≡ s) × LastMayBeCut (λ k. WholeAt es k (part_at es k t)) (λ k. PartAt es k (part_at es k t)) ks
    × AtLast (λ k. StepAt es k (part_at es k t) x) ks × AtLast (λ k. is_of (nodes_at es k) x ≡ true) ks

pub visit_one : (n : ℕ) (es : Execs) (t : List Entry) (x : Entry) (k : ℕ) (s : List Entry) → pick_of n x ≡ None → ((i : ℕ) (u : List Entry) → PartAt es i (u ++ x ∷ []) → PartAt es i u × StepAt es i u x) → visits n es (t ++ x ∷ []) (k ∷ []) ≡ s ++ x ∷ [] → PartAt es k (part_at es k (t ++ x ∷ [])) → Visited n es t x (k ∷ []) s
visit_one n es t x k s e rec eq p = go (is_of (nodes_at es k) x) refl
  where
    eq1 : Pick n k ∷ part_at es k (t ++ x ∷ []) ≡ s ++ x ∷ []
    eq1 = ap (λ (w : List Entry). Pick n k ∷ w) (sym (append-nil (part_at es k (t ++ x ∷ [])))) ∙ eq

    go : (b : Bool) → is_of (nodes_at es k) x ≡ b → Visited n es t x (k ∷ []) s
    go true h =
        let io : part_at es k (t ++ x ∷ []) ≡ part_at es k t ++ x ∷ [] = only_in (nodes_at es k) t x h in
        let g : (Pick n k ∷ part_at es k t) ++ x ∷ [] ≡ s ++ x ∷ [] = ap (λ (w : List Entry). Pick n k ∷ w) (sym io) ∙ eq1 in
        let fr : Pick n k ∷ part_at es k t ≡ s = snoc_front (Pick n k ∷ part_at es k t) s x x g in
        let z = rec k (part_at es k t) (subst (PartAt es k) io p) in
        (ap (λ (w : List Entry). Pick n k ∷ w) (append-nil (part_at es k t)) ∙ fr, z.0, z.1, h)
    go false h =
        absurd (ends_outside n (nodes_at es k) k (part_at es k (t ++ x ∷ [])) s x e h (AllOf-only (nodes_at es k) (t ++ x ∷ [])) eq1)

pub visit_step : (n : ℕ) (es : Execs) (t : List Entry) (x : Entry) (c : ℕ) (ks : List ℕ) (s : List Entry) → ApartAll es → pick_of n x ≡ None → ((i : ℕ) (u : List Entry) → PartAt es i (u ++ x ∷ []) → PartAt es i u × StepAt es i u x) → visits n es (t ++ x ∷ []) ks ≡ s ++ x ∷ [] → AreDistinctBelow c ks → LastMayBeCut (λ k. WholeAt es k (part_at es k (t ++ x ∷ []))) (λ k. PartAt es k (part_at es k (t ++ x ∷ []))) ks → Visited n es t x ks s
visit_step n es t x c [] s ap' e rec eq d p = absurd (snoc_not_empty s x (sym eq))
visit_step n es t x c (k ∷ []) s ap' e rec eq d p = visit_one n es t x k s e rec eq p
visit_step n es t x c (k ∷ j ∷ ks) s ap' e rec eq d p = go (snoc_view rest) (λ u q. visit_step n es t x c (j ∷ ks) u ap' e rec q d.2 p.1)
  where
    rest : List Entry
    rest = visits n es (t ++ x ∷ []) (j ∷ ks)

    go : (visits n es (t ++ x ∷ []) (j ∷ ks) ≡ []) ⊎ ((u : List Entry) × (y : Entry) × (visits n es (t ++ x ∷ []) (j ∷ ks) ≡ u ++ y ∷ [])) → ((u : List Entry) → visits n es (t ++ x ∷ []) (j ∷ ks) ≡ u ++ x ∷ [] → Visited n es t x (j ∷ ks) u) → Visited n es t x (k ∷ j ∷ ks) s
    go (inl q) f = absurd (cc)
    go (inr (u, y, q)) f =
        let g : (Pick n k ∷ (part_at es k (t ++ x ∷ []) ++ u)) ++ y ∷ [] ≡ s ++ x ∷ [] =
        ap (λ (w : List Entry). Pick n k ∷ w) (append_assoc (part_at es k (t ++ x ∷ [])) u (y ∷ []) ∙ ap (λ (w : List Entry). part_at es k (t ++ x ∷ []) ++ w) (sym q)) ∙ eq in
        let yx : y ≡ x = snoc_last (Pick n k ∷ (part_at es k (t ++ x ∷ []) ++ u)) s y x g in
        let fr : Pick n k ∷ (part_at es k (t ++ x ∷ []) ++ u) ≡ s = snoc_front (Pick n k ∷ (part_at es k (t ++ x ∷ []) ++ u)) s y x g in
        let z = f u (q ∙ ap (λ (w : Entry). u ++ w ∷ []) yx) in
        let oe : part_at es k (t ++ x ∷ []) ≡ part_at es k t = only_out (nodes_at es k) t x (last_not es x (j ∷ ks) k ap' d.1 z.3) in (
          ap (λ (w : List Entry). Pick n k ∷ w) (ap (λ (w : List Entry). w ++ visits n es t (j ∷ ks)) (sym oe) ∙ ap (λ (w : List Entry). part_at es k (t ++ x ∷ []) ++ w) z.0) ∙ fr,
          (subst (WholeAt es k) oe p.0, z.1),
          z.2,
          z.3,
        )

pub nonseq_step : (n : ℕ) (es : Execs) (t : List Entry) (x : Entry) → has (nodes_all es) n ≡ false → ApartAll es → ((i : ℕ) (u : List Entry) → PartAt es i (u ++ x ∷ []) → PartAt es i u × StepAt es i u x) → Part (NonSeq n es) (t ++ x ∷ []) → Part (NonSeq n es) t × Step (NonSeq n es) t x
nonseq_step n es t x own d rec p = go (pick_of n x) refl
  where
    go : (o : Option ℕ) → pick_of n x ≡ o → Part (NonSeq n es) t × Step (NonSeq n es) t x
    go (Some k) e = pick_step n es t x k e own p
    go None e =
        let pk : picks n (t ++ x ∷ []) ≡ picks n t = picks_same n t x e in
        let dist : AreDistinctBelow (count es) (picks n t) = subst (AreDistinctBelow (count es)) pk p.1 in
        let z = visit_step n es t x (count es) (picks n t) t d e rec (ap (λ (w : List ℕ). visits n es (t ++ x ∷ []) w) (sym pk) ∙ sym p.0) dist
        (subst (LastMayBeCut (λ j. WholeAt es j (part_at es j (t ++ x ∷ []))) (λ j. PartAt es j (part_at es j (t ++ x ∷ [])))) pk p.2) in
        ((sym z.0, dist, z.1), inr z.2)

-- ---- the theorem

mutual
  pub step_of : (e : Exec) (t : List Entry) (x : Entry) → Apart e → Part e (t ++ x ∷ []) → Part e t × Step e t x
  step_of (Work n) t x d p =
      let w : IsWork n (t ++ x ∷ p.0) = subst (IsWork n) (append_assoc t (x ∷ []) p.0) p.1 in ((x ∷ p.0, w), (p.0, w))
  step_of (Leaf n k) t x d p = leaf_step k n t p.0 x p.1
  step_of (Plan n es) t x d p =
      let inside : is_of (nodes_all es) x ≡ true = AllOf_last (nodes_all es) t x (subst (AllOf (nodes_all es)) (sym p.0) (AllOf-joined es (t ++ x ∷ []))) in
      let r = order_step es t t x d (sym p.0) inside p.1 in ((sym r.0, r.1), r.2)
  step_of (Par n es) t x d p =
      let all : AllOf (nodes_all es) (t ++ x ∷ []) = subst (AllOf (nodes_all es)) p.0 (AllOf-only (nodes_all es) (t ++ x ∷ [])) in
      let r = each_step es t x d (AllOf_last (nodes_all es) t x all) p.1 in ((only_all (nodes_all es) t (AllOf_front (nodes_all es) t (x ∷ []) all), r.0), r.1)
  step_of (NonSeq n es) t x d p = nonseq_step n es t x d.0 d.1 (λ k u q. at_step es k u x d.1 q) p
  step_of (Sel n es) t x d p =
      picked_step n (count es) (λ k u. PartAt es k u) (λ k u y. StepAt es k u y) t x (λ k u q. at_step es k u x d.1 q) (λ k u q. part_in_range es k u q) p
  step_of (If n a b) t x d p =
      tested_step n (Answered (λ u. Part a u) (λ u. Part b u)) (Answered (λ u. Step a u x) (λ u. Step b u x)) t x
      (elim [ true ↦ λ u q. step_of a u x d.1 q | false ↦ λ u q. step_of b u x d.2 q ]) p
  step_of (While n a) t x d p =
      while_step n (λ u. Whole a u) (λ u. Part a u) (λ u. Step a u x) t x (λ u q. step_of a u x d.1 q) (λ u w. part_of_whole a u w) p

  order_step : (es : Execs) (t s : List Entry) (x : Entry) → ApartAll es → joined es (t ++ x ∷ []) ≡ s ++ x ∷ [] → is_of (nodes_all es) x ≡ true → InOrder es (t ++ x ∷ []) → (joined es t ≡ s) × InOrder es t × StepInOrder es t x
  order_step None_left t s x d q h p = absurd (of_none (number_of x) h)
  order_step (Then e es) t s x d q h p =
      order_cons e es t s x (is_of (nodes e) x) refl d.2 (λ v. step_of e (only (nodes e) t) x d.0 v) (λ r i j v. order_step es t r x d.1 i j v) q h p

  each_step : (es : Execs) (t : List Entry) (x : Entry) → ApartAll es → is_of (nodes_all es) x ≡ true → EachPart es (t ++ x ∷ []) → EachPart es t × StepOfOne es t x
  each_step None_left t x d h p = absurd (of_none (number_of x) h)
  each_step (Then e es) t x d h p =
      each_cons e es t x (is_of (nodes e) x) refl d.2 (λ v. step_of e (only (nodes e) t) x d.0 v) (λ j v. each_step es t x d.1 j v) h p

  at_step : (es : Execs) (k : ℕ) (t : List Entry) (x : Entry) → ApartAll es → PartAt es k (t ++ x ∷ []) → PartAt es k t × StepAt es k t x
  at_step None_left k t x d p = absurd p
  at_step (Then e es) zero t x d p = step_of e t x d.0 p
  at_step (Then e es) (suc k) t x d p = at_step es k t x d.1 p
