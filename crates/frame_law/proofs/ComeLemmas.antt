-- What an entry opens the run has come to after it, and hadn't before.
use Rattle.std.specs.Prelude.{◌≡◌, ◌<◌, ◌≤◌, ◌==◌, ◌+◌, ◌||◌, ◌⊎◌, if◌then◌else◌, ℕ, zero, suc, Bool, true, false, List, [], ◌∷◌, ◌++◌, length, Option, Some, None, IsSomeAnd, ⊤}
use Rattle.std.specs.List.{cons_option}
use Rattle.std.proofs.Common.{refl, sym, ◌∙◌, ap, subst, inl, inr, arith, append_assoc}
use Rattle.std.proofs.lemmas.Bool.Decides.{nat_tests}
use Rattle.exec_tree.specs.Exec.{Exec, Work, Leaf, Plan, Par, NonSeq, Sel, If, While, Execs, None_left, Then, nodes, nodes_all, has, number_or_none, count, AreDistinct}
use Rattle.trace_law.specs.Of.{is_of, only}
use Rattle.trace_law.specs.Whole.{IsWork, Answered, Whole, WholeAt}
use Rattle.trace_law.specs.Part.{LastMayBeCut, IsLoopSoFar, Part, EachPart, InOrder, PartAt}
use Rattle.trace_law.specs.Own.{picks, pick_of, test_of, Turn, Tested, turns}
use Rattle.trace_law.specs.Elements.{joined, nodes_at, part_at, visits}
use Rattle.trace_law.specs.Next.{first_of_two, next_work, next_leaf, next_of_last, next_after, next_answered, next_loop, next, next_in_order, next_each, next_at}
use Rattle.trace_law.specs.Step.{IsTest, AtLast, StepLoop, Step, StepInOrder, StepOfOne, StepAt}
use Rattle.trace_law.specs.Cells.{WhereTrue, Cell, Cutting, Going, Over, Picked, AnsweredBy, Left, work_after, first_answer, last_answer, last_body, if_going, picked}
use Rattle.trace_law.specs.Frames.{left, is_shared, one_where, going, OfFirst, OfLast, OfBranch, Stands, StandsInOrder, StandsEach, StandsAt}
use Rattle.trace_law.specs.Coming.{if_some, next_of_one}
use Rattle.trace_law.specs.Leading.{has_none}
use Rattle.run_log.specs.declared.entry.Entry.{Entry}
use Rattle.run_log.specs.declared.entry.Entry.TheVariants.{Note}
use Rattle.trace_law.proofs.WholeNextLemmas.{empty_from_whole}
use Rattle.trace_law.proofs.StepLemmas.{Apart, ApartAll, apart, apart_all, distinct_left, distinct_right, SameParts, AllOf, AllOf-append, has-append, only_in, only_out, not_of_left, not_of_right, same_number, next_has, here}
use Rattle.trace_law.proofs.StepForthLemmas.{at_inside, at_outside, pick_is, picks_more, picks_same, turns_test, turns_other, longer}
use Rattle.trace_law.proofs.StepBackLemmas.{part_inside, part_inside_at, step_inside, visits_without, part_of_step}
use Rattle.trace_law.proofs.ContinueLemmas.{clash}
use Rattle.trace_law.proofs.StayLemmas.{inside_at, not_true}
use Rattle.trace_law.proofs.CellNextLemmas.{only_rest, no_cons, work_next}
use Rattle.trace_law.proofs.CellMoveLemmas.{work_after_is, last_answer_longer, last_body_longer}
use Rattle.trace_law.proofs.FrameNextLemmas.{where_empty}
use Rattle.trace_law.proofs.SharedCountLemmas.{not_empty, left_moves}
use Rattle.trace_law.proofs.ArriveLemmas.{nobody, going_at_most, not_shared, of_last_more, length_more, if_some_none}
use Rattle.trace_law.proofs.FrameMoveLemmas.{no_pick, no_test, test_out, no_answer, nil_parts, last_says}
use Rattle.frame_law.specs.ComeTo.{of_picks, of_branch, body_after, come_to, come_to_in_order, come_to_each, come_to_at, turned, turned_all}
use Rattle.frame_law.specs.Looks.{if_over, opens, opens_in_order, opens_among}
use Rattle.frame_law.proofs.OutsideLemmas.{across_back, no_left, no_right, not_first, not_rest, yes_left, yes_right}
use Rattle.frame_law.proofs.ChosenLemmas.{no_append}

-- ---- lists

empty_is : (l : List ℕ) → has_none l ≡ true → l ≡ []
empty_is [] h = refl
empty_is (n ∷ l) h = absurd (cc)

is_empty : (l : List ℕ) → l ≡ [] → has_none l ≡ true
is_empty [] h = refl
is_empty (n ∷ l) h = absurd (cc)

some_none : (l : List ℕ) → (l ≡ [] → ⊥) → has_none l ≡ false
some_none [] h = absurd (h refl)
some_none (n ∷ l) h = refl

cond_in : (b : Bool) (l : List ℕ) (q : ℕ) → has (if b then l else []) q ≡ true → (b ≡ true) × (has l q ≡ true)
cond_in true l q h = (refl, h)
cond_in false l q h = absurd (cc)

either_in : (a b : Bool) → (a || b) ≡ true → (a ≡ true) ⊎ (b ≡ true)
either_in true b h = inl refl
either_in false b h = inr h

pub yes_either : (ms ns : List ℕ) (q : ℕ) → has (ms ++ ns) q ≡ true → (has ms q ≡ true) ⊎ (has ns q ≡ true)
yes_either ms ns q h = either_in (has ms q) (has ns q) (sym (has-append ms ns q) ∙ h)

pub cond_out : (b : Bool) (l : List ℕ) (q : ℕ) → has l q ≡ false → has (if b then l else []) q ≡ false
cond_out true l q h = h
cond_out false l q h = refl

-- ---- all of it lies in the executable

picks_out : (f : ℕ → List ℕ) (ks : List ℕ) (q : ℕ) → ((k : ℕ) → has ks k ≡ true → has (f k) q ≡ false) → has (of_picks f ks) q ≡ false
picks_out f [] q h = refl
picks_out f (k ∷ ks) q h = no_append (f k) (of_picks f ks) q (h k (here k k ks refl)) (picks_out f ks q (λ j g. h j (yes_right (k ∷ []) ks j g)))

picks_in : (f : ℕ → List ℕ) (ks : List ℕ) (k q : ℕ) → has ks k ≡ true → has (f k) q ≡ true → has (of_picks f ks) q ≡ true
picks_in f [] k q h g = absurd (cc)
picks_in f (j ∷ ks) k q h g = elim (yes_either (j ∷ []) ks k h) [
  | inl e ↦ yes_left (f j) (of_picks f ks) q (subst (λ (i : ℕ). has (f i) q ≡ true) (sym (one_is j k e)) g)
  | inr e ↦ yes_right (f j) (of_picks f ks) q (picks_in f ks k q e g)
]
  where
    one_is : (j k : ℕ) → has (j ∷ []) k ≡ true → j ≡ k
    one_is j k e = grind (arith, nat_tests)

branch_out : (o : Option Bool) (a b : List ℕ) (q : ℕ) → has a q ≡ false → has b q ≡ false → has (of_branch o a b) q ≡ false
branch_out None a b q h g = refl
branch_out (Some true) a b q h g = h
branch_out (Some false) a b q h g = g

own_out : (n : ℕ) (l : List ℕ) (q : ℕ) → (n == q) ≡ false → has l q ≡ false → has (n ∷ l) q ≡ false
own_out n l q h g = no_append (n ∷ []) l q (rw h refl) g

mutual
  pub outside : (e : Exec) (t : List Entry) (q : ℕ) → has (nodes e) q ≡ false → has (come_to e t) q ≡ false
  outside (Work n) t q h = h
  outside (Leaf n k) t q h = h
  outside (Plan n es) t q h = no_append (number_or_none n) (come_to_in_order es t) q (no_left (number_or_none n) (nodes_all es) q h) (outside_order es t q (no_right (number_or_none n) (nodes_all es) q h))
  outside (Par n es) t q h = own_out n (come_to_each es t) q (not_first n (nodes_all es) q h) (outside_each es t q (not_rest n (nodes_all es) q h))
  outside (NonSeq n es) t q h =
      own_out n _ q (not_first n (nodes_all es) q h) (picks_out (λ k. come_to_at es k (part_at es k t)) (picks n t) q (λ k g. outside_at es k (part_at es k t) q (not_rest n (nodes_all es) q h)))
  outside (Sel n es) t q h =
      own_out n _ q (not_first n (nodes_all es) q h) (picks_out (λ k. come_to_at es k (part_at es k t)) (picks n t) q (λ k g. outside_at es k (part_at es k t) q (not_rest n (nodes_all es) q h)))
  outside (If n a b) t q h =
      let r : has (nodes a ++ nodes b) q ≡ false = not_rest n (nodes a ++ nodes b) q h in
      own_out n _ q (not_first n (nodes a ++ nodes b) q h)
      (branch_out (first_answer n t) _ _ q (outside a (only (nodes a) t) q (no_left (nodes a) (nodes b) q r)) (outside b (only (nodes b) t) q (no_right (nodes a) (nodes b) q r)))
  outside (While n a) t q h =
      own_out n _ q (not_first n (nodes a) q h) (branch_out (last_answer (turns n t)) _ [] q (outside a (last_body (turns n t)) q (not_rest n (nodes a) q h)) refl)

  pub outside_order : (es : Execs) (t : List Entry) (q : ℕ) → has (nodes_all es) q ≡ false → has (come_to_in_order es t) q ≡ false
  outside_order None_left t q h = refl
  outside_order (Then e es) t q h =
      no_append (come_to e (only (nodes e) t)) _ q (outside e (only (nodes e) t) q (no_left (nodes e) (nodes_all es) q h))
      (cond_out (has_none (next e (only (nodes e) t))) (come_to_in_order es t) q (outside_order es t q (no_right (nodes e) (nodes_all es) q h)))

  pub outside_each : (es : Execs) (t : List Entry) (q : ℕ) → has (nodes_all es) q ≡ false → has (come_to_each es t) q ≡ false
  outside_each None_left t q h = refl
  outside_each (Then e es) t q h =
      no_append (come_to e (only (nodes e) t)) (come_to_each es t) q (outside e (only (nodes e) t) q (no_left (nodes e) (nodes_all es) q h)) (outside_each es t q (no_right (nodes e) (nodes_all es) q h))

  outside_at : (es : Execs) (k : ℕ) (t : List Entry) (q : ℕ) → has (nodes_all es) q ≡ false → has (come_to_at es k t) q ≡ false
  outside_at None_left k t q h = refl
  outside_at (Then e es) zero t q h = outside e t q (no_left (nodes e) (nodes_all es) q h)
  outside_at (Then e es) (suc k) t q h = outside_at es k t q (no_right (nodes e) (nodes_all es) q h)

-- element k has no node of the others
not_its : (es : Execs) (k : ℕ) (t : List Entry) (q : ℕ) → has (nodes_at es k) q ≡ false → has (come_to_at es k t) q ≡ false
not_its None_left k t q h = refl
not_its (Then e es) zero t q h = outside e t q h
not_its (Then e es) (suc k) t q h = not_its es k t q h

pub within : (e : Exec) (t : List Entry) (q : ℕ) → has (come_to e t) q ≡ true → has (nodes e) q ≡ true
within e t q h = go (has (nodes e) q) refl
  where
    go : (b : Bool) → has (nodes e) q ≡ b → has (nodes e) q ≡ true
    go true g = g
    go false g = absurd (clash _ h (outside e t q g))

within_order : (es : Execs) (t : List Entry) (q : ℕ) → has (come_to_in_order es t) q ≡ true → has (nodes_all es) q ≡ true
within_order es t q h = go (has (nodes_all es) q) refl
  where
    go : (b : Bool) → has (nodes_all es) q ≡ b → has (nodes_all es) q ≡ true
    go true g = g
    go false g = absurd (clash _ h (outside_order es t q g))

within_each : (es : Execs) (t : List Entry) (q : ℕ) → has (come_to_each es t) q ≡ true → has (nodes_all es) q ≡ true
within_each es t q h = go (has (nodes_all es) q) refl
  where
    go : (b : Bool) → has (nodes_all es) q ≡ b → has (nodes_all es) q ≡ true
    go true g = g
    go false g = absurd (clash _ h (outside_each es t q g))

pub within_at : (es : Execs) (k : ℕ) (t : List Entry) (q : ℕ) → has (come_to_at es k t) q ≡ true → has (nodes_at es k) q ≡ true
within_at es k t q h = go (has (nodes_at es k) q) refl
  where
    go : (b : Bool) → has (nodes_at es k) q ≡ b → has (nodes_at es k) q ≡ true
    go true g = g
    go false g = absurd (clash _ h (not_its es k t q g))

apart_back : (ms ns : List ℕ) (q : ℕ) → ((x : Entry) → is_of ms x ≡ true → is_of ns x ≡ false) → has ns q ≡ true → has ms q ≡ false
apart_back ms ns q d h = not_true (has ms q) (λ g. clash _ h (d (Note q) g))

-- two elements have no node together
not_another : (es : Execs) (k j : ℕ) (q : ℕ) → ApartAll es → (k == j) ≡ false → has (nodes_at es k) q ≡ true → has (nodes_at es j) q ≡ false
not_another None_left k j q d e h = absurd (cc)
not_another (Then a es) zero zero q d e h = absurd (clash (zero == zero) (let i : (zero == zero) ≡ true = grind (arith, nat_tests) in i) e)
not_another (Then a es) zero (suc j) q d e h = at_outside es j (Note q) (d.2 (Note q) h)
not_another (Then a es) (suc k) zero q d e h = apart_back (nodes a) (nodes_all es) q d.2 (at_inside es k (Note q) h)
not_another (Then a es) (suc k) (suc j) q d e h = not_another es k j q d.1 (let i : (k == j) ≡ false = grind (arith, nat_tests) in i) h

-- of the picks only those of k might be at a node of element k
only_its : (es : Execs) (f : ℕ → List Entry) (ks : List ℕ) (k q : ℕ) → ApartAll es → has (nodes_at es k) q ≡ true → (has ks k ≡ true → has (come_to_at es k (f k)) q ≡ false) → has (of_picks (λ j. come_to_at es j (f j)) ks) q ≡ false
only_its es f ks k q d h g = picks_out (λ j. come_to_at es j (f j)) ks q (λ j i. go j i (k == j) refl)
  where
    go : (j : ℕ) → has ks j ≡ true → (b : Bool) → (k == j) ≡ b → has (come_to_at es j (f j)) q ≡ false
    go j i false e = not_its es j (f j) q (not_another es k j q d e h)
    go j i true e =
        let z : k ≡ j = same_number k j e in
        subst (λ (r : ℕ). has (come_to_at es r (f r)) q ≡ false) z (g (subst (λ (r : ℕ). has ks r ≡ true) (sym z) i))

-- ---- lists with the same parts

same_order_next : (es : Execs) (t u : List Entry) → SameParts es t u → next_in_order es t ≡ next_in_order es u
same_order_next None_left t u h = refl
same_order_next (Then e es) t u h = rw (h.0, same_order_next es t u h.1) refl

same_order_come : (es : Execs) (t u : List Entry) → SameParts es t u → come_to_in_order es t ≡ come_to_in_order es u
same_order_come None_left t u h = refl
same_order_come (Then e es) t u h = rw (h.0, same_order_come es t u h.1) refl

same_each_come : (es : Execs) (t u : List Entry) → SameParts es t u → come_to_each es t ≡ come_to_each es u
same_each_come None_left t u h = refl
same_each_come (Then e es) t u h = rw (h.0, same_each_come es t u h.1) refl

-- ---- what is new

-- q is in the second of two lists, and not in the first or among these
abbrev pub IsNew : List ℕ → List ℕ → List ℕ → ℕ → Type 0
IsNew before after anew q = (has after q ≡ true) × ((has before q ≡ false) ⊎ (has anew q ≡ true))

-- q is new, or the executable is over and q is one of those that are opened then
abbrev pub IsNewOr : List ℕ → List ℕ → List ℕ → List ℕ → List ℕ → ℕ → Type 0
IsNewOr before after anew now out q = IsNew before after anew q ⊎ ((now ≡ []) × (has out q ≡ true))

-- with more around: what is new stays so
wider : (before after anew before' after' anew' now out now' out' : List ℕ) (q : ℕ) → (has after q ≡ true → has after' q ≡ true) → (has after q ≡ true → has before q ≡ false → has before' q ≡ false) → (has anew q ≡ true → has anew' q ≡ true) → (now ≡ [] → has out q ≡ true → IsNewOr before' after' anew' now' out' q) → IsNewOr before after anew now out q → IsNewOr before' after' anew' now' out' q
wider before after anew before' after' anew' now out now' out' q f g h i (inl (a, inl b)) = inl (f a, inl (g a b))
wider before after anew before' after' anew' now out now' out' q f g h i (inl (a, inr b)) = inl (f a, inr (h b))
wider before after anew before' after' anew' now out now' out' q f g h i (inr (a, b)) = i a b

over_cell : (cell : Cell) (l : List ℕ) (n q : ℕ) → has (if_over cell l) q ≡ true → (if_going cell n ≡ []) × (has l q ≡ true)
over_cell Over l n q h = (refl, h)
over_cell (Cutting o) l n q h = absurd (cc)
over_cell Going l n q h = absurd (cc)
over_cell (Picked ks) l n q h = absurd (cc)
over_cell (AnsweredBy o) l n q h = absurd (cc)
over_cell (Left k) l n q h = absurd (cc)

-- q isn't n where it is in a list that n isn't in
pub not_own : (n : ℕ) (l : List ℕ) (q : ℕ) → has l n ≡ false → has l q ≡ true → (n == q) ≡ false
not_own n l q o h = not_true (n == q) (λ e. clash _ h (subst (λ (r : ℕ). has l r ≡ false) (same_number n q e) o))

-- ---- a parallel

none_goes : (es : Execs) (t : List Entry) (x : Entry) → ApartAll es → EachPart es t → StepOfOne es t x → going es t ≡ 1 → next_of_one es x (t ++ x ∷ []) ≡ [] → next_each es (t ++ x ∷ []) ≡ []
none_goes es t x d p q one over =
    let a = left_moves es t x d p q in
    let b : one_where (next_of_one es x (t ++ x ∷ [])) ≡ 0 = ap one_where over in
    nobody es (t ++ x ∷ []) (omega (arith, a, b, one))

one_goes : (es : Execs) (t : List Entry) (x : Entry) → ApartAll es → EachPart es t → StepOfOne es t x → going es t ≤ 1 → next_of_one es x (t ++ x ∷ []) ≡ [] → next_each es (t ++ x ∷ []) ≡ []
one_goes es t x d p q few over =
    let a = left_moves es t x d p q in
    let b : one_where (next_of_one es x (t ++ x ∷ [])) ≡ 0 = ap one_where over in
    nobody es (t ++ x ∷ []) (omega (arith, a, b, few))

par_over : (c : ℕ → Cell) (n : ℕ) (es : Execs) (t : List Entry) (x : Entry) (out : List ℕ) (q : ℕ) → ApartAll es → EachPart es t → StepOfOne es t x → next_of_one es x (t ++ x ∷ []) ≡ [] → (b : Bool) → is_shared es ≡ b → WhereTrue b (c n ≡ Left (going es t)) (Unit {0}) → has (if b then (if left (c n) == 1 then out else []) else out) q ≡ true → (next_each es (t ++ x ∷ []) ≡ []) × (has out q ≡ true)
par_over c n es t x out q d p s over true e w h =
    let z = cond_in (left (c n) == 1) out q h in
    let one : going es t ≡ 1 = sym (ap left w) ∙ same_number (left (c n)) 1 z.0 in
    (none_goes es t x d p s one over, z.1)
par_over c n es t x out q d p s over false e w h =
    let a = going_at_most es t d p in
    let b = not_shared (going es []) e in
    (one_goes es t x d p s (omega (arith, a, b)) over, h)

-- ---- a non-sequential

over_after : (l : List ℕ) (b : Bool) (n : ℕ) → l ≡ [] → b ≡ true → first_of_two l (if b then [] else n ∷ []) ≡ []
over_after l b n e f = rw (e, f) refl

last_has : (ks : List ℕ) (k : ℕ) → has (ks ++ k ∷ []) k ≡ true
last_has ks k = yes_right ks (k ∷ []) k (here k k [] refl)

pick_new : (c : ℕ → Cell) (n : ℕ) (es : Execs) (t : List Entry) (x : Entry) (out rest : List ℕ) (q : ℕ) → has (nodes_all es) n ≡ false → ApartAll es → t ≡ visits n es t (picks n t) → c n ≡ Picked (picks n t) → (o : Option ℕ) → pick_of n x ≡ o → IsSomeAnd o (λ k. (k < count es) × (has (picks n t) k ≡ false)) → has (if_some o (λ k. come_to_at es k [] ++ (if has_none (next_at es k []) then (if length (picked (c n)) + 1 == count es then out else []) else [])) rest) q ≡ true → IsNewOr (come_to (NonSeq n es) t) (come_to (NonSeq n es) (t ++ x ∷ [])) (turned (NonSeq n es) x) (next (NonSeq n es) (t ++ x ∷ [])) out q
pick_new c n es t x out rest q own d v s None e p h = absurd p
pick_new c n es t x out rest q own d v s (Some k) e p h =
    let f : ℕ → List ℕ = λ i. next_at es i (part_at es i (t ++ x ∷ [])) in
    let g : ℕ → List ℕ = λ i. come_to_at es i (part_at es i (t ++ x ∷ [])) in
    let more : picks n (t ++ x ∷ []) ≡ picks n t ++ k ∷ [] = picks_more n t x k e in
    let gone : is_of (nodes_all es) x ≡ false = subst (λ (w : Entry). is_of (nodes_all es) w ≡ false) (sym (pick_is n x k e)) own in
    let emp : part_at es k (t ++ x ∷ []) ≡ [] =
    only_out (nodes_at es k) t x (at_outside es k x gone) ∙ (ap (λ (w : List Entry). only (nodes_at es k) w) v ∙ visits_without n es t (picks n t) k own d p.1) in
    let len : length (picks n t ++ k ∷ []) ≡ length (picked (c n)) + 1 = length_more (picks n t) k ∙ ap (λ (w : Cell). length (picked w) + 1) (sym s) in
    elim (yes_either (come_to_at es k []) _ q h) [
      | inl i ↦
          let inside : has (nodes_at es k) q ≡ true = within_at es k [] q i in
          let there : has (of_picks g (picks n (t ++ x ∷ []))) q ≡ true =
          subst (λ (ks : List ℕ). has (of_picks g ks) q ≡ true) (sym more)
          (picks_in g (picks n t ++ k ∷ []) k q (last_has (picks n t) k) (subst (λ (u : List Entry). has (come_to_at es k u) q ≡ true) (sym emp) i)) in
          inl (
            yes_right (n ∷ []) (of_picks g (picks n (t ++ x ∷ []))) q there,
            inl (own_out n _ q (not_own n (nodes_all es) q own (at_inside es k (Note q) inside))
                (only_its es (λ j. part_at es j t) (picks n t) k q d inside (λ r. absurd (clash _ r p.1)))),
          )
      | inr i ↦
          let y = cond_in (has_none (next_at es k [])) _ q i in
          let z = cond_in (length (picked (c n)) + 1 == count es) out q y.1 in
          let last : next_of_last f (picks n (t ++ x ∷ [])) ≡ [] =
          ap (next_of_last f) more ∙ (of_last_more f (picks n t) k ∙ (ap (next_at es k) emp ∙ empty_is (next_at es k []) y.0)) in
          let all_of : (length (picks n (t ++ x ∷ [])) == count es) ≡ true = ap (λ (ks : List ℕ). length ks == count es) more ∙ (ap (λ (i : ℕ). i == count es) len ∙ z.0) in
          inr (over_after _ _ n last all_of, z.1)
    ]

-- the element that was picked last, and its place
last_picked : (whole part said step : ℕ → Type 0) (G : Type 0) (ks : List ℕ) → ((k : ℕ) → part k → said k → step k → has ks k ≡ true → ((f : ℕ → List ℕ) → next_of_last f ks ≡ f k) → G) → LastMayBeCut whole part ks → OfLast said ks → AtLast step ks → G
last_picked whole part said step G [] h p s q = absurd q
last_picked whole part said step G (k ∷ []) h p s q = h k p s q (here k k [] refl) (λ f. refl)
last_picked whole part said step G (k ∷ j ∷ ks) h p s q =
    last_picked whole part said step G (j ∷ ks) (λ i a b l m n. h i a b l (yes_right (k ∷ []) (j ∷ ks) i m) n) p.1 s q

-- ---- a selective

single : (ns : List ℕ) (t : List Entry) (x : Entry) → AllOf ns t → is_of ns x ≡ true → AllOf ns (t ++ x ∷ [])
single ns t x a h = AllOf-append ns t (x ∷ []) a (h, tt)

sel_new : (n : ℕ) (es : Execs) (x : Entry) (out rest : List ℕ) (q : ℕ) → has (nodes_all es) n ≡ false → (o : Option ℕ) → pick_of n x ≡ o → IsSomeAnd o (λ k. (k < count es) × (has [] k ≡ false)) → has (if_some o (λ k. come_to_at es k [] ++ (if has_none (next_at es k []) then out else [])) rest) q ≡ true → IsNewOr (n ∷ []) (n ∷ of_picks (λ k. come_to_at es k (part_at es k (x ∷ []))) (cons_option o [])) (turned_all es x) (next_after (λ k u. next_at es k u) o []) out q
sel_new n es x out rest q own None e p h = absurd p
sel_new n es x out rest q own (Some k) e p h =
    let gone : is_of (nodes_all es) x ≡ false = subst (λ (w : Entry). is_of (nodes_all es) w ≡ false) (sym (pick_is n x k e)) own in
    let emp : part_at es k (x ∷ []) ≡ [] = only_out (nodes_at es k) [] x (at_outside es k x gone) in
    elim (yes_either (come_to_at es k []) _ q h) [
      | inl i ↦
          inl (
            yes_right (n ∷ []) (come_to_at es k (part_at es k (x ∷ [])) ++ []) q
                (yes_left (come_to_at es k (part_at es k (x ∷ []))) [] q (subst (λ (u : List Entry). has (come_to_at es k u) q ≡ true) (sym emp) i)),
            inl (own_out n [] q (not_own n (nodes_all es) q own (at_inside es k (Note q) (within_at es k [] q i))) refl),
          )
      | inr i ↦ let y = cond_in (has_none (next_at es k [])) out q i in inr (empty_is (next_at es k []) y.0, y.1)
    ]

sel_later : (c : ℕ → Cell) (n : ℕ) (es : Execs) (y : Entry) (t : List Entry) (x : Entry) (out : List ℕ) (q : ℕ) → has (nodes_all es) n ≡ false → ApartAll es → ((k : ℕ) → PartAt es k t → StepAt es k t x → StandsAt c es k t → IsNewOr (come_to_at es k t) (come_to_at es k (t ++ x ∷ [])) (turned_all es x) (next_at es k (t ++ x ∷ [])) out q) → (o : Option ℕ) → pick_of n y ≡ o → IsSomeAnd o (λ k. PartAt es k t) → IsSomeAnd o (λ k. StepAt es k t x) → OfFirst (λ k. StandsAt c es k (part_at es k (y ∷ t))) (cons_option o (picks n t)) → IsNewOr (n ∷ of_picks (λ k. come_to_at es k (part_at es k (y ∷ t))) (cons_option o (picks n t))) (n ∷ of_picks (λ k. come_to_at es k (part_at es k (y ∷ (t ++ x ∷ [])))) (cons_option o (picks n (t ++ x ∷ [])))) (turned_all es x) (next_after (λ k u. next_at es k u) o (t ++ x ∷ [])) out q
sel_later c n es y t x out q own d rec None e p s w = absurd p
sel_later c n es y t x out q own d rec (Some k) e p s w =
    let gone : is_of (nodes_at es k) y ≡ false = at_outside es k y (subst (λ (w : Entry). is_of (nodes_all es) w ≡ false) (sym (pick_is n y k e)) own) in
    let part : part_at es k (y ∷ t) ≡ t = only_rest (nodes_at es k) y t gone (part_inside_at es k t p) in
    let part' : part_at es k (y ∷ (t ++ x ∷ [])) ≡ t ++ x ∷ [] =
    only_rest (nodes_at es k) y (t ++ x ∷ []) gone (single (nodes_at es k) t x (part_inside_at es k t p) (inside_at es k t x d p s)) in
    wider (come_to_at es k t) (come_to_at es k (t ++ x ∷ [])) (turned_all es x) (n ∷ of_picks (λ j. come_to_at es j (part_at es j (y ∷ t))) (k ∷ picks n t)) (n ∷ of_picks (λ j. come_to_at es j (part_at es j (y ∷ (t ++ x ∷ [])))) (k ∷ picks n (t ++ x ∷ []))) (turned_all es x) (next_at es k (t ++ x ∷ [])) out (next_at es k (t ++ x ∷ [])) out q
    (λ h. yes_right (n ∷ []) (of_picks (λ j. come_to_at es j (part_at es j (y ∷ (t ++ x ∷ [])))) (k ∷ picks n (t ++ x ∷ []))) q (yes_left (come_to_at es k (part_at es k (y ∷ (t ++ x ∷ [])))) (of_picks (λ j. come_to_at es j (part_at es j (y ∷ (t ++ x ∷ [])))) (picks n (t ++ x ∷ []))) q (subst (λ (u : List Entry). has (come_to_at es k u) q ≡ true) (sym part') h)))
    (λ h g.
    let inside : has (nodes_at es k) q ≡ true = within_at es k (t ++ x ∷ []) q h in
    own_out n _ q (not_own n (nodes_all es) q own (at_inside es k (Note q) inside))
    (only_its es (λ j. part_at es j (y ∷ t)) (k ∷ picks n t) k q d inside (λ r. subst (λ (u : List Entry). has (come_to_at es k u) q ≡ false) (sym part) g)))
    (λ h. h) (λ a b. inr (a, b)) (rec k p s (subst (StandsAt c es k) part w))

-- ---- an if

if_new : (n : ℕ) (a b : Exec) (x : Entry) (out rest : List ℕ) (q : ℕ) → has (nodes a ++ nodes b) n ≡ false → (o : Option Bool) → test_of n x ≡ o → IsSomeAnd o (λ k. ⊤) → has (if_some o (λ ans. come_to (if ans then a else b) [] ++ (if has_none (next (if ans then a else b) []) then out else [])) rest) q ≡ true → IsNewOr (n ∷ []) (n ∷ of_branch o (come_to a (only (nodes a) (x ∷ []))) (come_to b (only (nodes b) (x ∷ [])))) (turned a x ++ turned b x) (next_after (next_answered (λ u. next a u) (λ u. next b u)) o []) out q
if_new n a b x out rest q own None e p h = absurd p
if_new n a b x out rest q own (Some true) e p h =
    let gone : is_of (nodes a ++ nodes b) x ≡ false = test_out n (nodes a ++ nodes b) x true own e in
    let emp : only (nodes a) (x ∷ []) ≡ [] = only_out (nodes a) [] x (not_of_left (nodes a) (nodes b) x gone) in
    elim (yes_either (come_to a []) _ q h) [
      | inl i ↦
          inl (
            yes_right (n ∷ []) (come_to a (only (nodes a) (x ∷ []))) q (subst (λ (u : List Entry). has (come_to a u) q ≡ true) (sym emp) i),
            inl (own_out n [] q (not_own n (nodes a ++ nodes b) q own (yes_left (nodes a) (nodes b) q (within a [] q i))) refl),
          )
      | inr i ↦ let y = cond_in (has_none (next a [])) out q i in inr (empty_is (next a []) y.0, y.1)
    ]
if_new n a b x out rest q own (Some false) e p h =
    let gone : is_of (nodes a ++ nodes b) x ≡ false = test_out n (nodes a ++ nodes b) x false own e in
    let emp : only (nodes b) (x ∷ []) ≡ [] = only_out (nodes b) [] x (not_of_right (nodes a) (nodes b) x gone) in
    elim (yes_either (come_to b []) _ q h) [
      | inl i ↦
          inl (
            yes_right (n ∷ []) (come_to b (only (nodes b) (x ∷ []))) q (subst (λ (u : List Entry). has (come_to b u) q ≡ true) (sym emp) i),
            inl (own_out n [] q (not_own n (nodes a ++ nodes b) q own (yes_right (nodes a) (nodes b) q (within b [] q i))) refl),
          )
      | inr i ↦ let y = cond_in (has_none (next b [])) out q i in inr (empty_is (next b []) y.0, y.1)
    ]

if_later : (c : ℕ → Cell) (n : ℕ) (a b : Exec) (y : Entry) (t : List Entry) (x : Entry) (out : List ℕ) (q : ℕ) → has (nodes a ++ nodes b) n ≡ false → Apart a → Apart b → ((z : Entry) → is_of (nodes a) z ≡ true → is_of (nodes b) z ≡ false) → (Part a t → Step a t x → Stands c a t → has (opens c a x out) q ≡ true → IsNewOr (come_to a t) (come_to a (t ++ x ∷ [])) (turned a x) (next a (t ++ x ∷ [])) out q) → (Part b t → Step b t x → Stands c b t → has (opens c b x out) q ≡ true → IsNewOr (come_to b t) (come_to b (t ++ x ∷ [])) (turned b x) (next b (t ++ x ∷ [])) out q) → (o : Option Bool) → test_of n y ≡ o → IsSomeAnd o (λ z. Answered (λ u. Part a u) (λ u. Part b u) z t) → IsSomeAnd o (λ z. Answered (λ u. Step a u x) (λ u. Step b u x) z t) → OfBranch o (Stands c a (only (nodes a) (y ∷ t))) (Stands c b (only (nodes b) (y ∷ t))) → has (opens c (If n a b) x out) q ≡ true → IsNewOr (n ∷ of_branch o (come_to a (only (nodes a) (y ∷ t))) (come_to b (only (nodes b) (y ∷ t)))) (n ∷ of_branch o (come_to a (only (nodes a) (y ∷ (t ++ x ∷ [])))) (come_to b (only (nodes b) (y ∷ (t ++ x ∷ []))))) (turned a x ++ turned b x) (next_after (next_answered (λ u. next a u) (λ u. next b u)) o (t ++ x ∷ [])) out q
if_later c n a b y t x out q own da db across rec1 rec2 None e p s w h = absurd p
if_later c n a b y t x out q own da db across rec1 rec2 (Some true) e p s w h =
    let inside : is_of (nodes a) x ≡ true = step_inside a t x (part_of_step a t x da p s) in
    let gone : is_of (nodes a) y ≡ false = not_of_left (nodes a) (nodes b) y (test_out n _ y true own e) in
    let none : test_of n x ≡ None = no_test n (nodes a) x (not_of_left (nodes a) (nodes b) (Note n) own) inside (test_of n x) refl in
    let part : only (nodes a) (y ∷ t) ≡ t = only_rest (nodes a) y t gone (part_inside a t p) in
    let part' : only (nodes a) (y ∷ (t ++ x ∷ [])) ≡ t ++ x ∷ [] = only_rest (nodes a) y (t ++ x ∷ []) gone (single (nodes a) t x (part_inside a t p) inside) in
    let as_a : opens c (If n a b) x out ≡ opens c a x out = if_some_none (test_of n x) _ _ none ∙ rw inside refl in
    wider (come_to a t) (come_to a (t ++ x ∷ [])) (turned a x) (n ∷ come_to a (only (nodes a) (y ∷ t))) (n ∷ come_to a (only (nodes a) (y ∷ (t ++ x ∷ [])))) (turned a x ++ turned b x) (next a (t ++ x ∷ [])) out (next a (t ++ x ∷ [])) out q
    (λ g. yes_right (n ∷ []) (come_to a (only (nodes a) (y ∷ (t ++ x ∷ [])))) q (subst (λ (u : List Entry). has (come_to a u) q ≡ true) (sym part') g))
    (λ g i. own_out n _ q (not_own n (nodes a ++ nodes b) q own (yes_left (nodes a) (nodes b) q (within a (t ++ x ∷ []) q g))) (subst (λ (u : List Entry). has (come_to a u) q ≡ false) (sym part) i))
    (λ g. yes_left (turned a x) (turned b x) q g) (λ g i. inr (g, i))
    (rec1 p s (subst (Stands c a) part w) (subst (λ (l : List ℕ). has l q ≡ true) as_a h))
if_later c n a b y t x out q own da db across rec1 rec2 (Some false) e p s w h =
    let inside : is_of (nodes b) x ≡ true = step_inside b t x (part_of_step b t x db p s) in
    let outside_a : is_of (nodes a) x ≡ false = not_true (is_of (nodes a) x) (λ f. clash _ inside (across x f)) in
    let gone : is_of (nodes b) y ≡ false = not_of_right (nodes a) (nodes b) y (test_out n _ y false own e) in
    let none : test_of n x ≡ None = no_test n (nodes b) x (not_of_right (nodes a) (nodes b) (Note n) own) inside (test_of n x) refl in
    let part : only (nodes b) (y ∷ t) ≡ t = only_rest (nodes b) y t gone (part_inside b t p) in
    let part' : only (nodes b) (y ∷ (t ++ x ∷ [])) ≡ t ++ x ∷ [] = only_rest (nodes b) y (t ++ x ∷ []) gone (single (nodes b) t x (part_inside b t p) inside) in
    let as_b : opens c (If n a b) x out ≡ opens c b x out = if_some_none (test_of n x) _ _ none ∙ rw outside_a refl in
    wider (come_to b t) (come_to b (t ++ x ∷ [])) (turned b x) (n ∷ come_to b (only (nodes b) (y ∷ t))) (n ∷ come_to b (only (nodes b) (y ∷ (t ++ x ∷ [])))) (turned a x ++ turned b x) (next b (t ++ x ∷ [])) out (next b (t ++ x ∷ [])) out q
    (λ g. yes_right (n ∷ []) (come_to b (only (nodes b) (y ∷ (t ++ x ∷ [])))) q (subst (λ (u : List Entry). has (come_to b u) q ≡ true) (sym part') g))
    (λ g i. own_out n _ q (not_own n (nodes a ++ nodes b) q own (yes_right (nodes a) (nodes b) q (within b (t ++ x ∷ []) q g))) (subst (λ (u : List Entry). has (come_to b u) q ≡ false) (sym part) i))
    (λ g. yes_right (turned a x) (turned b x) q g) (λ g i. inr (g, i))
    (rec2 p s (subst (Stands c b) part w) (subst (λ (l : List ℕ). has l q ≡ true) as_b h))

-- ---- a while

answer_more : (ts : List Turn) (b : Bool) → last_answer (ts ++ Tested b [] ∷ []) ≡ Some b
answer_more [] b = refl
answer_more (Tested a t ∷ []) b = refl
answer_more (r ∷ s ∷ rest) b = answer_more (s ∷ rest) b

body_more : (ts : List Turn) (b : Bool) → last_body (ts ++ Tested b [] ∷ []) ≡ []
body_more [] b = refl
body_more (Tested a t ∷ []) b = refl
body_more (r ∷ s ∷ rest) b = body_more (s ∷ rest) b

no_more : (n : ℕ) (f : List Entry → List ℕ) (ts : List Turn) → next_loop n f (ts ++ Tested false [] ∷ []) ≡ []
no_more n f [] = refl
no_more n f (Tested a t ∷ []) = refl
no_more n f (r ∷ s ∷ rest) = no_more n f (s ∷ rest)

last_turn : (whole part step said : List Entry → Type 0) (test : Type 0) (G : List Entry → Type 0) (ts : List Turn) → (test → ⊥) → ((u : List Entry) → part u → step u → said u → G u) → IsLoopSoFar whole part ts → StepLoop test whole step ts → OfBranch (last_answer ts) (said (last_body ts)) (Unit {0}) → G (last_body ts) × (last_answer ts ≡ Some true) × (ts ≡ [] → ⊥)
last_turn whole part step said test G [] f h p q s = absurd (f q)
last_turn whole part step said test G (Tested true t ∷ []) f h p (inl q) s = absurd (f q.0)
last_turn whole part step said test G (Tested true t ∷ []) f h p (inr q) s = (h t p q s, refl, λ e. absurd (cc))
last_turn whole part step said test G (Tested false t ∷ []) f h p q s = absurd q
last_turn whole part step said test G (Tested true t ∷ r ∷ rest) f h p q s =
    let z = last_turn whole part step said test G (r ∷ rest) f h p.1 q s in (z.0, z.1, λ e. absurd (cc))
last_turn whole part step said test G (Tested false t ∷ r ∷ rest) f h p q s = absurd p

while_new : (c : ℕ → Cell) (n : ℕ) (a : Exec) (t : List Entry) (x : Entry) (out : List ℕ) (q : ℕ) → has (nodes a) n ≡ false → ((u : List Entry) → Part a u → Step a u x → Stands c a u → has (opens c a x []) q ≡ true → IsNewOr (come_to a u) (come_to a (u ++ x ∷ [])) (turned a x) (next a (u ++ x ∷ [])) [] q) → IsLoopSoFar (λ u. Whole a u) (λ u. Part a u) (turns n t) → StepLoop (IsTest n x) (λ u. Whole a u) (λ u. Step a u x) (turns n t) → OfBranch (last_answer (turns n t)) (Stands c a (last_body (turns n t))) (Unit {0}) → (o : Option Bool) → test_of n x ≡ o → has (if_some o (λ ans. if ans then come_to a [] else out) (opens c a x [])) q ≡ true → IsNewOr (come_to (While n a) t) (come_to (While n a) (t ++ x ∷ [])) (body_after o (nodes a) (turned a x)) (next (While n a) (t ++ x ∷ [])) out q
while_new c n a t x out q own rec p s w (Some true) e h =
    let more : turns n (t ++ x ∷ []) ≡ turns n t ++ Tested true [] ∷ [] = turns_test n t x true e in
    let same : of_branch (last_answer (turns n (t ++ x ∷ []))) (come_to a (last_body (turns n (t ++ x ∷ [])))) [] ≡ come_to a [] =
    ap (λ (ts : List Turn). of_branch (last_answer ts) (come_to a (last_body ts)) []) more
    ∙ (ap (λ (k : Option Bool). of_branch k (come_to a (last_body (turns n t ++ Tested true [] ∷ []))) []) (answer_more (turns n t) true) ∙ ap (come_to a) (body_more (turns n t) true)) in
    inl (yes_right (n ∷ []) _ q (subst (λ (l : List ℕ). has l q ≡ true) (sym same) h), inr (within a [] q h))
while_new c n a t x out q own rec p s w (Some false) e h =
    let more : turns n (t ++ x ∷ []) ≡ turns n t ++ Tested false [] ∷ [] = turns_test n t x false e in
    inr (ap (next_loop n (λ u. next a u)) more ∙ no_more n (λ u. next a u) (turns n t), h)
while_new c n a t x out q own rec p s w None e h =
    let z = last_turn (λ u. Whole a u) (λ u. Part a u) (λ u. Step a u x) (λ u. Stands c a u) (IsTest n x) (λ u. IsNewOr (come_to a u) (come_to a (u ++ x ∷ [])) (turned a x) (next a (u ++ x ∷ [])) [] q) (turns n t)
    (λ f. no_answer (test_of n x) e f) (λ u i j k. rec u i j k h) p s w in
    let more : turns n (t ++ x ∷ []) ≡ longer (turns n t) x = turns_other n t x e in
    let before : of_branch (last_answer (turns n t)) (come_to a (last_body (turns n t))) [] ≡ come_to a (last_body (turns n t)) =
    ap (λ (k : Option Bool). of_branch k (come_to a (last_body (turns n t))) []) z.1 in
    let after : of_branch (last_answer (turns n (t ++ x ∷ []))) (come_to a (last_body (turns n (t ++ x ∷ [])))) [] ≡ come_to a (last_body (turns n t) ++ x ∷ []) =
    ap (λ (ts : List Turn). of_branch (last_answer ts) (come_to a (last_body ts)) []) more
    ∙ (ap (λ (k : Option Bool). of_branch k (come_to a (last_body (longer (turns n t) x))) []) (last_answer_longer (turns n t) x ∙ z.1) ∙ ap (come_to a) (last_body_longer (turns n t) x z.2)) in
    wider (come_to a (last_body (turns n t))) (come_to a (last_body (turns n t) ++ x ∷ [])) (turned a x) (come_to (While n a) t) (come_to (While n a) (t ++ x ∷ [])) (turned a x) (next a (last_body (turns n t) ++ x ∷ [])) [] (next (While n a) (t ++ x ∷ [])) out q
    (λ g. yes_right (n ∷ []) (of_branch (last_answer (turns n (t ++ x ∷ []))) (come_to a (last_body (turns n (t ++ x ∷ [])))) []) q (subst (λ (l : List ℕ). has l q ≡ true) (sym after) g))
    (λ g i. own_out n _ q (not_own n (nodes a) q own (within a (last_body (turns n t) ++ x ∷ []) q g)) (subst (λ (l : List ℕ). has l q ≡ false) (sym before) i))
    (λ g. g) (λ g i. absurd (clash (has [] q) i refl)) z.0

-- ---- elements

sel_as : (c : ℕ → Cell) (n : ℕ) (es : Execs) (y : Entry) (t : List Entry) (x : Entry) (out : List ℕ) → has (nodes_all es) n ≡ false → ApartAll es → (k : ℕ) → PartAt es k t → StepAt es k t x → opens c (Sel n es) x out ≡ opens_among c es x out
sel_as c n es y t x out own d k p s = if_some_none (pick_of n x) _ _ (no_pick n (nodes_all es) x own (at_inside es k x (inside_at es k t x d p s)) (pick_of n x) refl)

order_first : (a : Exec) (es : Execs) (t : List Entry) (x : Entry) (out : List ℕ) (q : ℕ) → ((z : Entry) → is_of (nodes a) z ≡ true → is_of (nodes_all es) z ≡ false) → is_of (nodes a) x ≡ true → joined es t ≡ [] → (next a (only (nodes a) t) ≡ [] → ⊥) → IsNewOr (come_to a (only (nodes a) t)) (come_to a (only (nodes a) t ++ x ∷ [])) (turned a x) (next a (only (nodes a) t ++ x ∷ [])) (if has_none (next_in_order es []) then out else come_to_in_order es []) q → IsNewOr (come_to_in_order (Then a es) t) (come_to_in_order (Then a es) (t ++ x ∷ [])) (turned a x ++ turned_all es x) (next_in_order (Then a es) (t ++ x ∷ [])) out q
order_first a es t x out q across inside none going_on z =
    let u : List Entry = only (nodes a) t in
    let now : only (nodes a) (t ++ x ∷ []) ≡ u ++ x ∷ [] = only_in (nodes a) t x inside in
    let parts : SameParts es [] (t ++ x ∷ []) = nil_parts es t x none (across x inside) in
    let before : come_to_in_order (Then a es) t ≡ come_to a u ++ [] = ap (λ (b : Bool). come_to a u ++ (if b then come_to_in_order es t else [])) (some_none (next a u) going_on) in
    wider (come_to a u) (come_to a (u ++ x ∷ [])) (turned a x) (come_to_in_order (Then a es) t) (come_to_in_order (Then a es) (t ++ x ∷ [])) (turned a x ++ turned_all es x) (next a (u ++ x ∷ [])) (if has_none (next_in_order es []) then out else come_to_in_order es []) (next_in_order (Then a es) (t ++ x ∷ [])) out q
    (λ g. yes_left (come_to a (only (nodes a) (t ++ x ∷ []))) (if has_none (next a (only (nodes a) (t ++ x ∷ []))) then come_to_in_order es (t ++ x ∷ []) else []) q (subst (λ (v : List Entry). has (come_to a v) q ≡ true) (sym now) g))
    (λ g i. subst (λ (l : List ℕ). has l q ≡ false) (sym before) (no_append (come_to a u) [] q i refl))
    (λ g. yes_left (turned a x) (turned_all es x) q g)
    (λ over g.
    let done : next a (only (nodes a) (t ++ x ∷ [])) ≡ [] = ap (next a) now ∙ over in
    let after : come_to_in_order (Then a es) (t ++ x ∷ []) ≡ come_to a (only (nodes a) (t ++ x ∷ [])) ++ come_to_in_order es [] =
    ap (λ (b : Bool). come_to a (only (nodes a) (t ++ x ∷ [])) ++ (if b then come_to_in_order es (t ++ x ∷ []) else [])) (is_empty _ done)
    ∙ ap (λ (l : List ℕ). come_to a (only (nodes a) (t ++ x ∷ [])) ++ l) (sym (same_order_come es [] (t ++ x ∷ []) parts)) in
    go done after before (has_none (next_in_order es [])) refl g) z
  where
    go : next a (only (nodes a) (t ++ x ∷ [])) ≡ [] → come_to_in_order (Then a es) (t ++ x ∷ []) ≡ come_to a (only (nodes a) (t ++ x ∷ [])) ++ come_to_in_order es [] → come_to_in_order (Then a es) t ≡ come_to a (only (nodes a) t) ++ [] → (b : Bool) → has_none (next_in_order es []) ≡ b → has (if b then out else come_to_in_order es []) q ≡ true → IsNewOr (come_to_in_order (Then a es) t) (come_to_in_order (Then a es) (t ++ x ∷ [])) (turned a x ++ turned_all es x) (next_in_order (Then a es) (t ++ x ∷ [])) out q
    go done after before true e g =
        let rest : next_in_order es (t ++ x ∷ []) ≡ [] = sym (same_order_next es [] (t ++ x ∷ []) (nil_parts es t x none (across x inside))) ∙ empty_is _ e in
        inr (ap (λ (l : List ℕ). first_of_two l (next_in_order es (t ++ x ∷ []))) done ∙ rest, g)
    go done after before false e g = inl (
      subst (λ (l : List ℕ). has l q ≡ true) (sym after) (yes_right (come_to a (only (nodes a) (t ++ x ∷ []))) (come_to_in_order es []) q g),
      inl (subst (λ (l : List ℕ). has l q ≡ false) (sym before)
          (no_append (come_to a (only (nodes a) t)) [] q (outside a (only (nodes a) t) q (apart_back (nodes a) (nodes_all es) q across (within_order es [] q g))) refl)),
    )

order_rest : (a : Exec) (es : Execs) (t : List Entry) (x : Entry) (out : List ℕ) (q : ℕ) → ((z : Entry) → is_of (nodes a) z ≡ true → is_of (nodes_all es) z ≡ false) → is_of (nodes a) x ≡ false → next a (only (nodes a) t) ≡ [] → IsNewOr (come_to_in_order es t) (come_to_in_order es (t ++ x ∷ [])) (turned_all es x) (next_in_order es (t ++ x ∷ [])) out q → IsNewOr (come_to_in_order (Then a es) t) (come_to_in_order (Then a es) (t ++ x ∷ [])) (turned a x ++ turned_all es x) (next_in_order (Then a es) (t ++ x ∷ [])) out q
order_rest a es t x out q across gone over z =
    let u : List Entry = only (nodes a) t in
    let now : only (nodes a) (t ++ x ∷ []) ≡ u = only_out (nodes a) t x gone in
    let done : next a (only (nodes a) (t ++ x ∷ [])) ≡ [] = ap (next a) now ∙ over in
    let before : come_to_in_order (Then a es) t ≡ come_to a u ++ come_to_in_order es t = ap (λ (b : Bool). come_to a u ++ (if b then come_to_in_order es t else [])) (is_empty (next a u) over) in
    let after : come_to_in_order (Then a es) (t ++ x ∷ []) ≡ come_to a (only (nodes a) (t ++ x ∷ [])) ++ come_to_in_order es (t ++ x ∷ []) =
    ap (λ (b : Bool). come_to a (only (nodes a) (t ++ x ∷ [])) ++ (if b then come_to_in_order es (t ++ x ∷ []) else [])) (is_empty _ done) in
    wider (come_to_in_order es t) (come_to_in_order es (t ++ x ∷ [])) (turned_all es x) (come_to_in_order (Then a es) t) (come_to_in_order (Then a es) (t ++ x ∷ [])) (turned a x ++ turned_all es x) (next_in_order es (t ++ x ∷ [])) out (next_in_order (Then a es) (t ++ x ∷ [])) out q
    (λ g. subst (λ (l : List ℕ). has l q ≡ true) (sym after) (yes_right (come_to a (only (nodes a) (t ++ x ∷ []))) (come_to_in_order es (t ++ x ∷ [])) q g))
    (λ g i. subst (λ (l : List ℕ). has l q ≡ false) (sym before)
    (no_append (come_to a u) (come_to_in_order es t) q (outside a u q (apart_back (nodes a) (nodes_all es) q across (within_order es (t ++ x ∷ []) q g))) i))
    (λ g. yes_right (turned a x) (turned_all es x) q g)
    (λ g i. inr (ap (λ (l : List ℕ). first_of_two l (next_in_order es (t ++ x ∷ []))) done ∙ g, i)) z

each_first : (a : Exec) (es : Execs) (t : List Entry) (x : Entry) (out : List ℕ) (q : ℕ) → ((z : Entry) → is_of (nodes a) z ≡ true → is_of (nodes_all es) z ≡ false) → is_of (nodes a) x ≡ true → IsNewOr (come_to a (only (nodes a) t)) (come_to a (only (nodes a) t ++ x ∷ [])) (turned a x) (next a (only (nodes a) t ++ x ∷ [])) out q → IsNewOr (come_to_each (Then a es) t) (come_to_each (Then a es) (t ++ x ∷ [])) (turned a x ++ turned_all es x) (next_of_one (Then a es) x (t ++ x ∷ [])) out q
each_first a es t x out q across inside z =
    let u : List Entry = only (nodes a) t in
    let now : only (nodes a) (t ++ x ∷ []) ≡ u ++ x ∷ [] = only_in (nodes a) t x inside in
    wider (come_to a u) (come_to a (u ++ x ∷ [])) (turned a x) (come_to_each (Then a es) t) (come_to_each (Then a es) (t ++ x ∷ [])) (turned a x ++ turned_all es x) (next a (u ++ x ∷ [])) out (next_of_one (Then a es) x (t ++ x ∷ [])) out q
    (λ g. yes_left (come_to a (only (nodes a) (t ++ x ∷ []))) (come_to_each es (t ++ x ∷ [])) q (subst (λ (v : List Entry). has (come_to a v) q ≡ true) (sym now) g))
    (λ g i. no_append (come_to a u) (come_to_each es t) q i (outside_each es t q (across (Note q) (within a (u ++ x ∷ []) q g))))
    (λ g. yes_left (turned a x) (turned_all es x) q g)
    (λ g i. inr (rw inside (ap (next a) now ∙ g), i)) z

each_rest : (a : Exec) (es : Execs) (t : List Entry) (x : Entry) (out : List ℕ) (q : ℕ) → ((z : Entry) → is_of (nodes a) z ≡ true → is_of (nodes_all es) z ≡ false) → is_of (nodes a) x ≡ false → IsNewOr (come_to_each es t) (come_to_each es (t ++ x ∷ [])) (turned_all es x) (next_of_one es x (t ++ x ∷ [])) out q → IsNewOr (come_to_each (Then a es) t) (come_to_each (Then a es) (t ++ x ∷ [])) (turned a x ++ turned_all es x) (next_of_one (Then a es) x (t ++ x ∷ [])) out q
each_rest a es t x out q across gone z =
    wider (come_to_each es t) (come_to_each es (t ++ x ∷ [])) (turned_all es x) (come_to_each (Then a es) t) (come_to_each (Then a es) (t ++ x ∷ [])) (turned a x ++ turned_all es x) (next_of_one es x (t ++ x ∷ [])) out (next_of_one (Then a es) x (t ++ x ∷ [])) out q
    (λ g. yes_right (come_to a (only (nodes a) (t ++ x ∷ []))) (come_to_each es (t ++ x ∷ [])) q g)
    (λ g i. no_append (come_to a (only (nodes a) t)) (come_to_each es t) q (outside a (only (nodes a) t) q (apart_back (nodes a) (nodes_all es) q across (within_each es (t ++ x ∷ []) q g))) i)
    (λ g. yes_right (turned a x) (turned_all es x) q g)
    (λ g i. inr (rw gone g, i)) z

picks_later : (c : ℕ → Cell) (n : ℕ) (es : Execs) (t : List Entry) (x : Entry) (out : List ℕ) (q : ℕ) (k : ℕ) → has (nodes_all es) n ≡ false → ApartAll es → c n ≡ Picked (picks n t) → pick_of n x ≡ None → is_of (nodes_at es k) x ≡ true → has (picks n t) k ≡ true → ((f : ℕ → List ℕ) → next_of_last f (picks n t) ≡ f k) → IsNewOr (come_to_at es k (part_at es k t)) (come_to_at es k (part_at es k t ++ x ∷ [])) (turned_all es x) (next_at es k (part_at es k t ++ x ∷ [])) (if length (picked (c n)) == count es then out else []) q → IsNewOr (come_to (NonSeq n es) t) (come_to (NonSeq n es) (t ++ x ∷ [])) (turned_all es x) (next (NonSeq n es) (t ++ x ∷ [])) out q
picks_later c n es t x out q k own d cell none inside there last z =
    let f : ℕ → List ℕ = λ i. next_at es i (part_at es i (t ++ x ∷ [])) in
    let g : ℕ → List ℕ = λ i. come_to_at es i (part_at es i (t ++ x ∷ [])) in
    let same : picks n (t ++ x ∷ []) ≡ picks n t = picks_same n t x none in
    let part : part_at es k (t ++ x ∷ []) ≡ part_at es k t ++ x ∷ [] = only_in (nodes_at es k) t x inside in
    wider (come_to_at es k (part_at es k t)) (come_to_at es k (part_at es k t ++ x ∷ [])) (turned_all es x) (come_to (NonSeq n es) t) (come_to (NonSeq n es) (t ++ x ∷ [])) (turned_all es x) (next_at es k (part_at es k t ++ x ∷ [])) (if length (picked (c n)) == count es then out else []) (next (NonSeq n es) (t ++ x ∷ [])) out q
    (λ h. yes_right (n ∷ []) (of_picks g (picks n (t ++ x ∷ []))) q
    (subst (λ (ks : List ℕ). has (of_picks g ks) q ≡ true) (sym same)
    (picks_in g (picks n t) k q there (subst (λ (u : List Entry). has (come_to_at es k u) q ≡ true) (sym part) h))))
    (λ h i.
    let within_k : has (nodes_at es k) q ≡ true = within_at es k (part_at es k t ++ x ∷ []) q h in
    own_out n _ q (not_own n (nodes_all es) q own (at_inside es k (Note q) within_k)) (only_its es (λ j. part_at es j t) (picks n t) k q d within_k (λ r. i)))
    (λ h. h)
    (λ over h.
    let y = cond_in (length (picked (c n)) == count es) out q h in
    let emp : next_of_last f (picks n (t ++ x ∷ [])) ≡ [] = ap (next_of_last f) same ∙ (last f ∙ (ap (next_at es k) part ∙ over)) in
    let all_of : (length (picks n (t ++ x ∷ [])) == count es) ≡ true = ap (λ (ks : List ℕ). length ks == count es) same ∙ (ap (λ (u : Cell). length (picked u) == count es) (sym cell) ∙ y.0) in
    inr (over_after _ _ n emp all_of, y.1)) z

mutual
  pub new : (c : ℕ → Cell) (e : Exec) (t : List Entry) (x : Entry) (out : List ℕ) (q : ℕ) → AreDistinct (nodes e) → Part e t → Step e t x → Stands c e t → has (opens c e x out) q ≡ true → IsNewOr (come_to e t) (come_to e (t ++ x ∷ [])) (turned e x) (next e (t ++ x ∷ [])) out q
  new c (Work n) t x out q d p s w h =
      let z = over_cell (work_after n (c n) x) out n q h in
      let now : next_work n (t ++ x ∷ []) ≡ if_going (work_after n (c n) x) n =
      work_next n (t ++ x ∷ []) s.0 (subst (IsWork n) (sym (append_assoc t (x ∷ []) s.0)) s.1)
      ∙ ap (λ (cell : Cell). if_going cell n) (work_after_is n t x ∙ sym (ap (λ (cell : Cell). work_after n cell x) w)) in
      inr (now ∙ z.0, z.1)
  new c (Leaf n k) t x out q d p s w h = inr (ap (λ (u : List Entry). next_leaf n (u ++ x ∷ [])) s.0, h)
  new c (Plan n es) t x out q d p s w h =
      wider (come_to_in_order es t) (come_to_in_order es (t ++ x ∷ [])) (turned_all es x) (come_to (Plan n es) t) (come_to (Plan n es) (t ++ x ∷ [])) (turned_all es x) (next_in_order es (t ++ x ∷ [])) out (next (Plan n es) (t ++ x ∷ [])) out q
      (λ g. yes_right (number_or_none n) (come_to_in_order es (t ++ x ∷ [])) q g)
      (λ g i. no_append (number_or_none n) (come_to_in_order es t) q (across_back (number_or_none n) (nodes_all es) q d (within_order es (t ++ x ∷ []) q g)) i) (λ g. g) (λ g i. inr (g, i))
      (new_in_order c es t x out q (distinct_right (number_or_none n) (nodes_all es) d) p.1 s w h)
  new c (Par n es) t x out q d p s w h =
      let out' : List ℕ = if is_shared es then (if left (c n) == 1 then out else []) else out in
      wider (come_to_each es t) (come_to_each es (t ++ x ∷ [])) (turned_all es x) (come_to (Par n es) t) (come_to (Par n es) (t ++ x ∷ [])) (turned_all es x) (next_of_one es x (t ++ x ∷ [])) out' (next (Par n es) (t ++ x ∷ [])) out q
      (λ g. yes_right (n ∷ []) (come_to_each es (t ++ x ∷ [])) q g)
      (λ g i. own_out n (come_to_each es t) q (not_own n (nodes_all es) q d.0 (within_each es (t ++ x ∷ []) q g)) i) (λ g. g)
      (λ g i. inr (par_over c n es t x out q (apart_all es d.1) p.1 s g (is_shared es) refl w.0 i)) (new_among c es t x out' q d.1 p.1 s w.1 h)
  new c (NonSeq n es) t x out q d p (inl s) w h = pick_new c n es t x out _ q d.0 (apart_all es d.1) p.0 w.0 (pick_of n x) refl s.0 h
  new c (NonSeq n es) t x out q d p (inr s) w h =
      let inside : is_of (nodes_all es) x ≡ true =
      last_says (λ k. WholeAt es k (part_at es k t)) (λ k. PartAt es k (part_at es k t)) (λ k. StepAt es k (part_at es k t) x) _ (picks n t)
      (λ k i j. at_inside es k x (inside_at es k (part_at es k t) x (apart_all es d.1) i j)) p.2 s in
      let none : pick_of n x ≡ None = no_pick n (nodes_all es) x d.0 inside (pick_of n x) refl in
      let out' : List ℕ = if length (picked (c n)) == count es then out else [] in
      let as_one : opens c (NonSeq n es) x out ≡ opens_among c es x out' = if_some_none (pick_of n x) _ _ none in
      last_picked (λ k. WholeAt es k (part_at es k t)) (λ k. PartAt es k (part_at es k t)) (λ k. StandsAt c es k (part_at es k t)) (λ k. StepAt es k (part_at es k t) x) _ (picks n t)
      (λ k i j l there last.
      picks_later c n es t x out q k d.0 (apart_all es d.1) w.0 none (inside_at es k (part_at es k t) x (apart_all es d.1) i l) there last
      (new_at c es k (part_at es k t) x out' q d.1 i l j (subst (λ (v : List ℕ). has v q ≡ true) as_one h))) p.2 w.1 s
  new c (Sel n es) [] x out q d p s w h = sel_new n es x out _ q d.0 (pick_of n x) refl s h
  new c (Sel n es) (y ∷ t) x out q d (inl p) s w h = absurd (no_cons y t p)
  new c (Sel n es) (y ∷ t) x out q d (inr p) s w h =
      sel_later c n es y t x out q d.0 (apart_all es d.1)
      (λ k i j l. new_at c es k t x out q d.1 i j l (subst (λ (v : List ℕ). has v q ≡ true) (sel_as c n es y t x out d.0 (apart_all es d.1) k i j) h)) (pick_of n y) refl p s w.1
  new c (If n a b) [] x out q d p s w h = if_new n a b x out _ q d.0 (test_of n x) refl s h
  new c (If n a b) (y ∷ t) x out q d (inl p) s w h = absurd (no_cons y t p)
  new c (If n a b) (y ∷ t) x out q d (inr p) s w h =
      let z : Apart (If n a b) = apart (If n a b) d in
      if_later c n a b y t x out q d.0 z.1 z.2 z.3 (λ i j k g. new c a t x out q (distinct_left (nodes a) (nodes b) d.1) i j k g)
      (λ i j k g. new c b t x out q (distinct_right (nodes a) (nodes b) d.1) i j k g) (test_of n y) refl p s w.1 h
  new c (While n a) t x out q d p s w h =
      while_new c n a t x out q d.0 (λ u i j k g. new c a u x [] q d.1 i j k g) p.1 s w.1 (test_of n x) refl h

  new_in_order : (c : ℕ → Cell) (es : Execs) (t : List Entry) (x : Entry) (out : List ℕ) (q : ℕ) → AreDistinct (nodes_all es) → InOrder es t → StepInOrder es t x → StandsInOrder c es t → has (opens_in_order c es x out) q ≡ true → IsNewOr (come_to_in_order es t) (come_to_in_order es (t ++ x ∷ [])) (turned_all es x) (next_in_order es (t ++ x ∷ [])) out q
  new_in_order c None_left t x out q d p s w h = absurd s
  new_in_order c (Then a es) t x out q d p (inl s) w h =
      let z = apart_all (Then a es) d in
      order_first a es t x out q z.2 s.0 s.1 (not_empty (next a (only (nodes a) t)) x (next_has a (only (nodes a) t) x p.0 s.2))
      (new c a (only (nodes a) t) x _ q (distinct_left (nodes a) (nodes_all es) d) p.0 s.2 w.0 (rw s.0 at h))
  new_in_order c (Then a es) t x out q d p (inr s) w h =
      let z = apart_all (Then a es) d in
      let over : next a (only (nodes a) t) ≡ [] = empty_from_whole a (only (nodes a) t) s.1 in
      order_rest a es t x out q z.2 s.0 over
      (new_in_order c es t x out q (distinct_right (nodes a) (nodes_all es) d) p.2 s.2 (where_empty (next a (only (nodes a) t)) _ w.1 over) (rw s.0 at h))

  new_among : (c : ℕ → Cell) (es : Execs) (t : List Entry) (x : Entry) (out : List ℕ) (q : ℕ) → AreDistinct (nodes_all es) → EachPart es t → StepOfOne es t x → StandsEach c es t → has (opens_among c es x out) q ≡ true → IsNewOr (come_to_each es t) (come_to_each es (t ++ x ∷ [])) (turned_all es x) (next_of_one es x (t ++ x ∷ [])) out q
  new_among c None_left t x out q d p s w h = absurd s
  new_among c (Then a es) t x out q d p (inl s) w h =
      let z = apart_all (Then a es) d in
      each_first a es t x out q z.2 s.0 (new c a (only (nodes a) t) x out q (distinct_left (nodes a) (nodes_all es) d) p.0 s.1 w.0 (rw s.0 at h))
  new_among c (Then a es) t x out q d p (inr s) w h =
      let z = apart_all (Then a es) d in
      each_rest a es t x out q z.2 s.0 (new_among c es t x out q (distinct_right (nodes a) (nodes_all es) d) p.1 s.1 w.1 (rw s.0 at h))

  new_at : (c : ℕ → Cell) (es : Execs) (k : ℕ) (t : List Entry) (x : Entry) (out : List ℕ) (q : ℕ) → AreDistinct (nodes_all es) → PartAt es k t → StepAt es k t x → StandsAt c es k t → has (opens_among c es x out) q ≡ true → IsNewOr (come_to_at es k t) (come_to_at es k (t ++ x ∷ [])) (turned_all es x) (next_at es k (t ++ x ∷ [])) out q
  new_at c None_left k t x out q d p s w h = absurd p
  new_at c (Then a es) zero t x out q d p s w h =
      let inside : is_of (nodes a) x ≡ true = step_inside a t x (part_of_step a t x (apart a (distinct_left (nodes a) (nodes_all es) d)) p s) in
      wider (come_to a t) (come_to a (t ++ x ∷ [])) (turned a x) (come_to a t) (come_to a (t ++ x ∷ [])) (turned a x ++ turned_all es x) (next a (t ++ x ∷ [])) out (next a (t ++ x ∷ [])) out q (λ g. g) (λ g i. i) (λ g. yes_left (turned a x) (turned_all es x) q g) (λ g i. inr (g, i))
      (new c a t x out q (distinct_left (nodes a) (nodes_all es) d) p s w (rw inside at h))
  new_at c (Then a es) (suc k) t x out q d p s w h =
      let z = apart_all (Then a es) d in
      let inside : is_of (nodes_all es) x ≡ true = at_inside es k x (inside_at es k t x z.1 p s) in
      let gone : is_of (nodes a) x ≡ false = not_true (is_of (nodes a) x) (λ f. clash _ inside (z.2 x f)) in
      wider (come_to_at es k t) (come_to_at es k (t ++ x ∷ [])) (turned_all es x) (come_to_at es k t) (come_to_at es k (t ++ x ∷ [])) (turned a x ++ turned_all es x) (next_at es k (t ++ x ∷ [])) out (next_at es k (t ++ x ∷ [])) out q (λ g. g) (λ g i. i) (λ g. yes_right (turned a x) (turned_all es x) q g) (λ g i. inr (g, i))
      (new_at c es k t x out q (distinct_right (nodes a) (nodes_all es) d) p s w (rw gone at h))
