-- What comes into Next with one more entry.
use Rattle.std.specs.Prelude.{◌≡◌, nat_le, ◌<◌, ◌≤◌, ◌+◌, ℕ, zero, suc, Bool, true, false, ◌||◌, ◌&&◌, not, ◌==◌, if◌then◌else◌, List, [], ◌∷◌, ◌++◌, length, Option, Some, None, IsSomeAnd}
use Rattle.std.proofs.Common.{refl, sym, ◌∙◌, ap, subst, inl, inr, arith, append_assoc}
use Rattle.std.specs.List.{cons_option}
use Rattle.std.proofs.lemmas.Bool.Decides.{nat_tests}
use Rattle.std.proofs.lemmas.Bool.{cases_eq}
use Rattle.exec_tree.specs.Exec.{Exec, Work, Leaf, Plan, Par, NonSeq, Sel, If, While, Execs, None_left, Then, nodes, nodes_all, has, count}
use Rattle.trace_law.specs.Of.{number_of, is_of, only}
use Rattle.trace_law.specs.Whole.{IsCut, IsWork, Answered, Whole, WholeAt}
use Rattle.trace_law.specs.Part.{LastMayBeCut, IsLoopSoFar, Part, EachPart, InOrder, PartAt}
use Rattle.trace_law.specs.Own.{picks, pick_of, test_of, Turn, Tested, turns}
use Rattle.trace_law.specs.Elements.{nodes_at, part_at, visits}
use Rattle.trace_law.specs.Next.{first_of_two, next_work, next_leaf, next_of_last, next_after, next_answered, next_loop, next, next_in_order, next_each, next_at}
use Rattle.trace_law.specs.Step.{IsTest, AtLast, StepLoop, Step, StepInOrder, StepOfOne, StepAt}
use Rattle.trace_law.specs.Cells.{WhereTrue, Left, Cell, Picked, work_after, last_answer, last_body, if_going, picked}
use Rattle.trace_law.specs.Frames.{left, is_shared, one_where, going, OfFirst, OfLast, OfBranch, Stands, StandsInOrder, StandsEach, StandsAt}
use Rattle.trace_law.specs.Coming.{if_some, came, came_in_order, came_among, Changes}
use Rattle.run_log.specs.declared.entry.Entry.{Entry}
use Rattle.run_log.specs.declared.entry.Entry.TheVariants.{Dispatch, Block, End, Note}
use Rattle.trace_law.proofs.WholeNextLemmas.{empty_from_whole, empty_at, last_empty}
use Rattle.trace_law.proofs.StepLemmas.{Apart, ApartAll, SameParts, has-append, only_in, only_out, not_of_left, not_of_right, same_number, leaf_has, pick_has, test_has, next_has, next_has_at, next_has_of_one, some_left, picked_has}
use Rattle.trace_law.proofs.StepForthLemmas.{snoc_view, step_of, at_inside, at_outside, pick_is, picks_more, picks_same, turns_test, turns_other, longer}
use Rattle.trace_law.proofs.StepBackLemmas.{part_inside, part_inside_at, test_is, same_in, step_inside, visits_without, part_of_step}
use Rattle.trace_law.proofs.ContinueLemmas.{clash}
use Rattle.trace_law.proofs.StayLemmas.{inside_at, not_true, own_of}
use Rattle.trace_law.proofs.OfferLemmas.{has_of}
use Rattle.trace_law.proofs.CellNextLemmas.{only_rest, no_cons, work_next}
use Rattle.trace_law.proofs.CellMoveLemmas.{work_after_is}
use Rattle.trace_law.proofs.CellOfferLemmas.{only_one}
use Rattle.trace_law.proofs.FrameNextLemmas.{where_empty}
use Rattle.trace_law.proofs.SharedCountLemmas.{not_empty, one_some}
use Rattle.trace_law.proofs.PreorderLemmas.{next_within, each_within, not_within}
use Rattle.trace_law.proofs.FrameMoveLemmas.{no_pick, no_test, test_out, no_answer, nil_parts, last_says}

-- ---- lists

first_nil : (l : List ℕ) → first_of_two l [] ≡ l
first_nil [] = refl
first_nil (x ∷ l) = refl

first_some : (l r : List ℕ) → (l ≡ [] → ⊥) → first_of_two l r ≡ l
first_some [] r h = absurd (h refl)
first_some (x ∷ l) r h = refl

first_assoc : (a b c : List ℕ) → first_of_two (first_of_two a b) c ≡ first_of_two a (first_of_two b c)
first_assoc [] b c = refl
first_assoc (x ∷ a) b c = refl

first_if : (b : Bool) (n : ℕ) (out : List ℕ) → first_of_two (if b then [] else n ∷ []) out ≡ (if b then out else n ∷ [])
first_if true n out = refl
first_if false n out = refl

pub empty_left : (a b : List ℕ) → a ++ b ≡ [] → a ≡ []
empty_left [] b e = refl
empty_left (x ∷ a) b e = absurd (cc)

pub empty_right : (a b : List ℕ) → a ++ b ≡ [] → b ≡ []
empty_right [] b e = e
empty_right (x ∷ a) b e = absurd (cc)

pub nil_right : (a : List ℕ) → a ++ [] ≡ a
nil_right [] = refl
nil_right (x ∷ a) = ap (λ (l : List ℕ). x ∷ l) (nil_right a)

-- ---- changes

changes_as : (before before' after after' : List ℕ) (m : ℕ) (came_in came_in' : List ℕ) → before ≡ before' → after ≡ after' → came_in ≡ came_in' → Changes before' after' m came_in' → Changes before after m came_in
changes_as before before' after after' m came_in came_in' e f g h =
    subst (λ (l : List ℕ). Changes l after m came_in) (sym e)
    (subst (λ (l : List ℕ). Changes before' l m came_in) (sym f) (subst (λ (l : List ℕ). Changes before' after' m l) (sym g) h))

own_gone : (n q : ℕ) → (has (n ∷ []) q && not (q == n)) ≡ false
own_gone n q = go (n == q) refl
  where
    go : (b : Bool) → (n == q) ≡ b → (has (n ∷ []) q && not (q == n)) ≡ false
    go true e = rw (e, let f : (q == n) ≡ true = let g : n ≡ q = same_number n q e in grind (arith, nat_tests) in f) refl
    go false e = rw e refl

-- n itself is taken out, and all that is there came in
anew : (n : ℕ) (l : List ℕ) → Changes (n ∷ []) l n l
anew n l = λ q. sym (ap (λ (b : Bool). b || has l q) (own_gone n q))

stays_in : (l : List ℕ) (m q : ℕ) → has l m ≡ false → (has l q && not (q == m)) ≡ has l q
stays_in l m q h = go (q == m) refl
  where
    true_and : (b : Bool) → (b && true) ≡ b
    true_and true = refl
    true_and false = refl

    none_and : (b k : Bool) → b ≡ false → (b && k) ≡ b
    none_and true k h = absurd (cc)
    none_and false k h = refl

    any_and : (b k : Bool) → k ≡ false → (b && not k) ≡ b
    any_and b true h = absurd (cc)
    any_and b false h = true_and b

    go : (b : Bool) → (q == m) ≡ b → (has l q && not (q == m)) ≡ has l q
    go true e = none_and (has l q) (not (q == m)) (subst (λ (v : ℕ). has l v ≡ false) (sym (same_number q m e)) h)
    go false e = any_and (has l q) (q == m) e

behind : (a k c b : Bool) → (b && k) ≡ b → (((a && k) || c) || b) ≡ (((a || b) && k) || c)
behind true true true true h = refl
behind true true true false h = refl
behind true true false true h = refl
behind true true false false h = refl
behind true false true true h = refl
behind true false true false h = refl
behind true false false true h = absurd (cc)
behind true false false false h = refl
behind false true true true h = refl
behind false true true false h = refl
behind false true false true h = refl
behind false true false false h = refl
behind false false true true h = refl
behind false false true false h = refl
behind false false false true h = absurd (cc)
behind false false false false h = refl

before_it : (a k c b : Bool) → (a && k) ≡ a → (a || ((b && k) || c)) ≡ (((a || b) && k) || c)
before_it true true true b h = refl
before_it true true false b h = refl
before_it true false c b h = absurd (cc)
before_it false k c b h = refl

changes_first : (a a' b : List ℕ) (m : ℕ) (c : List ℕ) → has b m ≡ false → Changes a a' m c → Changes (a ++ b) (a' ++ b) m c
changes_first a a' b m c o h = λ q.
    has-append a' b q ∙ (ap (λ (v : Bool). v || has b q) (h q)
    ∙ (behind (has a q) (not (q == m)) (has c q) (has b q) (stays_in b m q o) ∙ sym (ap (λ (v : Bool). (v && not (q == m)) || has c q) (has-append a b q))))

changes_second : (a b b' : List ℕ) (m : ℕ) (c : List ℕ) → has a m ≡ false → Changes b b' m c → Changes (a ++ b) (a ++ b') m c
changes_second a b b' m c o h = λ q.
    has-append a b' q ∙ (ap (λ (v : Bool). has a q || v) (h q)
    ∙ (before_it (has a q) (not (q == m)) (has c q) (has b q) (stays_in a m q o) ∙ sym (ap (λ (v : Bool). (v && not (q == m)) || has c q) (has-append a b q))))

-- ---- work

cut_before : (n k : ℕ) (t rest : List Entry) (x : Entry) → IsCut n k (t ++ x ∷ rest) → next_work n t ≡ n ∷ []
cut_before n k [] rest x w = refl
cut_before n k (Block m j b ∷ t) rest x w = cut_before n (k + 1) t rest x w.2
cut_before n k (End m ∷ []) rest x w = absurd w
cut_before n k (End m ∷ y ∷ t) rest x w = absurd w
cut_before n k (y ∷ t) rest x w = absurd w

work_before : (n : ℕ) (t rest : List Entry) (x : Entry) → IsWork n (t ++ x ∷ rest) → next_work n t ≡ n ∷ []
work_before n [] rest x w = refl
work_before n (Dispatch m v ∷ t) rest x w = cut_before n 0 t rest x w.1
work_before n (y ∷ t) rest x w = absurd w

same_own : (n m : ℕ) (x : Entry) → number_of x ≡ Some m → is_of (n ∷ []) x ≡ true → n ≡ m
same_own n m x e h = only_one n m (has_of (n ∷ []) x m true e h)

-- ---- how many go on

pub one_none : (l : List ℕ) → one_where l ≡ 0 → l ≡ []
one_none [] h = refl
one_none (n ∷ l) h = absurd (omega (arith, h))

pub nobody : (es : Execs) (t : List Entry) → going es t ≡ 0 → next_each es t ≡ []
nobody None_left t h = refl
nobody (Then e es) t h =
    rw (one_none (next e (only (nodes e) t)) (omega (arith, h)), nobody es t (omega (arith, h))) refl

pub nobody_back : (es : Execs) (t : List Entry) → next_each es t ≡ [] → going es t ≡ 0
nobody_back None_left t h = refl
nobody_back (Then e es) t h =
    let a : one_where (next e (only (nodes e) t)) ≡ 0 = ap one_where (empty_left (next e (only (nodes e) t)) (next_each es t) h) in
    let b = nobody_back es t (empty_right (next e (only (nodes e) t)) (next_each es t) h) in
    omega (arith, a, b)

somebody : (es : Execs) (t : List Entry) (x : Entry) → is_of (next_each es t) x ≡ true → 1 ≤ going es t
somebody es t x h = elim (cases_eq (going es t) 0) [ inl e ↦ absurd (not_empty (next_each es t) x h (nobody es t e)) | inr n ↦ omega arith ]

same_each : (es : Execs) (t u : List Entry) → SameParts es t u → next_each es t ≡ next_each es u
same_each None_left t u h = refl
same_each (Then e es) t u h = rw (h.0, same_each es t u h.1) refl

same_order : (es : Execs) (t u : List Entry) → SameParts es t u → next_in_order es t ≡ next_in_order es u
same_order None_left t u h = refl
same_order (Then e es) t u h = rw (h.0, same_order es t u h.1) refl

par_out : (c : ℕ → Cell) (n m : ℕ) (es : Execs) (t : List Entry) (x : Entry) (out : List ℕ) → left (c n) ≡ going es t → ((z : List ℕ) → going es t ≡ 1 → Changes (next_each es t) (first_of_two (next_each es (t ++ x ∷ [])) z) m (came_among c es x z)) × Changes (next_each es t) (next_each es (t ++ x ∷ [])) m (came_among c es x []) × ((going es t ≡ 1 → ⊥) → next_each es (t ++ x ∷ []) ≡ [] → ⊥) → (b : Bool) → (left (c n) == 1) ≡ b → Changes (next_each es t) (first_of_two (next_each es (t ++ x ∷ [])) out) m (came_among c es x (if b then out else []))
par_out c n m es t x out l z true h = z.0 out (sym l ∙ same_number (left (c n)) 1 h)
par_out c n m es t x out l z false h =
    changes_as _ (next_each es t) _ (next_each es (t ++ x ∷ [])) m _ (came_among c es x []) refl
    (first_some (next_each es (t ++ x ∷ [])) out (z.2 (λ g. let f : (left (c n) == 1) ≡ true = let i : left (c n) ≡ 1 = l ∙ g in grind (arith, nat_tests) in clash (left (c n) == 1) f h))) refl z.1

-- what has nothing to do at first never has
void_stays : (e : Exec) → Apart e → next e [] ≡ [] → (n : ℕ) (t : List Entry) → length t ≤ n → Part e t → t ≡ []
void_stays e d v zero [] l p = refl
void_stays e d v zero (y ∷ t) l p = absurd (omega (arith, l))
void_stays e d v (suc n) t l p =
    elim (snoc_view t) [
      | inl g ↦ g
      | inr (s, x, g) ↦
          let q : Part e (s ++ x ∷ []) = subst (Part e) g p in
          let z = step_of e s x d q in
          let short : length s ≤ n = (let i : length t ≡ length s + 1 = ap length g ∙ length_snoc s x in omega (arith, l, i)) in
          let f : s ≡ [] = void_stays e d v n s short z.0 in
          absurd (not_empty (next e s) x (next_has e s x z.0 z.1) (ap (next e) f ∙ v))
    ]
  where
    length_snoc : (s : List Entry) (x : Entry) → length (s ++ x ∷ []) ≡ length s + 1
    length_snoc [] x = omega arith
    length_snoc (y ∷ s) x = omega (arith, length_snoc s x)

at_most : (a b : List ℕ) → (b ≡ [] → a ≡ []) → one_where a ≤ one_where b
at_most [] b h = omega arith
at_most (x ∷ a) [] h = absurd (let e : x ∷ a ≡ [] = h refl in cc)
at_most (x ∷ a) (y ∷ b) h = omega arith

pub going_at_most : (es : Execs) (t : List Entry) → ApartAll es → EachPart es t → going es t ≤ going es []
going_at_most None_left t d p = omega arith
going_at_most (Then e es) t d p =
    let u : List Entry = only (nodes e) t in
    let a = at_most (next e u) (next e []) (λ v. ap (next e) (void_stays e d.0 v (length u) u (omega arith) p.0) ∙ v) in
    let b = going_at_most es t d.1 p.1 in
    omega (arith, a, b)

pub not_shared : (n : ℕ) → nat_le 2 n ≡ false → n ≤ 1
not_shared n h = grind (arith, nat_tests)

par_shared : (c : ℕ → Cell) (n m : ℕ) (es : Execs) (t : List Entry) (x : Entry) (out : List ℕ) → ApartAll es → EachPart es t → StepOfOne es t x → ((z : List ℕ) → going es t ≡ 1 → Changes (next_each es t) (first_of_two (next_each es (t ++ x ∷ [])) z) m (came_among c es x z)) × Changes (next_each es t) (next_each es (t ++ x ∷ [])) m (came_among c es x []) × ((going es t ≡ 1 → ⊥) → next_each es (t ++ x ∷ []) ≡ [] → ⊥) → (b : Bool) → is_shared es ≡ b → WhereTrue b (c n ≡ Left (going es t)) (Unit {0}) → Changes (next_each es t) (first_of_two (next_each es (t ++ x ∷ [])) out) m (came_among c es x (if b then (if left (c n) == 1 then out else []) else out))
par_shared c n m es t x out d p q z true h s = par_out c n m es t x out (ap left s) z (left (c n) == 1) refl
par_shared c n m es t x out d p q z false h s =
    let a = going_at_most es t d p in
    let b = not_shared (going es []) h in
    let f = somebody es t x (next_has_of_one es t x p q) in
    z.0 out (omega (arith, a, b, f))

pub of_last_more : (f : ℕ → List ℕ) (ks : List ℕ) (k : ℕ) → next_of_last f (ks ++ k ∷ []) ≡ f k
of_last_more f [] k = refl
of_last_more f (j ∷ []) k = refl
of_last_more f (j ∷ i ∷ ks) k = of_last_more f (i ∷ ks) k

pub length_more : (ks : List ℕ) (k : ℕ) → length (ks ++ k ∷ []) ≡ length ks + 1
length_more [] k = omega arith
length_more (j ∷ ks) k = omega (arith, length_more ks k)

new_comes : (c : ℕ → Cell) (n m : ℕ) (es : Execs) (t : List Entry) (x : Entry) (out rest : List ℕ) → has (nodes_all es) n ≡ false → ApartAll es → t ≡ visits n es t (picks n t) → c n ≡ Picked (picks n t) → n ≡ m → next (NonSeq n es) t ≡ n ∷ [] → (o : Option ℕ) → pick_of n x ≡ o → IsSomeAnd o (λ k. (k < count es) × (has (picks n t) k ≡ false)) → Changes (next (NonSeq n es) t) (first_of_two (next (NonSeq n es) (t ++ x ∷ [])) out) m (if_some o (λ k. first_of_two (next_at es k []) (if length (picked (c n)) + 1 == count es then out else n ∷ [])) rest)
new_comes c n m es t x out rest own d v s g before None e q = absurd q
new_comes c n m es t x out rest own d v s g before (Some k) e q =
    let f : ℕ → List ℕ = λ i. next_at es i (part_at es i (t ++ x ∷ [])) in
    let more : picks n (t ++ x ∷ []) ≡ picks n t ++ k ∷ [] = picks_more n t x k e in
    let gone : is_of (nodes_all es) x ≡ false = subst (λ (w : Entry). is_of (nodes_all es) w ≡ false) (sym (pick_is n x k e)) own in
    let emp : part_at es k (t ++ x ∷ []) ≡ [] =
    only_out (nodes_at es k) t x (at_outside es k x gone) ∙ (ap (λ (w : List Entry). only (nodes_at es k) w) v ∙ visits_without n es t (picks n t) k own d q.1) in
    let all_of : List ℕ → List ℕ = λ ks. first_of_two (next_of_last f ks) (if length ks == count es then [] else n ∷ []) in
    let len : length (picks n t ++ k ∷ []) ≡ length (picked (c n)) + 1 = length_more (picks n t) k ∙ ap (λ (w : Cell). length (picked w) + 1) (sym s) in
    let after : next (NonSeq n es) (t ++ x ∷ []) ≡ first_of_two (next_at es k []) (if length (picked (c n)) + 1 == count es then [] else n ∷ []) =
    ap all_of more ∙ (ap (λ (l : List ℕ). first_of_two l (if length (picks n t ++ k ∷ []) == count es then [] else n ∷ [])) (of_last_more f (picks n t) k ∙ ap (next_at es k) emp)
    ∙ ap (λ (i : ℕ). first_of_two (next_at es k []) (if i == count es then [] else n ∷ [])) len) in
    let total : List ℕ = first_of_two (next_at es k []) (if length (picked (c n)) + 1 == count es then out else n ∷ []) in
    changes_as _ (n ∷ []) _ total m _ total before
    (ap (λ (l : List ℕ). first_of_two l out) after ∙ (first_assoc (next_at es k []) _ out ∙ ap (first_of_two (next_at es k [])) (first_if (length (picked (c n)) + 1 == count es) n out))) refl
    (subst (λ (j : ℕ). Changes (n ∷ []) total j total) g (anew n total))

last_comes : (whole part said step : ℕ → Type 0) (f f' : ℕ → List ℕ) (m : ℕ) (out came_in : List ℕ) (ks : List ℕ) → ((k : ℕ) → part k → said k → step k → Changes (f k) (first_of_two (f' k) out) m came_in × (f k ≡ [] → ⊥)) → LastMayBeCut whole part ks → OfLast said ks → AtLast step ks → Changes (next_of_last f ks) (first_of_two (next_of_last f' ks) out) m came_in × (next_of_last f ks ≡ [] → ⊥)
last_comes whole part said step f f' m out came_in [] h p s q = absurd q
last_comes whole part said step f f' m out came_in (k ∷ []) h p s q = h k p s q
last_comes whole part said step f f' m out came_in (k ∷ j ∷ ks) h p s q = last_comes whole part said step f f' m out came_in (j ∷ ks) h p.1 s q

visit_comes : (c : ℕ → Cell) (n m : ℕ) (es : Execs) (t : List Entry) (x : Entry) (out : List ℕ) → c n ≡ Picked (picks n t) → picks n (t ++ x ∷ []) ≡ picks n t → (let z : List ℕ = if length (picked (c n)) == count es then out else n ∷ [] in Changes (next_of_last (λ k. next_at es k (part_at es k t)) (picks n t)) (first_of_two (next_of_last (λ k. next_at es k (part_at es k (t ++ x ∷ []))) (picks n t)) z) m (came_among c es x z) × (next_of_last (λ k. next_at es k (part_at es k t)) (picks n t) ≡ [] → ⊥)) → Changes (next (NonSeq n es) t) (first_of_two (next (NonSeq n es) (t ++ x ∷ [])) out) m (came_among c es x (if length (picked (c n)) == count es then out else n ∷ []))
visit_comes c n m es t x out s same h =
    let f : ℕ → List ℕ = λ i. next_at es i (part_at es i (t ++ x ∷ [])) in
    let z : List ℕ = if length (picked (c n)) == count es then out else n ∷ [] in
    let len : length (picks n t) ≡ length (picked (c n)) = ap (λ (w : Cell). length (picked w)) (sym s) in
    let after : next (NonSeq n es) (t ++ x ∷ []) ≡ first_of_two (next_of_last f (picks n t)) (if length (picked (c n)) == count es then [] else n ∷ []) =
    ap (λ (ks : List ℕ). first_of_two (next_of_last f ks) (if length ks == count es then [] else n ∷ [])) same
    ∙ ap (λ (i : ℕ). first_of_two (next_of_last f (picks n t)) (if i == count es then [] else n ∷ [])) len in
    changes_as _ (next_of_last (λ k. next_at es k (part_at es k t)) (picks n t)) _ (first_of_two (next_of_last f (picks n t)) z) m _ (came_among c es x z)
    (first_some _ _ h.1)
    (ap (λ (l : List ℕ). first_of_two l out) after ∙ (first_assoc (next_of_last f (picks n t)) _ out ∙ ap (first_of_two (next_of_last f (picks n t))) (first_if (length (picked (c n)) == count es) n out))) refl h.0

sel_first : (n m : ℕ) (es : Execs) (x : Entry) (out rest : List ℕ) → n ≡ m → (o : Option ℕ) → pick_of n x ≡ o → IsSomeAnd o (λ k. (k < count es) × (has [] k ≡ false)) → Changes (n ∷ []) (first_of_two (next_after (λ k u. next_at es k u) o []) out) m (if_some o (λ k. first_of_two (next_at es k []) out) rest)
sel_first n m es x out rest g None e q = absurd q
sel_first n m es x out rest g (Some k) e q = let l : List ℕ = first_of_two (next_at es k []) out in subst (λ (j : ℕ). Changes (n ∷ []) l j l) g (anew n l)

pub if_some_none : {A : Type 0} (o : Option A) (f : A → List ℕ) (l : List ℕ) → o ≡ None → if_some o f l ≡ l
if_some_none None f l e = refl
if_some_none (Some a) f l e = absurd (cc)

sel_later : (c : ℕ → Cell) (n m : ℕ) (es : Execs) (y : Entry) (t : List Entry) (x : Entry) (out : List ℕ) → has (nodes_all es) n ≡ false → ApartAll es → ((k : ℕ) → PartAt es k t → StepAt es k t x → StandsAt c es k t → Changes (next_at es k t) (first_of_two (next_at es k (t ++ x ∷ [])) out) m (came_among c es x out)) → (o : Option ℕ) → pick_of n y ≡ o → IsSomeAnd o (λ k. PartAt es k t) → IsSomeAnd o (λ k. StepAt es k t x) → OfFirst (λ k. StandsAt c es k (part_at es k (y ∷ t))) (cons_option o (picks n t)) → Changes (next_after (λ k u. next_at es k u) o t) (first_of_two (next_after (λ k u. next_at es k u) o (t ++ x ∷ [])) out) m (if_some (pick_of n x) (λ k. first_of_two (next_at es k []) out) (came_among c es x out))
sel_later c n m es y t x out own d rec None e p q s = absurd p
sel_later c n m es y t x out own d rec (Some k) e p q s =
    let gone : is_of (nodes_at es k) y ≡ false = at_outside es k y (subst (λ (w : Entry). is_of (nodes_all es) w ≡ false) (sym (pick_is n y k e)) own) in
    let r = only_rest (nodes_at es k) y t gone (part_inside_at es k t p) in
    let none : pick_of n x ≡ None = no_pick n (nodes_all es) x own (at_inside es k x (inside_at es k t x d p q)) (pick_of n x) refl in
    changes_as _ (next_at es k t) _ (first_of_two (next_at es k (t ++ x ∷ [])) out) m _ (came_among c es x out) refl refl (if_some_none (pick_of n x) _ _ none)
    (rec k p q (subst (StandsAt c es k) r s))

if_first : (n m : ℕ) (a b : Exec) (x : Entry) (out rest : List ℕ) → n ≡ m → (o : Option Bool) → test_of n x ≡ o → IsTest n x → Changes (n ∷ []) (first_of_two (next_after (next_answered (λ u. next a u) (λ u. next b u)) o []) out) m (if_some o (λ ans. first_of_two (if ans then next a [] else next b []) out) rest)
if_first n m a b x out rest g None e q = absurd (no_answer (test_of n x) e q)
if_first n m a b x out rest g (Some true) e q = let l : List ℕ = first_of_two (next a []) out in subst (λ (j : ℕ). Changes (n ∷ []) l j l) g (anew n l)
if_first n m a b x out rest g (Some false) e q = let l : List ℕ = first_of_two (next b []) out in subst (λ (j : ℕ). Changes (n ∷ []) l j l) g (anew n l)

if_later : (c : ℕ → Cell) (n m : ℕ) (a b : Exec) (y : Entry) (t : List Entry) (x : Entry) (out : List ℕ) → has (nodes a ++ nodes b) n ≡ false → Apart a → Apart b → ((z : Entry) → is_of (nodes a) z ≡ true → is_of (nodes b) z ≡ false) → (Part a t → Step a t x → Stands c a t → Changes (next a t) (first_of_two (next a (t ++ x ∷ [])) out) m (came c a x out)) → (Part b t → Step b t x → Stands c b t → Changes (next b t) (first_of_two (next b (t ++ x ∷ [])) out) m (came c b x out)) → (o : Option Bool) → test_of n y ≡ o → IsSomeAnd o (λ k. Answered (λ u. Part a u) (λ u. Part b u) k t) → IsSomeAnd o (λ k. Answered (λ u. Step a u x) (λ u. Step b u x) k t) → OfBranch o (Stands c a (only (nodes a) (y ∷ t))) (Stands c b (only (nodes b) (y ∷ t))) → Changes (next_after (next_answered (λ u. next a u) (λ u. next b u)) o t) (first_of_two (next_after (next_answered (λ u. next a u) (λ u. next b u)) o (t ++ x ∷ [])) out) m (if_some (test_of n x) (λ ans. first_of_two (if ans then next a [] else next b []) out) (if is_of (nodes a) x then came c a x out else came c b x out))
if_later c n m a b y t x out own da db across rec1 rec2 None e p q s = absurd p
if_later c n m a b y t x out own da db across rec1 rec2 (Some true) e p q s =
    let inside : is_of (nodes a) x ≡ true = step_inside a t x (part_of_step a t x da p q) in
    let gone : is_of (nodes a) y ≡ false = not_of_left (nodes a) (nodes b) y (test_out n _ y true own e) in
    let none : test_of n x ≡ None = no_test n (nodes a) x (not_of_left (nodes a) (nodes b) (Note n) own) inside (test_of n x) refl in
    changes_as _ (next a t) _ (first_of_two (next a (t ++ x ∷ [])) out) m _ (came c a x out) refl refl (if_some_none (test_of n x) _ _ none ∙ (rw inside refl))
    (rec1 p q (subst (Stands c a) (only_rest (nodes a) y t gone (part_inside a t p)) s))
if_later c n m a b y t x out own da db across rec1 rec2 (Some false) e p q s =
    let inside : is_of (nodes b) x ≡ true = step_inside b t x (part_of_step b t x db p q) in
    let outside : is_of (nodes a) x ≡ false = not_true (is_of (nodes a) x) (λ f. clash _ inside (across x f)) in
    let gone : is_of (nodes b) y ≡ false = not_of_right (nodes a) (nodes b) y (test_out n _ y false own e) in
    let none : test_of n x ≡ None = no_test n (nodes b) x (not_of_right (nodes a) (nodes b) (Note n) own) inside (test_of n x) refl in
    changes_as _ (next b t) _ (first_of_two (next b (t ++ x ∷ [])) out) m _ (came c b x out) refl refl (if_some_none (test_of n x) _ _ none ∙ (rw outside refl))
    (rec2 p q (subst (Stands c b) (only_rest (nodes b) y t gone (part_inside b t p)) s))

loop_more : (n : ℕ) (f : List Entry → List ℕ) (ts : List Turn) (b : Bool) → next_loop n f (ts ++ Tested b [] ∷ []) ≡ (if b then first_of_two (f []) (n ∷ []) else [])
loop_more n f [] true = refl
loop_more n f [] false = refl
loop_more n f (Tested a t ∷ []) true = refl
loop_more n f (Tested a t ∷ []) false = refl
loop_more n f (r ∷ s ∷ rest) b = loop_more n f (s ∷ rest) b

loop_own : (n : ℕ) (whole part step : List Entry → Type 0) (test : Type 0) (f : List Entry → List ℕ) (ts : List Turn) → ((u : List Entry) → part u → step u → ⊥) → ((u : List Entry) → whole u → f u ≡ []) → IsLoopSoFar whole part ts → StepLoop test whole step ts → next_loop n f ts ≡ n ∷ []
loop_own n whole part step test f [] h w p q = refl
loop_own n whole part step test f (Tested true t ∷ []) h w p (inl q) = rw (w t q.1) refl
loop_own n whole part step test f (Tested true t ∷ []) h w p (inr q) = absurd (h t p q)
loop_own n whole part step test f (Tested false t ∷ []) h w p q = absurd q
loop_own n whole part step test f (Tested true u ∷ r ∷ rest) h w p q = loop_own n whole part step test f (r ∷ rest) h w p.1 q
loop_own n whole part step test f (Tested false u ∷ r ∷ rest) h w p q = absurd p

loop_comes : (n m : ℕ) (whole part step said : List Entry → Type 0) (test : Type 0) (f : List Entry → List ℕ) (x : Entry) (out came_in : List ℕ) (ts : List Turn) → (test → ⊥) → ((u : List Entry) → part u → step u → said u → Changes (f u) (first_of_two (f (u ++ x ∷ [])) (n ∷ [])) m came_in × (f u ≡ [] → ⊥)) → IsLoopSoFar whole part ts → StepLoop test whole step ts → OfBranch (last_answer ts) (said (last_body ts)) (Unit {0}) → Changes (next_loop n f ts) (first_of_two (next_loop n f (longer ts x)) out) m came_in
loop_comes n m whole part step said test f x out came_in [] a h p q s = absurd (a q)
loop_comes n m whole part step said test f x out came_in (Tested true t ∷ []) a h p (inl q) s = absurd (a q.0)
loop_comes n m whole part step said test f x out came_in (Tested true t ∷ []) a h p (inr q) s =
    let z = h t p q s in
    changes_as _ (f t) _ (first_of_two (f (t ++ x ∷ [])) (n ∷ [])) m _ came_in (first_some (f t) (n ∷ []) z.1) (first_assoc (f (t ++ x ∷ [])) (n ∷ []) out) refl z.0
loop_comes n m whole part step said test f x out came_in (Tested false t ∷ []) a h p q s = absurd q
loop_comes n m whole part step said test f x out came_in (Tested true u ∷ Tested b t ∷ []) a h p q s = loop_comes n m whole part step said test f x out came_in (Tested b t ∷ []) a h p.1 q s
loop_comes n m whole part step said test f x out came_in (Tested true u ∷ r ∷ w ∷ rest) a h p q s = loop_comes n m whole part step said test f x out came_in (r ∷ w ∷ rest) a h p.1 q s
loop_comes n m whole part step said test f x out came_in (Tested false u ∷ r ∷ rest) a h p q s = absurd p

while_comes : (c : ℕ → Cell) (n m : ℕ) (a : Exec) (t : List Entry) (x : Entry) (out : List ℕ) → has (nodes a) n ≡ false → Apart a → number_of x ≡ Some m → ((u : List Entry) → Part a u → Step a u x → Stands c a u → Changes (next a u) (first_of_two (next a (u ++ x ∷ [])) (n ∷ [])) m (came c a x (n ∷ []))) → IsLoopSoFar (λ u. Whole a u) (λ u. Part a u) (turns n t) → StepLoop (IsTest n x) (λ u. Whole a u) (λ u. Step a u x) (turns n t) → OfBranch (last_answer (turns n t)) (Stands c a (last_body (turns n t))) (Unit {0}) → (o : Option Bool) → test_of n x ≡ o → Changes (next_loop n (λ u. next a u) (turns n t)) (first_of_two (next_loop n (λ u. next a u) (turns n (t ++ x ∷ []))) out) m (if_some o (λ ans. if ans then first_of_two (next a []) (n ∷ []) else out) (came c a x (n ∷ [])))
while_comes c n m a t x out own d e rec p q s None f =
    changes_as _ (next_loop n (λ u. next a u) (turns n t)) _ (first_of_two (next_loop n (λ u. next a u) (longer (turns n t) x)) out) m _ (came c a x (n ∷ []))
    refl (ap (λ (ts : List Turn). first_of_two (next_loop n (λ u. next a u) ts) out) (turns_other n t x f)) refl
    (loop_comes n m (λ u. Whole a u) (λ u. Part a u) (λ u. Step a u x) (λ u. Stands c a u) (IsTest n x) (λ u. next a u) x out (came c a x (n ∷ [])) (turns n t)
    (λ g. no_answer (test_of n x) f g) (λ u i j k. (rec u i j k, not_empty (next a u) x (next_has a u x i j))) p q s)
while_comes c n m a t x out own d e rec p q s (Some b) f =
    let l : List ℕ = if b then first_of_two (next a []) (n ∷ []) else out in
    let g : n ≡ m = same_own n m x e (own_is_test n x b f) in
    changes_as _ (n ∷ []) _ l m _ l
    (loop_own n (λ u. Whole a u) (λ u. Part a u) (λ u. Step a u x) (IsTest n x) (λ u. next a u) (turns n t)
    (λ u i j. clash (is_of (nodes a) x) (step_inside a u x (part_of_step a u x d i j)) (test_out n (nodes a) x b own f)) (λ u w. empty_from_whole a u w) p q)
    (ap (λ (ts : List Turn). first_of_two (next_loop n (λ u. next a u) ts) out) (turns_test n t x b f)
    ∙ (ap (λ (w : List ℕ). first_of_two w out) (loop_more n (λ u. next a u) (turns n t) b) ∙ last_step b)) refl
    (subst (λ (j : ℕ). Changes (n ∷ []) l j l) g (anew n l))
  where
    last_step : (b : Bool) → first_of_two (if b then first_of_two (next a []) (n ∷ []) else []) out ≡ (if b then first_of_two (next a []) (n ∷ []) else out)
    last_step true = first_assoc (next a []) (n ∷ []) out
    last_step false = refl

    own_is_test : (n : ℕ) (x : Entry) (b : Bool) → test_of n x ≡ Some b → is_of (n ∷ []) x ≡ true
    own_is_test n x b f = subst (λ (w : Entry). is_of (n ∷ []) w ≡ true) (sym (test_is n x b f)) (let h : (n == n) ≡ true = grind (arith, nat_tests) in rw h refl)

mutual
  pub comes : (c : ℕ → Cell) (e : Exec) (t : List Entry) (x : Entry) (m : ℕ) (out : List ℕ) → Apart e → Part e t → Step e t x → Stands c e t → number_of x ≡ Some m → Changes (next e t) (first_of_two (next e (t ++ x ∷ [])) out) m (came c e x out)
  comes c (Work n) t x m out d p q s e =
      let l : List ℕ = first_of_two (if_going (work_after n (c n) x) n) out in
      let now : next_work n (t ++ x ∷ []) ≡ if_going (work_after n (c n) x) n =
      work_next n (t ++ x ∷ []) q.0 (subst (IsWork n) (sym (append_assoc t (x ∷ []) q.0)) q.1)
      ∙ ap (λ (cell : Cell). if_going cell n) (work_after_is n t x ∙ sym (ap (λ (cell : Cell). work_after n cell x) s)) in
      changes_as _ (n ∷ []) _ l m _ l (work_before n t q.0 x q.1) (ap (λ (w : List ℕ). first_of_two w out) now) refl
      (subst (λ (j : ℕ). Changes (n ∷ []) l j l) (same_own n m x e (own_of n t q.0 x q.1)) (anew n l))
  comes c (Leaf n k) t x m out d p q s e =
      changes_as _ (n ∷ []) _ out m _ out (ap (next_leaf n) q.0) (ap (λ (u : List Entry). first_of_two (next_leaf n (u ++ x ∷ [])) out) q.0) refl
      (subst (λ (j : ℕ). Changes (n ∷ []) out j out) (same_own n m x e (leaf_has k n x q.1)) (anew n out))
  comes c (Plan n es) t x m out d p q s e = comes_in_order c es t x m out d p.1 q s e
  comes c (Par n es) t x m out d p q s e = par_shared c n m es t x out d p.1 q (comes_each c es t x m d p.1 q s.1 e) (is_shared es) refl s.0
  comes c (NonSeq n es) t x m out d p (inl q) s e =
      new_comes c n m es t x out _ d.0 d.1 p.0 s.0 (same_own n m x e (pick_has n _ x q.0))
      (rw (
        last_empty (λ k. WholeAt es k (part_at es k t)) (λ k. next_at es k (part_at es k t)) (picks n t) (λ k v. empty_at es k (part_at es k t) v) q.1,
        some_left n (length (picks n t)) (count es) (picked_has n (count es) (picks n t) x p.1 q.0),
      ) refl) (pick_of n x) refl q.0
  comes c (NonSeq n es) t x m out d p (inr q) s e =
      let inside : is_of (nodes_all es) x ≡ true =
      last_says (λ k. WholeAt es k (part_at es k t)) (λ k. PartAt es k (part_at es k t)) (λ k. StepAt es k (part_at es k t) x) _ (picks n t)
      (λ k i j. at_inside es k x (inside_at es k (part_at es k t) x d.1 i j)) p.2 q in
      let none : pick_of n x ≡ None = no_pick n (nodes_all es) x d.0 inside (pick_of n x) refl in
      let z : List ℕ = if length (picked (c n)) == count es then out else n ∷ [] in
      changes_as _ (next (NonSeq n es) t) _ (first_of_two (next (NonSeq n es) (t ++ x ∷ [])) out) m _ (came_among c es x z) refl refl (if_some_none (pick_of n x) _ _ none)
      (visit_comes c n m es t x out s.0 (picks_same n t x none)
      (last_comes (λ k. WholeAt es k (part_at es k t)) (λ k. PartAt es k (part_at es k t)) (λ k. StandsAt c es k (part_at es k t)) (λ k. StepAt es k (part_at es k t) x)
      (λ k. next_at es k (part_at es k t)) (λ k. next_at es k (part_at es k (t ++ x ∷ []))) m z (came_among c es x z) (picks n t)
      (λ k i j l. (
        changes_as _ (next_at es k (part_at es k t)) _ (first_of_two (next_at es k (part_at es k t ++ x ∷ [])) z) m _ (came_among c es x z) refl
            (ap (λ (u : List Entry). first_of_two (next_at es k u) z) (only_in (nodes_at es k) t x (inside_at es k (part_at es k t) x d.1 i l))) refl
            (comes_at c es k (part_at es k t) x m z d.1 i l j e),
        not_empty (next_at es k (part_at es k t)) x (next_has_at es k (part_at es k t) x i l),
      )) p.2 s.1 q))
  comes c (Sel n es) [] x m out d p q s e = sel_first n m es x out _ (same_own n m x e (pick_has n _ x q)) (pick_of n x) refl q
  comes c (Sel n es) (y ∷ t) x m out d (inl p) q s e = absurd (no_cons y t p)
  comes c (Sel n es) (y ∷ t) x m out d (inr p) q s e =
      sel_later c n m es y t x out d.0 d.1 (λ k i j l. comes_at c es k t x m out d.1 i j l e) (pick_of n y) refl p q s.1
  comes c (If n a b) [] x m out d p q s e = if_first n m a b x out _ (same_own n m x e (test_has n _ x q)) (test_of n x) refl q
  comes c (If n a b) (y ∷ t) x m out d (inl p) q s e = absurd (no_cons y t p)
  comes c (If n a b) (y ∷ t) x m out d (inr p) q s e =
      if_later c n m a b y t x out d.0 d.1 d.2 d.3 (λ i j l. comes c a t x m out d.1 i j l e) (λ i j l. comes c b t x m out d.2 i j l e) (test_of n y) refl p q s.1
  comes c (While n a) t x m out d p q s e =
      while_comes c n m a t x out d.0 d.1 e (λ u i j l. comes c a u x m (n ∷ []) d.1 i j l e) p.1 q s.1 (test_of n x) refl

  comes_in_order : (c : ℕ → Cell) (es : Execs) (t : List Entry) (x : Entry) (m : ℕ) (out : List ℕ) → ApartAll es → InOrder es t → StepInOrder es t x → StandsInOrder c es t → number_of x ≡ Some m → Changes (next_in_order es t) (first_of_two (next_in_order es (t ++ x ∷ [])) out) m (came_in_order c es x out)
  comes_in_order c None_left t x m out d p q s e = absurd q
  comes_in_order c (Then a es) t x m out d p (inl q) s e =
      let u : List Entry = only (nodes a) t in
      let z : List ℕ = first_of_two (next_in_order es []) out in
      let rest : next_in_order es (t ++ x ∷ []) ≡ next_in_order es [] = sym (same_order es [] (t ++ x ∷ []) (nil_parts es t x q.1 (d.2 x q.0))) in
      changes_as _ (next a u) _ (first_of_two (next a (u ++ x ∷ [])) z) m _ (came c a x z) (first_some (next a u) _ (not_empty (next a u) x (next_has a u x p.0 q.2)))
      (rw (only_in (nodes a) t x q.0, rest) (first_assoc (next a (u ++ x ∷ [])) (next_in_order es []) out)) (rw q.0 refl) (comes c a u x m z d.0 p.0 q.2 s.0 e)
  comes_in_order c (Then a es) t x m out d p (inr q) s e =
      let u : List Entry = only (nodes a) t in
      let none : next a u ≡ [] = empty_from_whole a u q.1 in
      changes_as _ (next_in_order es t) _ (first_of_two (next_in_order es (t ++ x ∷ [])) out) m _ (came_in_order c es x out) (rw none refl)
      (rw (only_out (nodes a) t x q.0, none) refl) (rw q.0 refl) (comes_in_order c es t x m out d.1 p.2 q.2 (where_empty (next a u) _ s.1 none) e)

  comes_each : (c : ℕ → Cell) (es : Execs) (t : List Entry) (x : Entry) (m : ℕ) → ApartAll es → EachPart es t → StepOfOne es t x → StandsEach c es t → number_of x ≡ Some m → ((z : List ℕ) → going es t ≡ 1 → Changes (next_each es t) (first_of_two (next_each es (t ++ x ∷ [])) z) m (came_among c es x z)) × Changes (next_each es t) (next_each es (t ++ x ∷ [])) m (came_among c es x []) × ((going es t ≡ 1 → ⊥) → next_each es (t ++ x ∷ []) ≡ [] → ⊥)
  comes_each c None_left t x m d p q s e = absurd q
  comes_each c (Then a es) t x m d p (inl q) s e =
      let u : List Entry = only (nodes a) t in
      let some : one_where (next a u) ≡ 1 = one_some (next a u) (not_empty (next a u) x (next_has a u x p.0 q.1)) in
      let b : next_each es (t ++ x ∷ []) ≡ next_each es t = sym (same_each es t (t ++ x ∷ []) (same_in es t x (d.2 x q.0))) in
      let apart : has (next_each es t) m ≡ false = not_within (next_each es t) (nodes_all es) m (each_within es t) (has_of (nodes_all es) x m false e (d.2 x q.0)) in (
        λ z g.
            let b0 : next_each es t ≡ [] = nobody es t (omega (arith, some, g)) in
            changes_as _ (next a u) _ (first_of_two (next a (u ++ x ∷ [])) z) m _ (came c a x z) (rw b0 (nil_right (next a u)))
            (rw (only_in (nodes a) t x q.0, b, b0) (ap (λ (l : List ℕ). first_of_two l z) (nil_right (next a (u ++ x ∷ []))))) (rw q.0 refl) (comes c a u x m z d.0 p.0 q.1 s.0 e),
        changes_as _ (next a u ++ next_each es t) _ (next a (u ++ x ∷ []) ++ next_each es t) m _ (came c a x []) refl (rw (only_in (nodes a) t x q.0, b) refl) (rw q.0 refl)
            (changes_first (next a u) (next a (u ++ x ∷ [])) (next_each es t) m (came c a x []) apart
            (subst (λ (l : List ℕ). Changes (next a u) l m (came c a x [])) (first_nil (next a (u ++ x ∷ []))) (comes c a u x m [] d.0 p.0 q.1 s.0 e))),
        λ g f. g (let h : going es t ≡ 0 = nobody_back es t (sym b ∙ empty_right (next a (only (nodes a) (t ++ x ∷ []))) (next_each es (t ++ x ∷ [])) f) in omega (arith, some, h)),
      )
  comes_each c (Then a es) t x m d p (inr q) s e =
      let u : List Entry = only (nodes a) t in
      let same : only (nodes a) (t ++ x ∷ []) ≡ u = only_out (nodes a) t x q.0 in
      let rec = comes_each c es t x m d.1 p.1 q.1 s.1 e in
      let some = somebody es t x (next_has_of_one es t x p.1 q.1) in
      let apart : has (next a u) m ≡ false = not_within (next a u) (nodes a) m (next_within a u) (has_of (nodes a) x m false e q.0) in (
        λ z g.
            let a0 : next a u ≡ [] = one_none (next a u) (omega (arith, some, g)) in
            changes_as _ (next_each es t) _ (first_of_two (next_each es (t ++ x ∷ [])) z) m _ (came_among c es x z) (rw a0 refl) (rw (same, a0) refl) (rw q.0 refl)
            (rec.0 z (let i : one_where (next a u) ≡ 0 = ap one_where a0 in omega (arith, i, g))),
        changes_as _ (next a u ++ next_each es t) _ (next a u ++ next_each es (t ++ x ∷ [])) m _ (came_among c es x []) refl (rw same refl) (rw q.0 refl)
            (changes_second (next a u) (next_each es t) (next_each es (t ++ x ∷ [])) m (came_among c es x []) apart rec.1),
        λ g f.
            let a0 : next a u ≡ [] = sym (ap (next a) same) ∙ empty_left (next a (only (nodes a) (t ++ x ∷ []))) (next_each es (t ++ x ∷ [])) f in
            rec.2 (λ h. g (let i : one_where (next a u) ≡ 0 = ap one_where a0 in omega (arith, i, h))) (empty_right (next a (only (nodes a) (t ++ x ∷ []))) (next_each es (t ++ x ∷ [])) f),
      )

  comes_at : (c : ℕ → Cell) (es : Execs) (k : ℕ) (t : List Entry) (x : Entry) (m : ℕ) (out : List ℕ) → ApartAll es → PartAt es k t → StepAt es k t x → StandsAt c es k t → number_of x ≡ Some m → Changes (next_at es k t) (first_of_two (next_at es k (t ++ x ∷ [])) out) m (came_among c es x out)
  comes_at c None_left k t x m out d p q s e = absurd q
  comes_at c (Then a es) zero t x m out d p q s e =
      changes_as _ (next a t) _ (first_of_two (next a (t ++ x ∷ [])) out) m _ (came c a x out) refl refl (rw (step_inside a t x (part_of_step a t x d.0 p q)) refl)
      (comes c a t x m out d.0 p q s e)
  comes_at c (Then a es) (suc k) t x m out d p q s e =
      let inside : is_of (nodes_all es) x ≡ true = at_inside es k x (inside_at es k t x d.1 p q) in
      let outside : is_of (nodes a) x ≡ false = not_true (is_of (nodes a) x) (λ f. clash _ inside (d.2 x f)) in
      changes_as _ (next_at es k t) _ (first_of_two (next_at es k (t ++ x ∷ [])) out) m _ (came_among c es x out) refl refl (rw outside refl)
      (comes_at c es k t x m out d.1 p q s e)

-- with the last entry nothing else comes in
pub comes_last : (c : ℕ → Cell) (e : Exec) (t : List Entry) (x : Entry) (m : ℕ) → Apart e → Part e t → Step e t x → Stands c e t → number_of x ≡ Some m → Changes (next e t) (next e (t ++ x ∷ [])) m (came c e x [])
comes_last c e t x m d p q s n = subst (λ (l : List ℕ). Changes (next e t) l m (came c e x [])) (first_nil (next e (t ++ x ∷ []))) (comes c e t x m [] d p q s n)
