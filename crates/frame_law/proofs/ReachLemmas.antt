-- How far the way up has come: an executable is over and the way goes on from it, or it goes on and nothing outside of it is written.
use Rattle.std.specs.Prelude.{◌≡◌, ◌⊎◌, ◌==◌, ◌+◌, ◌-◌, if◌then◌else◌, ℕ, Bool, true, false, List, [], ◌∷◌, ◌++◌, length, Option, Some, None, IsSomeAnd}
use Rattle.std.proofs.Common.{refl, sym, ◌∙◌, ap, subst, inl, inr, arith}
use Rattle.std.proofs.lemmas.Bool.Decides.{nat_tests}
use Rattle.exec_tree.specs.Exec.{Exec, Work, Leaf, Plan, Par, NonSeq, Sel, If, While, Execs, None_left, Then, nodes, nodes_all, has, count, AreDistinct}
use Rattle.trace_law.specs.Part.{EachPart}
use Rattle.trace_law.specs.Step.{StepOfOne}
use Rattle.trace_law.specs.Next.{first_of_two, next_in_order, next_each}
use Rattle.trace_law.specs.Cells.{Cell, Left, picked, next_by, next_by_order, next_by_each, WhereTrue, WhereSome}
use Rattle.trace_law.specs.Frames.{is_shared, going, left, one_where, next_by_of, WhereEmpty, StandsInOrder, StandsEach, Goes}
use Rattle.trace_law.specs.Leading.{NoPicks, NoPicksAll}
use Rattle.run_log.specs.declared.entry.Entry.{Entry}
use Rattle.trace_law.proofs.WholeNextLemmas.{first_empty_left}
use Rattle.trace_law.proofs.StepLemmas.{ApartAll, apart_all, same_number, next_has_of_one}
use Rattle.trace_law.proofs.StepBackLemmas.{order_nil}
use Rattle.trace_law.proofs.ContinueLemmas.{clash}
use Rattle.trace_law.proofs.FrameNextLemmas.{to_where_empty, order_from_frames, each_from_frames}
use Rattle.trace_law.proofs.SharedCountLemmas.{not_empty, one_some, left_moves, one_from_frames}
use Rattle.trace_law.proofs.ArriveLemmas.{nobody, nobody_back, not_shared, going_at_most}
use Rattle.trace_law.proofs.LeadLemmas.{void_in_order}
use Rattle.frame_law.specs.Executable.{executable_at, executable_among}
use Rattle.frame_law.specs.Onward.{Onward, Joins, PicksOn, opened_or, joined_or, onward, onward_in_order, onward_among}
use Rattle.frame_law.specs.Way.{AreKeptBut, touched, Ran, Writes, AreUnpicked, AreUnpickedAll}
use Rattle.frame_law.proofs.OutsideLemmas.{no_left, no_right, not_first, not_rest, found_within, found_among, touched_within, touched_in_order, touched_among}

-- l is what is next in the executable or the elements of these nodes
abbrev pub Reaches : (ℕ → Cell) → (ℕ → Cell) → List ℕ → List ℕ → Onward → Type 0
Reaches c c' l ns k = ((l ≡ []) × Ran c c' k) ⊎ ((l ≡ [] → ⊥) × AreKeptBut c c' ns)

some : (n : ℕ) (l : List ℕ) → n ∷ l ≡ [] → ⊥
some n l e = cc

pub own_reaches : (c c' : ℕ → Cell) (f : Exec) (k : Onward) (x : Entry) → Writes c f k x c' → Goes c f x c' × Reaches c c' (next_by c' f) (nodes f) k
own_reaches c c' f k x w = (w.goes, go (next_by c' f) refl)
  where
    go : (l : List ℕ) → next_by c' f ≡ l → Reaches c c' (next_by c' f) (nodes f) k
    go [] e = inl (e, w.ran e)
    go (n ∷ l) e = inr (λ g. some n l (sym e ∙ g), λ q h. w.kept q h (λ g. absurd (some n l (sym e ∙ g))))

pub writes_as : (c c' : ℕ → Cell) (f f' : Exec) (k k' : Onward) (x : Entry) → f ≡ f' → k ≡ k' → Writes c f k x c' → Writes c f' k' x c'
writes_as c c' f f' k k' x e h w = subst (λ (g : Exec). Writes c g k' x c') e (subst (λ (j : Onward). Writes c f j x c') h w)

pub reaches_wider : (c c' : ℕ → Cell) (l ms ns : List ℕ) (k : Onward) → ((q : ℕ) → has ns q ≡ false → has ms q ≡ false) → Reaches c c' l ms k → Reaches c c' l ns k
reaches_wider c c' l ms ns k f (inl r) = inl r
reaches_wider c c' l ms ns k f (inr r) = inr (r.0, λ q h. r.1 q (f q h))

-- ---- what lies outside is kept

pub kept_outside : (c c' : ℕ → Cell) (e : Exec) (k : Onward) (m : ℕ) (x : Entry) → Writes c (executable_at e m) (onward e k m) x c' → (q : ℕ) → has (nodes e) q ≡ false → has (touched c k) q ≡ false → c' q ≡ c q
kept_outside c c' e k m x w q h i = w.kept q (found_within e m q h) (λ g. touched_within c e k m q h i)

pub kept_in_order : (c c' : ℕ → Cell) (es : Execs) (k : Onward) (m : ℕ) (x : Entry) → Writes c (executable_among es m) (onward_in_order es k m) x c' → (q : ℕ) → has (nodes_all es) q ≡ false → has (touched c k) q ≡ false → c' q ≡ c q
kept_in_order c c' es k m x w q h i = w.kept q (found_among es m q h) (λ g. touched_in_order c es k m q h i)

pub kept_among : (c c' : ℕ → Cell) (es : Execs) (k : Onward) (m : ℕ) (x : Entry) → Writes c (executable_among es m) (onward_among es k m) x c' → (q : ℕ) → has (nodes_all es) q ≡ false → has (touched c k) q ≡ false → c' q ≡ c q
kept_among c c' es k m x w q h i = w.kept q (found_among es m q h) (λ g. touched_among c es k m q h i)

-- ---- what never has picks has none

mutual
  pub unpicked : (c : ℕ → Cell) (e : Exec) → AreUnpicked c e → NoPicks c e
  unpicked c (Work n) v = tt
  unpicked c (Leaf n k) v = tt
  unpicked c (Plan n es) v = unpicked_all c es v
  unpicked c (Par n es) v = unpicked_all c es v
  unpicked c (NonSeq n None_left) v = v
  unpicked c (NonSeq n (Then e es)) v = tt
  unpicked c (Sel n es) v = tt
  unpicked c (If n a b) v = tt
  unpicked c (While n a) v = tt

  pub unpicked_all : (c : ℕ → Cell) (es : Execs) → AreUnpickedAll c es → NoPicksAll c es
  unpicked_all c None_left v = tt
  unpicked_all c (Then e es) v = (unpicked c e v.0, unpicked_all c es v.1)

pub unpicked_elements : (c : ℕ → Cell) (n : ℕ) (es : Execs) → AreUnpicked c (NonSeq n es) → AreUnpickedAll c es
unpicked_elements c n None_left v = tt
unpicked_elements c n (Then e es) v = v

-- ---- an element of a plan, and those behind it

pub first_reaches : (c c' : ℕ → Cell) (e : Exec) (es : Execs) (k : Onward) (l : List ℕ) → next_in_order es [] ≡ l → AreDistinct (nodes_all es) → AreUnpickedAll c' es → ((q : ℕ) → has (nodes e) q ≡ false → has (touched c (opened_or l es k)) q ≡ false → c' q ≡ c q) → Reaches c c' (next_by c' e) (nodes e) (opened_or l es k) → WhereEmpty (next_by c' e) (StandsInOrder c' es []) × Reaches c c' (first_of_two (next_by c' e) (next_by_order c' es)) (nodes e ++ nodes_all es) k
first_reaches c c' e es k [] i d v kept (inl r) =
    let st : StandsInOrder c' es [] = void_in_order c' es (unpicked_all c' es v) i in
    let on : next_by_order c' es ≡ [] = sym (order_from_frames c' es [] (apart_all es d) (order_nil es) st) ∙ i in
    (to_where_empty (next_by c' e) _ (λ g. st), inl (rw (r.0, on) refl, r.1))
first_reaches c c' e es k (n ∷ l) i d v kept (inl r) =
    let st : StandsInOrder c' es [] = r.1 in
    let on : next_by_order c' es ≡ n ∷ l = sym (order_from_frames c' es [] (apart_all es d) (order_nil es) st) ∙ i in
    let both : first_of_two (next_by c' e) (next_by_order c' es) ≡ n ∷ l = rw (r.0, on) refl in
    (to_where_empty (next_by c' e) _ (λ g. st), inr (λ g. some n l (sym both ∙ g), λ q h. kept q (no_left (nodes e) (nodes_all es) q h) (no_right (nodes e) (nodes_all es) q h)))
first_reaches c c' e es k l i d v kept (inr r) =
    (to_where_empty (next_by c' e) _ (λ g. absurd (r.0 g)), inr (λ g. r.0 (first_empty_left (next_by c' e) (next_by_order c' es) g), λ q h. r.1 q (no_left (nodes e) (nodes_all es) q h)))

-- ---- an element of a parallel

pub par_count : (c c' : ℕ → Cell) (n : ℕ) (es : Execs) (t : List Entry) (x : Entry) (k : Onward) (b : Bool) → has (nodes_all es) n ≡ false → WhereTrue b (c n ≡ Left (going es t)) (Unit {0}) → Reaches c c' (next_by_of c' es x) (nodes_all es) (joined_or b n k) → WhereTrue b (c' n ≡ Left (left (c n) + one_where (next_by_of c' es x) - 1)) (Unit {0})
par_count c c' n es t x k false own s r = tt
par_count c c' n es t x k true own s (inl r) = r.1.0 ∙ ap Left (let i : one_where (next_by_of c' es x) ≡ 0 = ap one_where r.0 in omega (arith, i))
par_count c c' n es t x k true own s (inr r) =
    let i : one_where (next_by_of c' es x) ≡ 1 = one_some (next_by_of c' es x) r.0 in
    let l : left (c n) ≡ going es t = ap left s in
    let f : left (c n) + one_where (next_by_of c' es x) - 1 ≡ going es t = omega (arith, i, l) in
    r.1 n own ∙ (s ∙ ap Left (sym f))

-- the last element that goes on is over, or it is not the last
join_reaches : (c c' : ℕ → Cell) (n : ℕ) (es : Execs) (t u : List Entry) (k : Onward) → c n ≡ Left (going es t) → going es u + 1 ≡ going es t → next_each es u ≡ next_by_each c' es → ((q : ℕ) → has (nodes_all es) q ≡ false → has (touched c (Joins n k)) q ≡ false → c' q ≡ c q) → (b : Bool) → (left (c n) == 1) ≡ b → Ran c c' (Joins n k) → Reaches c c' (next_by_each c' es) (n ∷ nodes_all es) k
join_reaches c c' n es t u k s g each kept true e r =
    let l : left (c n) ≡ going es t = ap left s in
    let one : left (c n) ≡ 1 = same_number (left (c n)) 1 e in
    let over : going es u ≡ 0 = omega (arith, g, l, one) in
    inl (sym each ∙ nobody es u over, rw e at r.1)
join_reaches c c' n es t u k s g each kept false e r =
    inr (
      λ f.
          let l : left (c n) ≡ going es t = ap left s in
          let over : going es u ≡ 0 = nobody_back es u (each ∙ f) in
          let one : left (c n) ≡ 1 = omega (arith, g, l, over) in
          clash (left (c n) == 1) (let z : (left (c n) == 1) ≡ true = grind (arith, nat_tests) in z) e,
      λ q h. kept q (not_rest n (nodes_all es) q h) (rw (not_first n (nodes_all es) q h, e) refl),
    )

over_reaches : (c c' : ℕ → Cell) (n : ℕ) (es : Execs) (t u : List Entry) (k : Onward) → ApartAll es → EachPart es t → going es u + 1 ≡ going es t → next_each es u ≡ next_by_each c' es → (b : Bool) → is_shared es ≡ b → WhereTrue b (c n ≡ Left (going es t)) (Unit {0}) → ((q : ℕ) → has (nodes_all es) q ≡ false → has (touched c (joined_or b n k)) q ≡ false → c' q ≡ c q) → Ran c c' (joined_or b n k) → Reaches c c' (next_by_each c' es) (n ∷ nodes_all es) k
over_reaches c c' n es t u k d p g each true e s kept r = join_reaches c c' n es t u k s g each kept (left (c n) == 1) refl r
over_reaches c c' n es t u k d p g each false e s kept r =
    let a = going_at_most es t d p in
    let b = not_shared (going es []) e in
    let over : going es u ≡ 0 = omega (arith, a, b, g) in
    inl (sym each ∙ nobody es u over, r)

pub par_reaches : (c c' : ℕ → Cell) (n : ℕ) (es : Execs) (t : List Entry) (x : Entry) (k : Onward) (b : Bool) → is_shared es ≡ b → ApartAll es → EachPart es t → StepOfOne es t x → EachPart es (t ++ x ∷ []) → StandsEach c' es (t ++ x ∷ []) → WhereTrue b (c n ≡ Left (going es t)) (Unit {0}) → ((q : ℕ) → has (nodes_all es) q ≡ false → has (touched c (joined_or b n k)) q ≡ false → c' q ≡ c q) → Reaches c c' (next_by_of c' es x) (nodes_all es) (joined_or b n k) → Reaches c c' (next_by_each c' es) (n ∷ nodes_all es) k
par_reaches c c' n es t x k b e d p q p' z s kept (inl r) =
    let u : List Entry = t ++ x ∷ [] in
    let moves = left_moves es t x d p q in
    let one = ap one_where (one_from_frames c' es u x d p' z ∙ r.0) in
    over_reaches c c' n es t u k d p (omega (arith, moves, one)) (each_from_frames c' es u d p' z) b e s kept r.1
par_reaches c c' n es t x k b e d p q p' z s kept (inr r) =
    let u : List Entry = t ++ x ∷ [] in
    let moves = left_moves es t x d p q in
    let same = ap one_where (one_from_frames c' es u x d p' z) in
    let one : one_where (next_by_of c' es x) ≡ 1 = one_some (next_by_of c' es x) r.0 in
    inr (
      λ f.
          let over : going es u ≡ 0 = nobody_back es u (each_from_frames c' es u d p' z ∙ f) in
          let none : going es t ≡ 0 = omega (arith, moves, same, one, over) in
          not_empty (next_each es t) x (next_has_of_one es t x p q) (nobody es t none),
      λ j h. r.1 j (not_rest n (nodes_all es) j h),
    )

-- ---- an element of a non-sequential

pub picks_reaches : (c c' : ℕ → Cell) (n : ℕ) (es : Execs) (k : Onward) (l : List ℕ) (b : Bool) → (length (picked (c n)) == count es) ≡ b → ((q : ℕ) → has (nodes_all es) q ≡ false → has (touched c (PicksOn n (count es) k)) q ≡ false → c' q ≡ c q) → Reaches c c' l (nodes_all es) (PicksOn n (count es) k) → Reaches c c' (first_of_two l (if b then [] else n ∷ [])) (n ∷ nodes_all es) k
picks_reaches c c' n es k l true e kept (inl r) = inl (rw r.0 refl, rw e at r.1)
picks_reaches c c' n es k l false e kept (inl r) =
    let on : first_of_two l (n ∷ []) ≡ n ∷ [] = rw r.0 refl in
    inr (λ g. some n [] (sym on ∙ g), λ q h. kept q (not_rest n (nodes_all es) q h) (rw e refl))
picks_reaches c c' n es k l b e kept (inr r) = inr (λ g. r.0 (first_empty_left l _ g), λ q h. r.1 q (not_rest n (nodes_all es) q h))

-- ---- the body of a while

pub two_some : (l : List ℕ) (n : ℕ) → first_of_two l (n ∷ []) ≡ [] → ⊥
two_some [] n e = some n [] e
two_some (m ∷ l) n e = some m l e

pub body_reaches : (c c' : ℕ → Cell) (n : ℕ) (ns : List ℕ) (k : Onward) (l : List ℕ) → AreKeptBut c c' ns → Reaches c c' (first_of_two l (n ∷ [])) (n ∷ ns) k
body_reaches c c' n ns k l kept = inr (two_some l n, λ q h. kept q (not_rest n ns q h))

-- ---- where there is no pick and no test

pub where_none : {A : Type 0} (o : Option A) (P : A → Type 0) (Q : Type 0) → o ≡ None → Q → WhereSome o P Q
where_none None P Q e w = w
where_none (Some a) P Q e w = absurd (cc)

pub no_some : {A : Type 0} (o : Option A) (P : A → Type 0) → o ≡ None → IsSomeAnd o P → ⊥
no_some None P e w = w
no_some (Some a) P e w = cc
