-- What the way up passes lies apart from the node where it begins, and no node is passed twice.
use Rattle.std.specs.Prelude.{◌≡◌, ◌==◌, if◌then◌else◌, ℕ, Bool, true, false, List, [], ◌∷◌, ◌++◌, length}
use Rattle.std.proofs.Common.{refl, sym, ◌∙◌, subst}
use Rattle.exec_tree.specs.Exec.{Exec, Work, Leaf, Plan, Par, NonSeq, Sel, If, While, Execs, None_left, Then, nodes, nodes_all, has, number_or_none, count, AreDistinct}
use Rattle.trace_law.specs.Next.{next_in_order}
use Rattle.trace_law.specs.Cells.{Cell, picked, AreKept, WhereTrue}
use Rattle.trace_law.specs.Frames.{is_shared, left}
use Rattle.trace_law.proofs.StepLemmas.{here, same_number, distinct_left, distinct_right, distinct_across}
use Rattle.trace_law.proofs.ContinueLemmas.{clash}
use Rattle.trace_law.proofs.FrameMoveLemmas.{where_map}
use Rattle.trace_law.proofs.StayLemmas.{not_true}
use Rattle.frame_law.specs.Executable.{executable_at, executable_among}
use Rattle.frame_law.specs.Onward.{Onward, Done, Opens, Joins, PicksOn, TestsAgain, opened_or, joined_or, onward, onward_in_order, onward_among, brings}
use Rattle.frame_law.specs.Way.{AreKeptBut, touched, along, Ran}
use Rattle.frame_law.proofs.OutsideLemmas.{not_first, not_rest, no_left, no_right, yes_left, yes_right, across_back, list_either}
use Rattle.frame_law.proofs.ChosenLemmas.{no_append, found_distinct}

-- ---- lists without a number twice

self : (n : ℕ) (ns : List ℕ) → has (n ∷ ns) n ≡ true
self n ns = here n n ns refl

distinct_join : (ms ns : List ℕ) → AreDistinct ms → AreDistinct ns → ((q : ℕ) → has ms q ≡ true → has ns q ≡ false) → AreDistinct (ms ++ ns)
distinct_join [] ns d g h = g
distinct_join (m ∷ ms) ns d g h = (no_append ms ns m d.0 (h m (self m ms)), distinct_join ms ns d.1 g (λ q i. h q (yes_right (m ∷ []) ms q i)))

pub not_in : (n q : ℕ) (ns : List ℕ) → has ns n ≡ false → has ns q ≡ true → (n == q) ≡ false
not_in n q ns h i = not_true (n == q) (λ e. clash (has ns q) i (subst (λ (j : ℕ). has ns j ≡ false) (same_number n q e) h))

no_cons : (n q : ℕ) (ns : List ℕ) → (n == q) ≡ false → has ns q ≡ false → has (n ∷ ns) q ≡ false
no_cons n q ns h i = rw (h, i) refl

-- ---- the way lies apart from f, and passes no node twice

abbrev LiesApart : Exec → Onward → Type 0
LiesApart f k = AreDistinct (along k) × ((q : ℕ) → has (nodes f) q ≡ true → has (along k) q ≡ false)

abbrev LieApart : Execs → Onward → Type 0
LieApart es k = AreDistinct (along k) × ((q : ℕ) → has (nodes_all es) q ≡ true → has (along k) q ≡ false)

apart_or : (b : Bool) (f g : Exec) (k j : Onward) → LiesApart f k → LiesApart g j → LiesApart (if b then f else g) (if b then k else j)
apart_or true f g k j p q = p
apart_or false f g k j p q = q

joined_apart : (b : Bool) (n : ℕ) (es : Execs) (k : Onward) → LieApart es k → has (along k) n ≡ false → has (nodes_all es) n ≡ false → LieApart es (joined_or b n k)
joined_apart true n es k p own out = ((own, p.0), λ q h. no_cons n q (along k) (not_in n q (nodes_all es) out h) (p.1 q h))
joined_apart false n es k p own out = p

opened_apart : (l : List ℕ) (e : Exec) (es : Execs) (k : Onward) → AreDistinct (nodes e ++ nodes_all es) → LieApart (Then e es) k → LiesApart e (opened_or l es k)
opened_apart [] e es k d p = (p.0, λ q h. p.1 q (yes_left (nodes e) (nodes_all es) q h))
opened_apart (n ∷ l) e es k d p = (distinct_right (nodes e) (nodes_all es) d, λ q h. distinct_across (nodes e) (nodes_all es) q d h)

-- of the elements of n
within : (n : ℕ) (ns : List ℕ) (k : Onward) → AreDistinct (along k) × ((q : ℕ) → has (n ∷ ns) q ≡ true → has (along k) q ≡ false) → AreDistinct (along k) × ((q : ℕ) → has ns q ≡ true → has (along k) q ≡ false)
within n ns k p = (p.0, λ q h. p.1 q (yes_right (n ∷ []) ns q h))

mutual
  lies_apart : (e : Exec) (k : Onward) (m : ℕ) → AreDistinct (nodes e) → LiesApart e k → LiesApart (executable_at e m) (onward e k m)
  lies_apart (Work n) k m d p = p
  lies_apart (Leaf n l) k m d p = p
  lies_apart (Plan n es) k m d p =
      apart_or (has (number_or_none n) m) _ _ _ _ p
      (apart_in_order es k m (distinct_right (number_or_none n) (nodes_all es) d) (p.0, λ q h. p.1 q (yes_right (number_or_none n) (nodes_all es) q h)))
  lies_apart (Par n es) k m d p =
      apart_or (n == m) _ _ _ _ p
      (apart_among es (joined_or (is_shared es) n k) m d.1 (joined_apart (is_shared es) n es k (within n (nodes_all es) k p) (p.1 n (self n (nodes_all es))) d.0))
  lies_apart (NonSeq n es) k m d p =
      apart_or (n == m) _ _ _ _ p
      (apart_among es (PicksOn n (count es) k) m d.1 (
        (p.1 n (self n (nodes_all es)), p.0),
        λ q h. no_cons n q (along k) (not_in n q (nodes_all es) d.0 h) (p.1 q (yes_right (n ∷ []) (nodes_all es) q h)),
      ))
  lies_apart (Sel n es) k m d p = apart_or (n == m) _ _ _ _ p (apart_among es k m d.1 (within n (nodes_all es) k p))
  lies_apart (If n a b) k m d p =
      let r = within n (nodes a ++ nodes b) k p in
      apart_or (n == m) _ _ _ _ p
      (apart_or (has (nodes a) m) _ _ _ _
      (lies_apart a k m (distinct_left (nodes a) (nodes b) d.1) (r.0, λ q h. r.1 q (yes_left (nodes a) (nodes b) q h)))
      (lies_apart b k m (distinct_right (nodes a) (nodes b) d.1) (r.0, λ q h. r.1 q (yes_right (nodes a) (nodes b) q h))))
  lies_apart (While n a) k m d p = apart_or (n == m) _ _ _ _ p (lies_apart a (TestsAgain n) m d.1 (tt, λ q h. refl))

  apart_in_order : (es : Execs) (k : Onward) (m : ℕ) → AreDistinct (nodes_all es) → LieApart es k → LiesApart (executable_among es m) (onward_in_order es k m)
  apart_in_order None_left k m d p = (tt, λ q h. refl)
  apart_in_order (Then e es) k m d p =
      apart_or (has (nodes e) m) _ _ _ _
      (lies_apart e (opened_or (next_in_order es []) es k) m (distinct_left (nodes e) (nodes_all es) d) (opened_apart (next_in_order es []) e es k d p))
      (apart_in_order es k m (distinct_right (nodes e) (nodes_all es) d) (p.0, λ q h. p.1 q (yes_right (nodes e) (nodes_all es) q h)))

  apart_among : (es : Execs) (k : Onward) (m : ℕ) → AreDistinct (nodes_all es) → LieApart es k → LiesApart (executable_among es m) (onward_among es k m)
  apart_among None_left k m d p = (tt, λ q h. refl)
  apart_among (Then e es) k m d p =
      apart_or (has (nodes e) m) _ _ _ _
      (lies_apart e k m (distinct_left (nodes e) (nodes_all es) d) (p.0, λ q h. p.1 q (yes_left (nodes e) (nodes_all es) q h)))
      (apart_among es k m (distinct_right (nodes e) (nodes_all es) d) (p.0, λ q h. p.1 q (yes_right (nodes e) (nodes_all es) q h)))

pub way_is_apart : (e : Exec) (m : ℕ) → AreDistinct (nodes e) → AreDistinct (nodes (executable_at e m) ++ along (onward e Done m))
way_is_apart e m d =
    let z = lies_apart e Done m d (tt, λ q h. refl) in
    distinct_join (nodes (executable_at e m)) (along (onward e Done m)) (found_distinct e m d) z.0 z.1

-- ---- what was written before stays, and changes nothing on the way

touched_along : (c : ℕ → Cell) (k : Onward) (q : ℕ) → has (along k) q ≡ false → has (touched c k) q ≡ false
touched_along c Done q h = refl
touched_along c (Opens es) q h = h
touched_along c (Joins n k) q h =
    no_cons n q (if left (c n) == 1 then touched c k else []) (not_first n (along k) q h) (list_either (left (c n) == 1) (touched c k) q (touched_along c k q (not_rest n (along k) q h)))
touched_along c (PicksOn n total k) q h = list_either (length (picked (c n)) == total) (touched c k) q (touched_along c k q (not_rest n (along k) q h))
touched_along c (TestsAgain n) q h = refl

-- the cells that are asked are the same
abbrev Agree : (ℕ → Cell) → (ℕ → Cell) → List ℕ → Type 0
Agree c d ns = (q : ℕ) → has ns q ≡ true → d q ≡ c q

agree_rest : (c d : ℕ → Cell) (n : ℕ) (ns : List ℕ) → Agree c d (n ∷ ns) → Agree c d ns
agree_rest c d n ns a = λ q h. a q (yes_right (n ∷ []) ns q h)

ran_same : (c d c' : ℕ → Cell) (k : Onward) → Agree c d (along k) → Ran d c' k → Ran c c' k
ran_same c d c' Done a r = tt
ran_same c d c' (Opens es) a r = r
ran_same c d c' (Joins n k) a r =
    let e : d n ≡ c n = a n (self n (along k)) in (
      rw e at r.0,
      where_map (left (c n) == 1) _ _ (λ z. ran_same c d c' k (agree_rest c d n (along k) a) z) (subst (λ (w : Cell). WhereTrue (left w == 1) (Ran d c' k) (Unit {0})) e r.1),
    )
ran_same c d c' (PicksOn n total k) a r =
    let e : d n ≡ c n = a n (self n (along k)) in
    where_map (length (picked (c n)) == total) _ _ (λ z. ran_same c d c' k (agree_rest c d n (along k) a) z)
    (subst (λ (w : Cell). WhereTrue (length (picked w) == total) (Ran d c' k) (Unit {0})) e r)
ran_same c d c' (TestsAgain n) a r = tt

touched_same : (c d : ℕ → Cell) (k : Onward) → Agree c d (along k) → touched d k ≡ touched c k
touched_same c d Done a = refl
touched_same c d (Opens es) a = refl
touched_same c d (Joins n k) a = rw (a n (self n (along k)), touched_same c d k (agree_rest c d n (along k) a)) refl
touched_same c d (PicksOn n total k) a = rw (a n (self n (along k)), touched_same c d k (agree_rest c d n (along k) a)) refl
touched_same c d (TestsAgain n) a = refl

pub brings_same : (c d : ℕ → Cell) (k : Onward) → Agree c d (along k) → brings d k ≡ brings c k
brings_same c d Done a = refl
brings_same c d (Opens es) a = refl
brings_same c d (Joins n k) a = rw (a n (self n (along k)), brings_same c d k (agree_rest c d n (along k) a)) refl
brings_same c d (PicksOn n total k) a = rw (a n (self n (along k)), brings_same c d k (agree_rest c d n (along k) a)) refl
brings_same c d (TestsAgain n) a = refl

pub agree_along : (c d : ℕ → Cell) (ns : List ℕ) (k : Onward) → AreDistinct (ns ++ along k) → AreKeptBut c d ns → Agree c d (along k)
agree_along c d ns k a h = λ q i. h q (across_back ns (along k) q a i)

pub stays_written : (d c' : ℕ → Cell) (ns : List ℕ) (k : Onward) → AreDistinct (ns ++ along k) → AreKeptBut d c' (touched d k) → AreKept d c' ns
stays_written d c' ns k a h = λ q i. h q (touched_along d k q (distinct_across ns (along k) q a i))

pub ran_after : (c d c' : ℕ → Cell) (ns : List ℕ) (k : Onward) → AreDistinct (ns ++ along k) → AreKeptBut c d ns → Ran d c' k → Ran c c' k
ran_after c d c' ns k a h r = ran_same c d c' k (agree_along c d ns k a h) r

pub kept_after : (c d c' : ℕ → Cell) (ns : List ℕ) (k : Onward) → AreDistinct (ns ++ along k) → AreKeptBut c d ns → AreKeptBut d c' (touched d k) → AreKeptBut c c' (ns ++ touched c k)
kept_after c d c' ns k a h i = λ q o.
    i q (subst (λ (l : List ℕ). has l q ≡ false) (sym (touched_same c d k (agree_along c d ns k a h))) (no_right ns (touched c k) q o)) ∙ h q (no_left ns (touched c k) q o)
