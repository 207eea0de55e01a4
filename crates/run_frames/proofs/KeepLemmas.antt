-- What the frames of some nodes tell stays where these frames stay.
use Rattle.std.specs.Prelude.{◌≡◌, ℕ, zero, suc, ◌==◌, ◌||◌, Bool, true, false, List, [], ◌∷◌, ◌++◌, Option, Some, None}
use Rattle.std.proofs.Common.{refl, ◌∙◌, ap, arith}
use Rattle.std.proofs.lemmas.Bool.Decides.{nat_tests}
use Rattle.exec_tree.specs.Exec.{Exec, Work, Leaf, Plan, Par, NonSeq, Sel, If, While, Execs, None_left, Then, nodes, nodes_all, number_or_none, has}
use Rattle.trace_law.specs.Of.{only}
use Rattle.trace_law.specs.Own.{picks, turns}
use Rattle.trace_law.specs.Elements.{part_at}
use Rattle.trace_law.specs.Next.{next}
use Rattle.trace_law.specs.Cells.{AreKept, Cell, WhereSome, WhereTrue, first_answer, last_answer, last_body}
use Rattle.trace_law.specs.Frames.{is_shared, WhereEmpty, OfFirst, OfLast, OfBranch, Stands, StandsInOrder, StandsEach, StandsAt}
use Rattle.run_log.specs.declared.entry.Entry.{Entry}
use Rattle.run_frames.specs.Frames.{cells_of}

-- the frames of these nodes are the same
abbrev pub AreAlike : List Cell → List Cell → List ℕ → Type 0
AreAlike f f' ns = (m : ℕ) → has ns m ≡ true → cells_of f' m ≡ cells_of f m

pub alike_cells : (f f' : List Cell) (ns : List ℕ) → AreAlike f f' ns → AreKept (cells_of f) (cells_of f') ns
alike_cells f f' ns h m i = h m i

-- ---- parts of a list of nodes

or_true : (b : Bool) → (b || true) ≡ true
or_true true = refl
or_true false = refl

or_assoc : (a b c : Bool) → (a || (b || c)) ≡ ((a || b) || c)
or_assoc true b c = refl
or_assoc false b c = refl

pub has_append : (ms ns : List ℕ) (q : ℕ) → has (ms ++ ns) q ≡ (has ms q || has ns q)
has_append [] ns q = refl
has_append (m ∷ ms) ns q = rw (has_append ms ns q) (or_assoc (m == q) (has ms q) (has ns q))

pub has_left : (ms ns : List ℕ) (q : ℕ) → has ms q ≡ true → has (ms ++ ns) q ≡ true
has_left ms ns q h = has_append ms ns q ∙ ap (λ (b : Bool). b || has ns q) h

pub has_right : (ms ns : List ℕ) (q : ℕ) → has ns q ≡ true → has (ms ++ ns) q ≡ true
has_right [] ns q h = h
has_right (m ∷ ms) ns q h = rw (has_right ms ns q h) (or_true (m == q))

pub has_self : (n : ℕ) (ns : List ℕ) → has (n ∷ ns) n ≡ true
has_self n ns = let h : (n == n) ≡ true = grind (arith, nat_tests) in rw h refl

pub has_rest : (n : ℕ) (ns : List ℕ) (q : ℕ) → has ns q ≡ true → has (n ∷ ns) q ≡ true
has_rest n ns q h = rw h (or_true (n == q))

-- ---- kept cells

k_left : (c c' : ℕ → Cell) (ms ns : List ℕ) → AreKept c c' (ms ++ ns) → AreKept c c' ms
k_left c c' ms ns h m i = h m (has_left ms ns m i)

k_right : (c c' : ℕ → Cell) (ms ns : List ℕ) → AreKept c c' (ms ++ ns) → AreKept c c' ns
k_right c c' ms ns h m i = h m (has_right ms ns m i)

k_own : (c c' : ℕ → Cell) (n : ℕ) (ns : List ℕ) → AreKept c c' (n ∷ ns) → c' n ≡ c n
k_own c c' n ns h = h n (has_self n ns)

k_rest : (c c' : ℕ → Cell) (n : ℕ) (ns : List ℕ) → AreKept c c' (n ∷ ns) → AreKept c c' ns
k_rest c c' n ns h m i = h m (has_rest n ns m i)

-- ---- what is said where something holds

pub empty_map : (l : List ℕ) (P Q : Type 0) → (P → Q) → WhereEmpty l P → WhereEmpty l Q
empty_map [] P Q h p = h p
empty_map (n ∷ l) P Q h p = tt

pub first_map : (P Q : ℕ → Type 0) (ks : List ℕ) → ((k : ℕ) → P k → Q k) → OfFirst P ks → OfFirst Q ks
first_map P Q [] h p = tt
first_map P Q (k ∷ ks) h p = h k p

pub last_map : (P Q : ℕ → Type 0) (ks : List ℕ) → ((k : ℕ) → P k → Q k) → OfLast P ks → OfLast Q ks
last_map P Q [] h p = tt
last_map P Q (k ∷ []) h p = h k p
last_map P Q (k ∷ j ∷ ks) h p = last_map P Q (j ∷ ks) h p

pub branch_map : (o : Option Bool) (P P' Q Q' : Type 0) → (P → P') → (Q → Q') → OfBranch o P Q → OfBranch o P' Q'
branch_map None P P' Q Q' f g p = tt
branch_map (Some true) P P' Q Q' f g p = f p
branch_map (Some false) P P' Q Q' f g q = g q

pub where_map : (b : Bool) (P P' Q Q' : Type 0) → (P → P') → (Q → Q') → WhereTrue b P Q → WhereTrue b P' Q'
where_map true P P' Q Q' f g p = f p
where_map false P P' Q Q' f g q = g q

some_map : {A : Type 0} (o : Option A) (P P' : A → Type 0) (Q Q' : Type 0) → ((a : A) → P a → P' a) → (Q → Q') → WhereSome o P Q → WhereSome o P' Q'
some_map (Some a) P P' Q Q' f g p = f a p
some_map None P P' Q Q' f g q = g q

-- ---- frames that stand

mutual
  pub stands_kept : (c c' : ℕ → Cell) (e : Exec) (t : List Entry) → AreKept c c' (nodes e) → Stands c e t → Stands c' e t
  stands_kept c c' (Work n) t h s = k_own c c' n [] h ∙ s
  stands_kept c c' (Leaf n k) t h s = k_own c c' n [] h ∙ s
  stands_kept c c' (Plan n es) t h s = stands_in_order_kept c c' es t (k_right c c' (number_or_none n) (nodes_all es) h) s
  stands_kept c c' (Par n es) t h s = (where_map (is_shared es) _ _ _ _ (λ w. k_own c c' n (nodes_all es) h ∙ w) (λ w. w) s.0, stands_each_kept c c' es t (k_rest c c' n (nodes_all es) h) s.1)
  stands_kept c c' (NonSeq n es) t h s =
      (k_own c c' n (nodes_all es) h ∙ s.0, last_map _ _ (picks n t) (λ k r. stands_at_kept c c' es k (part_at es k t) (k_rest c c' n (nodes_all es) h) r) s.1)
  stands_kept c c' (Sel n es) t h s =
      (k_own c c' n (nodes_all es) h ∙ s.0, first_map _ _ (picks n t) (λ k r. stands_at_kept c c' es k (part_at es k t) (k_rest c c' n (nodes_all es) h) r) s.1)
  stands_kept c c' (If n a b) t h s =
      let r = k_rest c c' n (nodes a ++ nodes b) h in (
        k_own c c' n (nodes a ++ nodes b) h ∙ s.0,
        branch_map (first_answer n t) _ _ _ _ (λ w. stands_kept c c' a (only (nodes a) t) (k_left c c' (nodes a) (nodes b) r) w)
            (λ w. stands_kept c c' b (only (nodes b) t) (k_right c c' (nodes a) (nodes b) r) w) s.1,
      )
  stands_kept c c' (While n a) t h s = (
    k_own c c' n (nodes a) h ∙ s.0,
    branch_map (last_answer (turns n t)) _ _ _ _ (λ w. stands_kept c c' a (last_body (turns n t)) (k_rest c c' n (nodes a) h) w) (λ w. w) s.1,
  )

  pub stands_in_order_kept : (c c' : ℕ → Cell) (es : Execs) (t : List Entry) → AreKept c c' (nodes_all es) → StandsInOrder c es t → StandsInOrder c' es t
  stands_in_order_kept c c' None_left t h s = tt
  stands_in_order_kept c c' (Then e es) t h s = (
    stands_kept c c' e (only (nodes e) t) (k_left c c' (nodes e) (nodes_all es) h) s.0,
    empty_map (next e (only (nodes e) t)) _ _ (λ w. stands_in_order_kept c c' es t (k_right c c' (nodes e) (nodes_all es) h) w) s.1,
  )

  pub stands_each_kept : (c c' : ℕ → Cell) (es : Execs) (t : List Entry) → AreKept c c' (nodes_all es) → StandsEach c es t → StandsEach c' es t
  stands_each_kept c c' None_left t h s = tt
  stands_each_kept c c' (Then e es) t h s =
      (stands_kept c c' e (only (nodes e) t) (k_left c c' (nodes e) (nodes_all es) h) s.0, stands_each_kept c c' es t (k_right c c' (nodes e) (nodes_all es) h) s.1)

  pub stands_at_kept : (c c' : ℕ → Cell) (es : Execs) (k : ℕ) (t : List Entry) → AreKept c c' (nodes_all es) → StandsAt c es k t → StandsAt c' es k t
  stands_at_kept c c' None_left k t h s = tt
  stands_at_kept c c' (Then e es) zero t h s = stands_kept c c' e t (k_left c c' (nodes e) (nodes_all es) h) s
  stands_at_kept c c' (Then e es) (suc k) t h s = stands_at_kept c c' es k t (k_right c c' (nodes e) (nodes_all es) h) s
