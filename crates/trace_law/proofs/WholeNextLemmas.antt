-- L1: a Part is Whole exactly where its Next is empty.
use Rattle.std.specs.Prelude.{◌≡◌, ◌⊎◌, ◌+◌, ℕ, zero, suc, Bool, true, false, ◌==◌, if◌then◌else◌, List, [], ◌∷◌, ◌++◌, length, Option, Some, None, IsSomeAnd}
use Rattle.std.proofs.Common.{refl, inl, inr, arith}
use Rattle.std.proofs.lemmas.Bool.Decides.{nat_tests}
use Rattle.exec_tree.specs.Exec.{LeafKind, Exec, Work, Leaf, Plan, Par, NonSeq, Sel, If, While, Execs, None_left, Then, nodes, count}
use Rattle.trace_law.specs.Of.{only}
use Rattle.trace_law.specs.Whole.{IsCut, IsWork, IsLeaf, EachPicked, AfterPick, AfterTest, Answered, IsLoop, Whole, EachWhole, WholeAt}
use Rattle.trace_law.specs.Own.{picks, pick_of, test_of, Turn, Tested, turns}
use Rattle.trace_law.specs.Part.{LastMayBeCut, IsLoopSoFar, Part, EachPart, InOrder, PartAt}
use Rattle.trace_law.specs.Elements.{part_at}
use Rattle.trace_law.specs.Next.{first_of_two, next_work, next_leaf, next_of_last, next_after, next_picked, next_tested, next_answered, next_loop, next, next_in_order, next_each, next_at}
use Rattle.run_log.specs.declared.entry.Entry.{Entry}
use Rattle.run_log.specs.declared.entry.Entry.TheVariants.{Dispatch, Block, End}

-- ---- lists of numbers

pub first_empty_left : (xs ys : List ℕ) → first_of_two xs ys ≡ [] → xs ≡ []
first_empty_left [] ys e = refl
first_empty_left (x ∷ xs) ys e = e

pub first_empty_right : (xs ys : List ℕ) → first_of_two xs ys ≡ [] → ys ≡ []
first_empty_right [] ys e = e
first_empty_right (x ∷ xs) ys e = cc

pub append_empty_left : (xs ys : List ℕ) → xs ++ ys ≡ [] → xs ≡ []
append_empty_left [] ys e = refl
append_empty_left (x ∷ xs) ys e = cc

pub append_empty_right : (xs ys : List ℕ) → xs ++ ys ≡ [] → ys ≡ []
append_empty_right [] ys e = e
append_empty_right (x ∷ xs) ys e = cc

-- ---- work and leaves

pub cut_empty : (n k : ℕ) (t : List Entry) → IsCut n k t → next_work n t ≡ []
cut_empty n k [] w = absurd w
cut_empty n k (Block m j b ∷ t) w = cut_empty n (k + 1) t w.2
cut_empty n k (End m ∷ []) w = refl
cut_empty n k (End m ∷ x ∷ t) w = absurd w
cut_empty n k (x ∷ t) w = absurd w

pub cut_whole : (n k : ℕ) (t rest : List Entry) → IsCut n k (t ++ rest) → next_work n t ≡ [] → IsCut n k t
cut_whole n k [] rest w e = cc
cut_whole n k (Block m j b ∷ t) rest w e = (w.0, w.1, cut_whole n (k + 1) t rest w.2 e)
cut_whole n k (End m ∷ []) [] w e = w
cut_whole n k (End m ∷ []) (x ∷ rest) w e = absurd w
cut_whole n k (End m ∷ x ∷ t) rest w e = absurd w
cut_whole n k (x ∷ t) rest w e = absurd w

pub work_empty : (n : ℕ) (t : List Entry) → IsWork n t → next_work n t ≡ []
work_empty n [] w = absurd w
work_empty n (Dispatch m v ∷ t) w = cut_empty n 0 t w.1
work_empty n (x ∷ t) w = absurd w

pub work_whole : (n : ℕ) (t rest : List Entry) → IsWork n (t ++ rest) → next_work n t ≡ [] → IsWork n t
work_whole n [] rest w e = cc
work_whole n (Dispatch m v ∷ t) rest w e = (w.0, cut_whole n 0 t rest w.1 e)
work_whole n (x ∷ t) rest w e = absurd w

pub leaf_empty : (k : LeafKind) (n : ℕ) (t : List Entry) → IsLeaf k n t → next_leaf n t ≡ []
leaf_empty k n [] w = absurd w
leaf_empty k n (x ∷ t) w = refl

-- a prefix of a list of one entry is empty or all of it
pub leaf_whole : (k : LeafKind) (n : ℕ) (t rest : List Entry) → IsLeaf k n (t ++ rest) → next_leaf n t ≡ [] → IsLeaf k n t
leaf_whole k n [] rest w e = cc
leaf_whole k n (x ∷ []) [] w e = w
leaf_whole k n (x ∷ []) (y ∷ rest) w e = absurd w
leaf_whole k n (x ∷ y ∷ t) rest w e = absurd w

-- ---- the picked, the tested and the loop

pub last_empty : (whole : ℕ → Type 0) (f : ℕ → List ℕ) (ks : List ℕ) → ((k : ℕ) → whole k → f k ≡ []) → EachPicked whole ks → next_of_last f ks ≡ []
last_empty whole f [] h w = refl
last_empty whole f (k ∷ []) h w = h k w.0
last_empty whole f (k ∷ j ∷ ks) h w = last_empty whole f (j ∷ ks) h w.1

pub last_whole : (whole part : ℕ → Type 0) (f : ℕ → List ℕ) (ks : List ℕ) → ((k : ℕ) → part k → f k ≡ [] → whole k) → LastMayBeCut whole part ks → next_of_last f ks ≡ [] → EachPicked whole ks
last_whole whole part f [] h p e = tt
last_whole whole part f (k ∷ []) h p e = (h k p e, tt)
last_whole whole part f (k ∷ j ∷ ks) h p e = (p.0, last_whole whole part f (j ∷ ks) h p.1 e)

pub all_picked : (n a b : ℕ) → (if a == b then [] else n ∷ []) ≡ [] → a ≡ b
all_picked n a b e = grind (arith, nat_tests)

pub none_left : (n a b : ℕ) → a ≡ b → (if a == b then [] else n ∷ []) ≡ []
none_left n a b e = grind (arith, nat_tests)

loop_empty : (n : ℕ) (whole : List Entry → Type 0) (f : List Entry → List ℕ) (ts : List Turn) → ((u : List Entry) → whole u → f u ≡ []) → IsLoop whole ts → next_loop n f ts ≡ []
loop_empty n whole f [] h w = absurd w
loop_empty n whole f (Tested true t ∷ []) h w = absurd w.1
loop_empty n whole f (Tested false t ∷ []) h w = refl
loop_empty n whole f (Tested true t ∷ r ∷ rest) h w = loop_empty n whole f (r ∷ rest) h w.1
loop_empty n whole f (Tested false t ∷ r ∷ rest) h w = absurd w

loop_whole : (n : ℕ) (whole part : List Entry → Type 0) (f : List Entry → List ℕ) (ts : List Turn) → ((u : List Entry) → part u → f u ≡ [] → whole u) → IsLoopSoFar whole part ts → next_loop n f ts ≡ [] → IsLoop whole ts
loop_whole n whole part f [] h p e = cc
loop_whole n whole part f (Tested true t ∷ []) h p e = let g : n ∷ [] ≡ [] = first_empty_right (f t) (n ∷ []) e in cc
loop_whole n whole part f (Tested false t ∷ []) h p e = p
loop_whole n whole part f (Tested true t ∷ r ∷ rest) h p e = (p.0, loop_whole n whole part f (r ∷ rest) h p.1 e)
loop_whole n whole part f (Tested false t ∷ r ∷ rest) h p e = absurd p

picked_empty_by : (whole : ℕ → List Entry → Type 0) (f : ℕ → List Entry → List ℕ) (o : Option ℕ) (t : List Entry) → ((k : ℕ) (u : List Entry) → whole k u → f k u ≡ []) → IsSomeAnd o (λ k. whole k t) → next_after f o t ≡ []
picked_empty_by whole f None t h w = refl
picked_empty_by whole f (Some k) t h w = h k t w

picked_whole_by : (whole part : ℕ → List Entry → Type 0) (f : ℕ → List Entry → List ℕ) (o : Option ℕ) (t : List Entry) → ((k : ℕ) (u : List Entry) → part k u → f k u ≡ [] → whole k u) → IsSomeAnd o (λ k. part k t) → next_after f o t ≡ [] → IsSomeAnd o (λ k. whole k t)
picked_whole_by whole part f None t h p e = absurd p
picked_whole_by whole part f (Some k) t h p e = h k t p e

tested_empty_by : (whole : Bool → List Entry → Type 0) (f : Bool → List Entry → List ℕ) (o : Option Bool) (t : List Entry) → ((k : Bool) (u : List Entry) → whole k u → f k u ≡ []) → IsSomeAnd o (λ k. whole k t) → next_after f o t ≡ []
tested_empty_by whole f None t h w = refl
tested_empty_by whole f (Some k) t h w = h k t w

tested_whole_by : (whole part : Bool → List Entry → Type 0) (f : Bool → List Entry → List ℕ) (o : Option Bool) (t : List Entry) → ((k : Bool) (u : List Entry) → part k u → f k u ≡ [] → whole k u) → IsSomeAnd o (λ k. part k t) → next_after f o t ≡ [] → IsSomeAnd o (λ k. whole k t)
tested_whole_by whole part f None t h p e = absurd p
tested_whole_by whole part f (Some k) t h p e = h k t p e

picked_empty : (n : ℕ) (whole : ℕ → List Entry → Type 0) (f : ℕ → List Entry → List ℕ) (t : List Entry) → ((k : ℕ) (u : List Entry) → whole k u → f k u ≡ []) → AfterPick n whole t → next_picked n f t ≡ []
picked_empty n whole f [] h w = absurd w
picked_empty n whole f (x ∷ t) h w = picked_empty_by whole f (pick_of n x) t h w

picked_whole : (n : ℕ) (whole part : ℕ → List Entry → Type 0) (f : ℕ → List Entry → List ℕ) (t : List Entry) → ((k : ℕ) (u : List Entry) → part k u → f k u ≡ [] → whole k u) → (t ≡ []) ⊎ AfterPick n part t → next_picked n f t ≡ [] → AfterPick n whole t
picked_whole n whole part f [] h p e = cc
picked_whole n whole part f (x ∷ t) h (inl q) e = absurd (cc)
picked_whole n whole part f (x ∷ t) h (inr q) e = picked_whole_by whole part f (pick_of n x) t h q e

tested_empty : (n : ℕ) (whole : Bool → List Entry → Type 0) (f : Bool → List Entry → List ℕ) (t : List Entry) → ((b : Bool) (u : List Entry) → whole b u → f b u ≡ []) → AfterTest n whole t → next_tested n f t ≡ []
tested_empty n whole f [] h w = absurd w
tested_empty n whole f (x ∷ t) h w = tested_empty_by whole f (test_of n x) t h w

tested_whole : (n : ℕ) (whole part : Bool → List Entry → Type 0) (f : Bool → List Entry → List ℕ) (t : List Entry) → ((b : Bool) (u : List Entry) → part b u → f b u ≡ [] → whole b u) → (t ≡ []) ⊎ AfterTest n part t → next_tested n f t ≡ [] → AfterTest n whole t
tested_whole n whole part f [] h p e = cc
tested_whole n whole part f (x ∷ t) h (inl q) e = absurd (cc)
tested_whole n whole part f (x ∷ t) h (inr q) e = tested_whole_by whole part f (test_of n x) t h q e

-- ---- L1

mutual
  pub empty_from_whole : (e : Exec) (t : List Entry) → Whole e t → next e t ≡ []
  empty_from_whole (Work n) t w = work_empty n t w
  empty_from_whole (Leaf n k) t w = leaf_empty k n t w
  empty_from_whole (Plan n es) t w = empty_in_order es t w.1
  empty_from_whole (Par n es) t w = empty_each es t w.1
  empty_from_whole (NonSeq n es) t w =
      rw (last_empty (λ k. WholeAt es k (part_at es k t)) (λ k. next_at es k (part_at es k t)) (picks n t) (λ k v. empty_at es k (part_at es k t) v) w.3)
      (none_left n (length (picks n t)) (count es) w.2)
  empty_from_whole (Sel n es) t w = picked_empty n (λ k u. WholeAt es k u) (λ k u. next_at es k u) t (λ k u v. empty_at es k u v) w
  empty_from_whole (If n a b) t w =
      tested_empty n (Answered (λ u. Whole a u) (λ u. Whole b u)) (next_answered (λ u. next a u) (λ u. next b u)) t (elim [ true ↦ λ u v. empty_from_whole a u v | false ↦ λ u v. empty_from_whole b u v ]) w
  empty_from_whole (While n a) t w = loop_empty n (λ u. Whole a u) (λ u. next a u) (turns n t) (λ u v. empty_from_whole a u v) w.1

  pub empty_in_order : (es : Execs) (t : List Entry) → EachWhole es t → next_in_order es t ≡ []
  empty_in_order None_left t w = refl
  empty_in_order (Then e es) t w = rw (empty_from_whole e (only (nodes e) t) w.0) (empty_in_order es t w.1)

  pub empty_each : (es : Execs) (t : List Entry) → EachWhole es t → next_each es t ≡ []
  empty_each None_left t w = refl
  empty_each (Then e es) t w = rw (empty_from_whole e (only (nodes e) t) w.0) (empty_each es t w.1)

  pub empty_at : (es : Execs) (k : ℕ) (t : List Entry) → WholeAt es k t → next_at es k t ≡ []
  empty_at None_left k t w = absurd w
  empty_at (Then e es) zero t w = empty_from_whole e t w
  empty_at (Then e es) (suc k) t w = empty_at es k t w

mutual
  pub whole_from_empty : (e : Exec) (t : List Entry) → Part e t → next e t ≡ [] → Whole e t
  whole_from_empty (Work n) t p q = work_whole n t p.0 p.1 q
  whole_from_empty (Leaf n k) t p q = leaf_whole k n t p.0 p.1 q
  whole_from_empty (Plan n es) t p q = (p.0, whole_in_order es t p.1 q)
  whole_from_empty (Par n es) t p q = (p.0, whole_each es t p.1 q)
  whole_from_empty (NonSeq n es) t p q = (
    p.0,
    p.1,
    all_picked n (length (picks n t)) (count es) (first_empty_right (next_of_last (λ k. next_at es k (part_at es k t)) (picks n t)) (if length (picks n t) == count es then [] else n ∷ []) q),
    last_whole (λ k. WholeAt es k (part_at es k t)) (λ k. PartAt es k (part_at es k t)) (λ k. next_at es k (part_at es k t)) (picks n t) (λ k v g. whole_at es k (part_at es k t) v g) p.2 (first_empty_left _ _ q),
  )
  whole_from_empty (Sel n es) t p q = picked_whole n (λ k u. WholeAt es k u) (λ k u. PartAt es k u) (λ k u. next_at es k u) t (λ k u v g. whole_at es k u v g) p q
  whole_from_empty (If n a b) t p q =
      tested_whole n (Answered (λ u. Whole a u) (λ u. Whole b u)) (Answered (λ u. Part a u) (λ u. Part b u)) (next_answered (λ u. next a u) (λ u. next b u)) t (elim [ true ↦ λ u v g. whole_from_empty a u v g | false ↦ λ u v g. whole_from_empty b u v g ]) p q
  whole_from_empty (While n a) t p q =
      (p.0, loop_whole n (λ u. Whole a u) (λ u. Part a u) (λ u. next a u) (turns n t) (λ u v g. whole_from_empty a u v g) p.1 q)

  pub whole_in_order : (es : Execs) (t : List Entry) → InOrder es t → next_in_order es t ≡ [] → EachWhole es t
  whole_in_order None_left t p q = tt
  whole_in_order (Then e es) t p q =
      (whole_from_empty e (only (nodes e) t) p.0 (first_empty_left _ _ q), whole_in_order es t p.2 (first_empty_right (next e (only (nodes e) t)) _ q))

  pub whole_each : (es : Execs) (t : List Entry) → EachPart es t → next_each es t ≡ [] → EachWhole es t
  whole_each None_left t p q = tt
  whole_each (Then e es) t p q =
      (whole_from_empty e (only (nodes e) t) p.0 (append_empty_left _ _ q), whole_each es t p.1 (append_empty_right (next e (only (nodes e) t)) _ q))

  pub whole_at : (es : Execs) (k : ℕ) (t : List Entry) → PartAt es k t → next_at es k t ≡ [] → WholeAt es k t
  whole_at None_left k t p q = absurd p
  whole_at (Then e es) zero t p q = whole_from_empty e t p q
  whole_at (Then e es) (suc k) t p q = whole_at es k t p q
