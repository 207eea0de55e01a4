-- Where loops and choices can go on.
use Rattle.std.specs.Prelude.{◌≡◌, ◌<◌, ◌≤◌, ℕ, zero, suc, Bool, true, false, not, if◌then◌else◌, is_some, List, [], ◌∷◌, length, Option, Some, None}
use Rattle.std.specs.Option.{option_or, option_map_or}
use Rattle.std.proofs.Common.{refl, sym, ap, ◌∙◌, arith, get_or}
use Rattle.exec_tree.specs.Exec.{Exec, nodes, count}
use Rattle.exec_tree.specs.Arena.{to_execs, first_of, second_of, tree_down}
use Rattle.exec_tree.specs.declared.node.BareNode.{BareNode}
use Rattle.run_log.specs.declared.entry.Entry.{Entry}
use Rattle.run_log.specs.declared.entry.Entry.TheVariants.{Dispatch, Block, End, Pick, Test, Assign, Set, Pass, Note, Edit}
use Rattle.trace_law.specs.Own.{Turn, Tested, test_of, turns, turns_by, lead}
use Rattle.trace_law.specs.Elements.{nodes_at}
use Rattle.trace_law.specs.Next.{next, next_at, next_work, next_loop, next_of_last, first_of_two}
use Rattle.trace_law.specs.Cells.{last_answer, last_body}
use Rattle.trace_law.specs.Below.{trees_down}
use Rattle.trace_law.specs.Last.{is_end, goes_on_from, answer_from, body_from, last_from}

by_end : (n : ℕ) (x : Entry) → next_work n (x ∷ []) ≡ (if not (is_end x) then n ∷ [] else [])
by_end n (Dispatch m v) = refl
by_end n (Block m k b) = refl
by_end n (End m) = refl
by_end n (Pick m k) = refl
by_end n (Test m b) = refl
by_end n (Assign m v) = refl
by_end n (Set m) = refl
by_end n (Pass m) = refl
by_end n (Note m) = refl
by_end n (Edit i w) = refl

by_rest : (n : ℕ) (x y : Entry) (t : List Entry) → next_work n (x ∷ y ∷ t) ≡ next_work n (y ∷ t)
by_rest n (Dispatch m v) y t = refl
by_rest n (Block m k b) y t = refl
by_rest n (End m) y t = refl
by_rest n (Pick m k) y t = refl
by_rest n (Test m b) y t = refl
by_rest n (Assign m v) y t = refl
by_rest n (Set m) y t = refl
by_rest n (Pass m) y t = refl
by_rest n (Note m) y t = refl
by_rest n (Edit i w) y t = refl

work_more : (n : ℕ) (x : Entry) (t : List Entry) → next_work n (x ∷ t) ≡ (if goes_on_from (not (is_end x)) t then n ∷ [] else [])
work_more n x [] = by_end n x
work_more n x (y ∷ t) = by_rest n x y t ∙ work_more n y t

pub work_is : (n : ℕ) (t : List Entry) → next_work n t ≡ (if goes_on_from true t then n ∷ [] else [])
work_is n [] = refl
work_is n (x ∷ t) = work_more n x t

-- ---- elements

pub first_at : (es : List Exec) (t : List Entry) → next_at (to_execs es) 0 t ≡ next (first_of es) t
first_at [] t = refl
first_at (e ∷ es) t = refl

pub second_at : (es : List Exec) (t : List Entry) → next_at (to_execs es) 1 t ≡ next (second_of es) t
second_at [] t = refl
second_at (e ∷ []) t = refl
second_at (e ∷ d ∷ es) t = refl

pub count_is : (arena : List BareNode) (levels : ℕ) (places : List ℕ) → count (to_execs (trees_down arena levels places)) ≡ length places
count_is arena levels [] = refl
count_is arena levels (p ∷ places) = let e = count_is arena levels places in omega (arith, e)

-- the element at an index
pub nodes_place : (arena : List BareNode) (levels : ℕ) (places : List ℕ) (k p : ℕ) → k < length places → p ≡ get_or places k p → nodes_at (to_execs (trees_down arena levels places)) k ≡ nodes (tree_down arena levels p)
nodes_place arena levels [] k p lt e = absurd (omega (arith, lt))
nodes_place arena levels (q ∷ places) zero p lt e = ap (λ (r : ℕ). nodes (tree_down arena levels r)) (sym e)
nodes_place arena levels (q ∷ places) (suc k) p lt e = nodes_place arena levels places k p (omega (arith, lt)) e

pub nodes_none : (arena : List BareNode) (levels : ℕ) (places : List ℕ) (k : ℕ) → length places ≤ k → nodes_at (to_execs (trees_down arena levels places)) k ≡ []
nodes_none arena levels [] k le = refl
nodes_none arena levels (q ∷ places) zero le = absurd (omega (arith, le))
nodes_none arena levels (q ∷ places) (suc k) le = nodes_none arena levels places k (omega (arith, le))

pub next_place : (arena : List BareNode) (levels : ℕ) (places : List ℕ) (k p : ℕ) (t : List Entry) → k < length places → p ≡ get_or places k p → next_at (to_execs (trees_down arena levels places)) k t ≡ next (tree_down arena levels p) t
next_place arena levels [] k p t lt e = absurd (omega (arith, lt))
next_place arena levels (q ∷ places) zero p t lt e = ap (λ (r : ℕ). next (tree_down arena levels r) t) (sym e)
next_place arena levels (q ∷ places) (suc k) p t lt e = next_place arena levels places k p t (omega (arith, lt)) e

pub next_none : (arena : List BareNode) (levels : ℕ) (places : List ℕ) (k : ℕ) (t : List Entry) → length places ≤ k → next_at (to_execs (trees_down arena levels places)) k t ≡ []
next_none arena levels [] k t le = refl
next_none arena levels (q ∷ places) zero t le = absurd (omega (arith, le))
next_none arena levels (q ∷ places) (suc k) t le = next_none arena levels places k t (omega (arith, le))

-- ---- loops

some_answer : (r : Turn) (ts : List Turn) → (b : Bool) × (last_answer (r ∷ ts) ≡ Some b)
some_answer (Tested b u) [] = (b, refl)
some_answer r (s ∷ ts) = some_answer s ts

answer_by : (o : Option Bool) (u : List Entry) (ts : List Turn) → last_answer (turns_by o u ts) ≡ option_or (last_answer ts) o
answer_by None u [] = refl
answer_by None u (r ∷ ts) = let z = some_answer r ts in rw z.1 refl
answer_by (Some b) u [] = refl
answer_by (Some b) u (r ∷ ts) = let z = some_answer r ts in rw z.1 refl

-- the last answer, with an entry before
answer_more : (n : ℕ) (x : Entry) (t : List Entry) → last_answer (turns n (x ∷ t)) ≡ option_or (last_answer (turns n t)) (test_of n x)
answer_more n x t = answer_by (test_of n x) (lead n t) (turns n t)

lead_all : (n : ℕ) (t : List Entry) → turns n t ≡ [] → lead n t ≡ t
lead_all n [] e = refl
lead_all n (x ∷ t) e = go (test_of n x) refl e (lead_all n t)
  where
    go : (o : Option Bool) → test_of n x ≡ o → turns n (x ∷ t) ≡ [] → (turns n t ≡ [] → lead n t ≡ t) → lead n (x ∷ t) ≡ x ∷ t
    go None f g h = rw f (ap (λ (u : List Entry). x ∷ u) (h (rw f at g)))
    go (Some b) f g h = let z : Tested b (lead n t) ∷ turns n t ≡ [] = rw f at g in absurd (cc)

-- what follows the last test, with an entry before
body_more : (n : ℕ) (x : Entry) (t : List Entry) → last_body (turns n (x ∷ t)) ≡ (if is_some (last_answer (turns n t)) then last_body (turns n t) else (if is_some (test_of n x) then t else []))
body_more n x t = go (test_of n x) (turns n t) refl refl
  where
    go : (o : Option Bool) (ts : List Turn) → test_of n x ≡ o → turns n t ≡ ts → last_body (turns n (x ∷ t)) ≡ (if is_some (last_answer (turns n t)) then last_body (turns n t) else (if is_some (test_of n x) then t else []))
    go None [] e f = rw (e, f) refl
    go None (r ∷ ts) e f = let z = some_answer r ts in rw (e, f, z.1) refl
    go (Some b) [] e f = rw (e, f) (lead_all n t f)
    go (Some b) (r ∷ ts) e f = let z = some_answer r ts in rw (e, f, z.1) refl

-- where a loop goes on, by its last answer
abbrev pub loop_by : ℕ → Option Bool → List ℕ → List ℕ
loop_by n None body = n ∷ []
loop_by n (Some true) body = first_of_two body (n ∷ [])
loop_by n (Some false) body = []

loop_is : (n : ℕ) (f : List Entry → List ℕ) (ts : List Turn) → next_loop n f ts ≡ loop_by n (last_answer ts) (f (last_body ts))
loop_is n f [] = refl
loop_is n f (Tested true u ∷ []) = refl
loop_is n f (Tested false u ∷ []) = refl
loop_is n f (r ∷ s ∷ ts) = loop_is n f (s ∷ ts)

or_or : (a b c : Option Bool) → option_or a (option_or b c) ≡ option_or (option_or a b) c
or_or None b c = refl
or_or (Some a) b c = refl

answer_then : (n : ℕ) (o : Option Bool) (t : List Entry) → answer_from n o t ≡ option_or (last_answer (turns n t)) o
answer_then n o [] = refl
answer_then n o (x ∷ t) =
    answer_then n (option_or (test_of n x) o) t ∙ (or_or (last_answer (turns n t)) (test_of n x) o ∙ ap (λ (a : Option Bool). option_or a o) (sym (answer_more n x t)))

or_none : (o : Option Bool) → option_or o None ≡ o
or_none None = refl
or_none (Some b) = refl

pub answer_is : (n : ℕ) (t : List Entry) → answer_from n None t ≡ last_answer (turns n t)
answer_is n t = answer_then n None t ∙ or_none (last_answer (turns n t))

body_then : (n : ℕ) (u t : List Entry) → body_from n u t ≡ (if is_some (last_answer (turns n t)) then last_body (turns n t) else u)
body_then n u [] = refl
body_then n u (x ∷ t) =
    body_then n (if is_some (test_of n x) then t else u) t ∙ go (last_answer (turns n t)) (test_of n x) refl refl
  where
    go : (a o : Option Bool) → last_answer (turns n t) ≡ a → test_of n x ≡ o
        → (if is_some (last_answer (turns n t)) then last_body (turns n t) else (if is_some (test_of n x) then t else u)) ≡ (if is_some (last_answer (turns n (x ∷ t))) then last_body (turns n (x ∷ t)) else u)
    go None None e f = rw (answer_more n x t, body_more n x t, e, f) refl
    go None (Some b) e f = rw (answer_more n x t, body_more n x t, e, f) refl
    go (Some a) o e f = rw (answer_more n x t, body_more n x t, e) refl

no_body : (ts : List Turn) → (if is_some (last_answer ts) then last_body ts else []) ≡ last_body ts
no_body [] = refl
no_body (r ∷ ts) = let z = some_answer r ts in rw z.1 refl

pub body_is : (n : ℕ) (t : List Entry) → body_from n [] t ≡ last_body (turns n t)
body_is n t = body_then n [] t ∙ no_body (turns n t)

last_more : (f : ℕ → List ℕ) (k : ℕ) (ks : List ℕ) → next_of_last f (k ∷ ks) ≡ option_map_or f (last_from (Some k) ks) []
last_more f k [] = refl
last_more f k (j ∷ ks) = last_more f j ks

last_by : (f : ℕ → List ℕ) (ks : List ℕ) → next_of_last f ks ≡ option_map_or f (last_from None ks) []
last_by f [] = refl
last_by f (k ∷ ks) = last_more f k ks

-- where a loop can go on, by what its last test answered
pub while_is : (n : ℕ) (f : List Entry → List ℕ) (t : List Entry) → next_loop n f (turns n t) ≡ loop_by n (answer_from n None t) (f (body_from n [] t))
while_is n f t = loop_is n f (turns n t) ∙ rw (answer_is n t, body_is n t) refl

-- where a non-sequential can go on, by its last pick
pub nonseq_is : (f : ℕ → List ℕ) (ks own : List ℕ) → first_of_two (next_of_last f ks) own ≡ first_of_two (option_map_or f (last_from None ks) []) own
nonseq_is f ks own = ap (λ (ns : List ℕ). first_of_two ns own) (last_by f ks)
