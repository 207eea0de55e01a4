-- Next and offers under other numbers.
use Rattle.std.specs.Prelude.{◌≡◌, ◌==◌, if◌then◌else◌, ℕ, zero, suc, Bool, true, false, List, [], ◌∷◌, ◌++◌, map, length, option_map, Option, Some, None}
use Rattle.std.proofs.Common.{refl, sym, ◌∙◌, ap, arith}
use Rattle.std.proofs.lemmas.Bool.Decides.{nat_tests}
use Rattle.exec_tree.specs.Exec.{Exec, Work, Leaf, Plan, Par, NonSeq, Sel, If, While, Execs, None_left, Then, nodes, nodes_all, has, count}
use Rattle.trace_law.specs.Of.{has_some, number_of, is_of, only}
use Rattle.trace_law.specs.Own.{pick_of, test_of, picks, Turn, Tested, lead, lead_by, turns, turns_by}
use Rattle.trace_law.specs.Elements.{nodes_at, part_at}
use Rattle.trace_law.specs.Next.{first_of_two, next_work, next_leaf, next_of_last, next_after, next_picked, next_tested, next_answered, next_loop, next, next_in_order, next_each, next_at}
use Rattle.trace_law.specs.State.{stage_from, stage_step}
use Rattle.trace_law.specs.Cells.{last_body}
use Rattle.trace_law.specs.Offer.{offer_of_work, offer, offer_among}
use Rattle.run_log.specs.declared.entry.Entry.{Entry}
use Rattle.run_log.specs.declared.entry.Entry.TheVariants.{Dispatch, Block, End, Pick, Test, Assign, Set, Pass, Note, Edit}
use Rattle.run_frames.specs.Renaming.{IsOneToOne, renamed, renamed_all, entry_renamed}

-- what is the same by its test is the same
pub same_number : (n m : ℕ) → (n == m) ≡ true → n ≡ m
same_number n m e = grind (arith, nat_tests)

same_eq : (r : ℕ → ℕ) → IsOneToOne r → (a b : ℕ) → (r a == r b) ≡ (a == b)
same_eq r i a b = go (a == b) refl (r a == r b) refl
  where
    go : (u : Bool) → (a == b) ≡ u → (v : Bool) → (r a == r b) ≡ v → (r a == r b) ≡ (a == b)
    go true e true f = f ∙ sym e
    go true e false f = let g : r a ≡ r b = ap r (same_number a b e) in let h : (r a == r b) ≡ true = grind (arith, nat_tests) in h ∙ sym e
    go false e true f = let g : a ≡ b = i a b (same_number (r a) (r b) f) in let h : (a == b) ≡ true = grind (arith, nat_tests) in f ∙ sym h
    go false e false f = f ∙ sym e

pub append_map : (r : ℕ → ℕ) (a b : List ℕ) → map r (a ++ b) ≡ map r a ++ map r b
append_map r [] b = refl
append_map r (x ∷ a) b = ap (λ (l : List ℕ). r x ∷ l) (append_map r a b)

pub has_map : (r : ℕ → ℕ) → IsOneToOne r → (ns : List ℕ) (m : ℕ) → has (map r ns) (r m) ≡ has ns m
has_map r i [] m = refl
has_map r i (n ∷ ns) m = rw (same_eq r i n m, has_map r i ns m) refl

some_map : (r : ℕ → ℕ) → IsOneToOne r → (ns : List ℕ) (o : Option ℕ) → has_some (map r ns) (option_map r o) ≡ has_some ns o
some_map r i ns None = refl
some_map r i ns (Some n) = has_map r i ns n

pub number_map : (r : ℕ → ℕ) (x : Entry) → number_of (entry_renamed r x) ≡ option_map r (number_of x)
number_map r (Dispatch n v) = refl
number_map r (Block n k b) = refl
number_map r (End n) = refl
number_map r (Pick n k) = refl
number_map r (Test n b) = refl
number_map r (Assign n x) = refl
number_map r (Set n) = refl
number_map r (Pass n) = refl
number_map r (Note n) = refl
number_map r (Edit i v) = refl

pub is_of_map : (r : ℕ → ℕ) → IsOneToOne r → (ns : List ℕ) (x : Entry) → is_of (map r ns) (entry_renamed r x) ≡ is_of ns x
is_of_map r i ns x = ap (has_some (map r ns)) (number_map r x) ∙ some_map r i ns (number_of x)

only_map : (r : ℕ → ℕ) → IsOneToOne r → (ns : List ℕ) (t : List Entry) → only (map r ns) (map (entry_renamed r) t) ≡ map (entry_renamed r) (only ns t)
only_map r i ns [] = refl
only_map r i ns (x ∷ t) = go (is_of ns x) refl (only_map r i ns t)
  where
    go : (b : Bool) → is_of ns x ≡ b → only (map r ns) (map (entry_renamed r) t) ≡ map (entry_renamed r) (only ns t) → only (map r ns) (map (entry_renamed r) (x ∷ t)) ≡ map (entry_renamed r) (only ns (x ∷ t))
    go true e h = let f : is_of (map r ns) (entry_renamed r x) ≡ true = is_of_map r i ns x ∙ e in rw (f, e) (ap (λ (l : List Entry). entry_renamed r x ∷ l) h)
    go false e h = let f : is_of (map r ns) (entry_renamed r x) ≡ false = is_of_map r i ns x ∙ e in rw (f, e) h

mutual
  pub nodes_map : (r : ℕ → ℕ) (e : Exec) → nodes (renamed r e) ≡ map r (nodes e)
  nodes_map r (Work n) = refl
  nodes_map r (Leaf n k) = refl
  nodes_map r (Plan None es) = nodes_all_map r es
  nodes_map r (Plan (Some n) es) = ap (λ (l : List ℕ). r n ∷ l) (nodes_all_map r es)
  nodes_map r (Par n es) = ap (λ (l : List ℕ). r n ∷ l) (nodes_all_map r es)
  nodes_map r (NonSeq n es) = ap (λ (l : List ℕ). r n ∷ l) (nodes_all_map r es)
  nodes_map r (Sel n es) = ap (λ (l : List ℕ). r n ∷ l) (nodes_all_map r es)
  nodes_map r (If n a b) = ap (λ (l : List ℕ). r n ∷ l) (rw (nodes_map r a, nodes_map r b) (sym (append_map r (nodes a) (nodes b))))
  nodes_map r (While n a) = ap (λ (l : List ℕ). r n ∷ l) (nodes_map r a)

  pub nodes_all_map : (r : ℕ → ℕ) (es : Execs) → nodes_all (renamed_all r es) ≡ map r (nodes_all es)
  nodes_all_map r None_left = refl
  nodes_all_map r (Then e es) = rw (nodes_map r e, nodes_all_map r es) (sym (append_map r (nodes e) (nodes_all es)))

pub part_map : (r : ℕ → ℕ) → IsOneToOne r → (e : Exec) (t : List Entry) → only (nodes (renamed r e)) (map (entry_renamed r) t) ≡ map (entry_renamed r) (only (nodes e) t)
part_map r i e t = ap (λ (ns : List ℕ). only ns (map (entry_renamed r) t)) (nodes_map r e) ∙ only_map r i (nodes e) t

nodes_at_map : (r : ℕ → ℕ) (es : Execs) (k : ℕ) → nodes_at (renamed_all r es) k ≡ map r (nodes_at es k)
nodes_at_map r None_left k = refl
nodes_at_map r (Then e es) zero = nodes_map r e
nodes_at_map r (Then e es) (suc k) = nodes_at_map r es k

pub part_at_map : (r : ℕ → ℕ) → IsOneToOne r → (es : Execs) (k : ℕ) (t : List Entry) → part_at (renamed_all r es) k (map (entry_renamed r) t) ≡ map (entry_renamed r) (part_at es k t)
part_at_map r i es k t = ap (λ (ns : List ℕ). only ns (map (entry_renamed r) t)) (nodes_at_map r es k) ∙ only_map r i (nodes_at es k) t

count_map : (r : ℕ → ℕ) (es : Execs) → count (renamed_all r es) ≡ count es
count_map r None_left = refl
count_map r (Then e es) = ap (λ (n : ℕ). suc n) (count_map r es)

pub pick_map : (r : ℕ → ℕ) → IsOneToOne r → (n : ℕ) (x : Entry) → pick_of (r n) (entry_renamed r x) ≡ pick_of n x
pick_map r i n (Pick m k) = rw (same_eq r i m n) refl
pick_map r i n (Dispatch m v) = refl
pick_map r i n (Block m k b) = refl
pick_map r i n (End m) = refl
pick_map r i n (Test m b) = refl
pick_map r i n (Assign m x) = refl
pick_map r i n (Set m) = refl
pick_map r i n (Pass m) = refl
pick_map r i n (Note m) = refl
pick_map r i n (Edit j v) = refl

pub test_map : (r : ℕ → ℕ) → IsOneToOne r → (n : ℕ) (x : Entry) → test_of (r n) (entry_renamed r x) ≡ test_of n x
test_map r i n (Test m k) = rw (same_eq r i m n) refl
test_map r i n (Dispatch m v) = refl
test_map r i n (Block m k b) = refl
test_map r i n (End m) = refl
test_map r i n (Pick m b) = refl
test_map r i n (Assign m x) = refl
test_map r i n (Set m) = refl
test_map r i n (Pass m) = refl
test_map r i n (Note m) = refl
test_map r i n (Edit j v) = refl

pub picks_map : (r : ℕ → ℕ) → IsOneToOne r → (n : ℕ) (t : List Entry) → picks (r n) (map (entry_renamed r) t) ≡ picks n t
picks_map r i n [] = refl
picks_map r i n (x ∷ t) = rw (pick_map r i n x, picks_map r i n t) refl

abbrev pub turn : (ℕ → ℕ) → Turn → Turn
turn r (Tested b t) = Tested b (map (entry_renamed r) t)

lead_map : (r : ℕ → ℕ) → IsOneToOne r → (n : ℕ) (t : List Entry) → lead (r n) (map (entry_renamed r) t) ≡ map (entry_renamed r) (lead n t)
lead_map r i n [] = refl
lead_map r i n (x ∷ t) = rw (test_map r i n x) (go (test_of n x) (lead_map r i n t))
  where
    go : (o : Option Bool) → lead (r n) (map (entry_renamed r) t) ≡ map (entry_renamed r) (lead n t) → lead_by o (entry_renamed r x) (lead (r n) (map (entry_renamed r) t)) ≡ map (entry_renamed r) (lead_by o x (lead n t))
    go None h = ap (λ (l : List Entry). entry_renamed r x ∷ l) h
    go (Some b) h = refl

pub turns_map : (r : ℕ → ℕ) → IsOneToOne r → (n : ℕ) (t : List Entry) → turns (r n) (map (entry_renamed r) t) ≡ map (turn r) (turns n t)
turns_map r i n [] = refl
turns_map r i n (x ∷ t) = rw (test_map r i n x) (go (test_of n x) (turns_map r i n t))
  where
    go : (o : Option Bool) → turns (r n) (map (entry_renamed r) t) ≡ map (turn r) (turns n t) → turns_by o (lead (r n) (map (entry_renamed r) t)) (turns (r n) (map (entry_renamed r) t)) ≡ map (turn r) (turns_by o (lead n t) (turns n t))
    go None h = h
    go (Some b) h = rw (lead_map r i n t, h) refl

first_map : (r : ℕ → ℕ) (a b : List ℕ) → first_of_two (map r a) (map r b) ≡ map r (first_of_two a b)
first_map r [] b = refl
first_map r (x ∷ a) b = refl

work_map : (r : ℕ → ℕ) (n : ℕ) (t : List Entry) → next_work (r n) (map (entry_renamed r) t) ≡ map r (next_work n t)
work_map r n [] = refl
work_map r n (End m ∷ []) = refl
work_map r n (End m ∷ y ∷ t) = work_map r n (y ∷ t)
work_map r n (x ∷ t) = work_map r n t

leaf_map : (r : ℕ → ℕ) (n : ℕ) (t : List Entry) → next_leaf (r n) (map (entry_renamed r) t) ≡ map r (next_leaf n t)
leaf_map r n [] = refl
leaf_map r n (x ∷ t) = refl

last_map : (r : ℕ → ℕ) (f g : ℕ → List ℕ) (ks : List ℕ) → ((k : ℕ) → f k ≡ map r (g k)) → next_of_last f ks ≡ map r (next_of_last g ks)
last_map r f g [] h = refl
last_map r f g (k ∷ []) h = h k
last_map r f g (k ∷ j ∷ ks) h = last_map r f g (j ∷ ks) h

if_map : (r : ℕ → ℕ) (b : Bool) (n : ℕ) → (if b then [] else r n ∷ []) ≡ map r (if b then [] else n ∷ [])
if_map r true n = refl
if_map r false n = refl

loop_map : (r : ℕ → ℕ) (n : ℕ) (f g : List Entry → List ℕ) (ts : List Turn) → ((u : List Entry) → f (map (entry_renamed r) u) ≡ map r (g u)) → next_loop (r n) f (map (turn r) ts) ≡ map r (next_loop n g ts)
loop_map r n f g [] h = refl
loop_map r n f g (Tested true t ∷ []) h = ap (λ (l : List ℕ). first_of_two l (r n ∷ [])) (h t) ∙ first_map r (g t) (n ∷ [])
loop_map r n f g (Tested false t ∷ []) h = refl
loop_map r n f g (Tested b t ∷ Tested a u ∷ rest) h = loop_map r n f g (Tested a u ∷ rest) h

pub body_map : (r : ℕ → ℕ) (ts : List Turn) → last_body (map (turn r) ts) ≡ map (entry_renamed r) (last_body ts)
body_map r [] = refl
body_map r (Tested b t ∷ []) = refl
body_map r (Tested b t ∷ Tested a u ∷ rest) = body_map r (Tested a u ∷ rest)

picked_map : (r : ℕ → ℕ) → IsOneToOne r → (n : ℕ) (f g : ℕ → List Entry → List ℕ) (t : List Entry) → ((k : ℕ) (u : List Entry) → f k (map (entry_renamed r) u) ≡ map r (g k u)) → next_picked (r n) f (map (entry_renamed r) t) ≡ map r (next_picked n g t)
picked_map r i n f g [] h = refl
picked_map r i n f g (x ∷ t) h = rw (pick_map r i n x) (go (pick_of n x))
  where
    go : (o : Option ℕ) → next_after f o (map (entry_renamed r) t) ≡ map r (next_after g o t)
    go None = refl
    go (Some k) = h k t

tested_map : (r : ℕ → ℕ) → IsOneToOne r → (n : ℕ) (f g f' g' : List Entry → List ℕ) (t : List Entry) → ((u : List Entry) → f (map (entry_renamed r) u) ≡ map r (f' u)) → ((u : List Entry) → g (map (entry_renamed r) u) ≡ map r (g' u)) → next_tested (r n) (next_answered f g) (map (entry_renamed r) t) ≡ map r (next_tested n (next_answered f' g') t)
tested_map r i n f g f' g' [] h j = refl
tested_map r i n f g f' g' (x ∷ t) h j = rw (test_map r i n x) (go (test_of n x))
  where
    go : (o : Option Bool) → next_after (next_answered f g) o (map (entry_renamed r) t) ≡ map r (next_after (next_answered f' g') o t)
    go None = refl
    go (Some true) = h t
    go (Some false) = j t

mutual
  pub next_map : (r : ℕ → ℕ) → IsOneToOne r → (e : Exec) (t : List Entry) → next (renamed r e) (map (entry_renamed r) t) ≡ map r (next e t)
  next_map r i (Work n) t = work_map r n t
  next_map r i (Leaf n k) t = leaf_map r n t
  next_map r i (Plan n es) t = order_map r i es t
  next_map r i (Par n es) t = each_map r i es t
  next_map r i (NonSeq n es) t =
      rw (picks_map r i n t, count_map r es)
      (rw (
        last_map r (λ k. next_at (renamed_all r es) k (part_at (renamed_all r es) k (map (entry_renamed r) t))) (λ k. next_at es k (part_at es k t)) (picks n t)
            (λ k. ap (next_at (renamed_all r es) k) (part_at_map r i es k t) ∙ at_map r i es k (part_at es k t)),
        if_map r (length (picks n t) == count es) n,
      )
      (first_map r (next_of_last (λ k. next_at es k (part_at es k t)) (picks n t)) (if length (picks n t) == count es then [] else n ∷ [])))
  next_map r i (Sel n es) t = picked_map r i n (λ k u. next_at (renamed_all r es) k u) (λ k u. next_at es k u) t (λ k u. at_map r i es k u)
  next_map r i (If n a b) t =
      tested_map r i n (λ u. next (renamed r a) u) (λ u. next (renamed r b) u) (λ u. next a u) (λ u. next b u) t (λ u. next_map r i a u) (λ u. next_map r i b u)
  next_map r i (While n a) t =
      ap (next_loop (r n) (λ u. next (renamed r a) u)) (turns_map r i n t) ∙ loop_map r n (λ u. next (renamed r a) u) (λ u. next a u) (turns n t) (λ u. next_map r i a u)

  order_map : (r : ℕ → ℕ) → IsOneToOne r → (es : Execs) (t : List Entry) → next_in_order (renamed_all r es) (map (entry_renamed r) t) ≡ map r (next_in_order es t)
  order_map r i None_left t = refl
  order_map r i (Then e es) t =
      rw (part_map r i e t, next_map r i e (only (nodes e) t), order_map r i es t) (first_map r (next e (only (nodes e) t)) (next_in_order es t))

  each_map : (r : ℕ → ℕ) → IsOneToOne r → (es : Execs) (t : List Entry) → next_each (renamed_all r es) (map (entry_renamed r) t) ≡ map r (next_each es t)
  each_map r i None_left t = refl
  each_map r i (Then e es) t =
      rw (part_map r i e t, next_map r i e (only (nodes e) t), each_map r i es t) (sym (append_map r (next e (only (nodes e) t)) (next_each es t)))

  at_map : (r : ℕ → ℕ) → IsOneToOne r → (es : Execs) (k : ℕ) (t : List Entry) → next_at (renamed_all r es) k (map (entry_renamed r) t) ≡ map r (next_at es k t)
  at_map r i None_left k t = refl
  at_map r i (Then e es) zero t = next_map r i e t
  at_map r i (Then e es) (suc k) t = at_map r i es k t

-- ---- offers

step_map : (r : ℕ → ℕ) → IsOneToOne r → (n : ℕ) (o : Option ℕ) (x : Entry) → stage_step (r n) o (entry_renamed r x) ≡ stage_step n o x
step_map r i n o (Dispatch m v) = rw (same_eq r i m n) refl
step_map r i n o (Block m k b) = rw (same_eq r i m n) refl
step_map r i n o (End m) = rw (same_eq r i m n) refl
step_map r i n o (Pick m k) = refl
step_map r i n o (Test m b) = refl
step_map r i n o (Assign m x) = refl
step_map r i n o (Set m) = refl
step_map r i n o (Pass m) = refl
step_map r i n o (Note m) = refl
step_map r i n o (Edit j v) = refl

stage_map : (r : ℕ → ℕ) → IsOneToOne r → (n : ℕ) (o : Option ℕ) (t : List Entry) → stage_from (r n) o (map (entry_renamed r) t) ≡ stage_from n o t
stage_map r i n o [] = refl
stage_map r i n o (x ∷ t) = ap (λ (w : Option ℕ). stage_from (r n) w (map (entry_renamed r) t)) (step_map r i n o x) ∙ stage_map r i n (stage_step n o x) t

has_nodes : (r : ℕ → ℕ) → IsOneToOne r → (e : Exec) (m : ℕ) → has (nodes (renamed r e)) (r m) ≡ has (nodes e) m
has_nodes r i e m = ap (λ (ns : List ℕ). has ns (r m)) (nodes_map r e) ∙ has_map r i (nodes e) m

mutual
  pub offer_map : (r : ℕ → ℕ) → IsOneToOne r → (e : Exec) (t : List Entry) (m : ℕ) → offer (renamed r e) (map (entry_renamed r) t) (r m) ≡ offer e t m
  offer_map r i (Work n) t m = ap offer_of_work (stage_map r i m None t)
  offer_map r i (Leaf n k) t m = refl
  offer_map r i (Plan n es) t m = among_map r i es t m
  offer_map r i (Par n es) t m = among_map r i es t m
  offer_map r i (NonSeq n es) t m = rw (same_eq r i n m, picks_map r i n t, count_map r es, among_map r i es t m) refl
  offer_map r i (Sel n es) t m = rw (same_eq r i n m, count_map r es, among_map r i es t m) refl
  offer_map r i (If n a b) t m =
      rw (same_eq r i n m, has_nodes r i a m, has_nodes r i b m, part_map r i a t, part_map r i b t, offer_map r i a (only (nodes a) t) m, offer_map r i b (only (nodes b) t) m) refl
  offer_map r i (While n a) t m =
      rw (same_eq r i n m, turns_map r i n t, body_map r (turns n t), offer_map r i a (last_body (turns n t)) m) refl

  among_map : (r : ℕ → ℕ) → IsOneToOne r → (es : Execs) (t : List Entry) (m : ℕ) → offer_among (renamed_all r es) (map (entry_renamed r) t) (r m) ≡ offer_among es t m
  among_map r i None_left t m = refl
  among_map r i (Then e es) t m = rw (has_nodes r i e m, part_map r i e t, offer_map r i e (only (nodes e) t) m, among_map r i es t m) refl
