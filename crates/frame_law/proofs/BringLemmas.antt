-- What comes in by an entry is told at its own node.
use Rattle.std.specs.Prelude.{◌≡◌, ◌==◌, if◌then◌else◌, ℕ, Bool, true, false, List, [], ◌∷◌, Option, Some}
use Rattle.std.proofs.Common.{refl, sym, ◌∙◌, ap}
use Rattle.exec_tree.specs.Exec.{Exec, Work, Leaf, Plan, Par, NonSeq, Sel, If, While, Execs, None_left, Then, nodes, has, number_or_none, count}
use Rattle.trace_law.specs.Of.{number_of, is_of}
use Rattle.trace_law.specs.Own.{pick_of, test_of}
use Rattle.trace_law.specs.Next.{first_of_two, next_in_order}
use Rattle.trace_law.specs.Cells.{Cell}
use Rattle.trace_law.specs.Frames.{is_shared, left}
use Rattle.trace_law.specs.Coming.{came, came_in_order, came_among}
use Rattle.run_log.specs.declared.entry.Entry.{Entry}
use Rattle.trace_law.proofs.ArriveLemmas.{if_some_none}
use Rattle.frame_law.specs.Executable.{executable_at, executable_among}
use Rattle.frame_law.specs.Onward.{Onward, PicksOn, TestsAgain, opened_or, joined_or, onward, onward_in_order, onward_among, brings}
use Rattle.trace_law.proofs.AfterLemmas.{of_number}
use Rattle.frame_law.proofs.OutsideLemmas.{other_pick, other_test}

opened_brings : (c : ℕ → Cell) (l : List ℕ) (es : Execs) (k : Onward) → next_in_order es [] ≡ l → brings c (opened_or l es k) ≡ first_of_two l (brings c k)
opened_brings c [] es k e = refl
opened_brings c (n ∷ l) es k e = e

joined_brings : (c : ℕ → Cell) (b : Bool) (n : ℕ) (k : Onward) → (if b then (if left (c n) == 1 then brings c k else []) else brings c k) ≡ brings c (joined_or b n k)
joined_brings c true n k = refl
joined_brings c false n k = refl

plan_brings : (c : ℕ → Cell) (n : Option ℕ) (es : Execs) (x : Entry) (k : Onward) (m : ℕ) → came_in_order c es x (brings c k) ≡ came c (executable_among es m) x (brings c (onward_in_order es k m)) → (own : Bool) → came c (Plan n es) x (brings c k) ≡ came c (if own then Plan n es else executable_among es m) x (brings c (if own then k else onward_in_order es k m))
plan_brings c n es x k m rec true = refl
plan_brings c n es x k m rec false = rec

par_brings : (c : ℕ → Cell) (n : ℕ) (es : Execs) (x : Entry) (k : Onward) (m : ℕ) → (let j : Onward = joined_or (is_shared es) n k in came_among c es x (brings c j) ≡ came c (executable_among es m) x (brings c (onward_among es j m))) → (own : Bool) → came c (Par n es) x (brings c k) ≡ came c (if own then Par n es else executable_among es m) x (brings c (if own then k else onward_among es (joined_or (is_shared es) n k) m))
par_brings c n es x k m rec true = refl
par_brings c n es x k m rec false = ap (came_among c es x) (joined_brings c (is_shared es) n k) ∙ rec

picks_brings : (c : ℕ → Cell) (n : ℕ) (es : Execs) (x : Entry) (k : Onward) (m : ℕ) → number_of x ≡ Some m → came_among c es x (brings c (PicksOn n (count es) k)) ≡ came c (executable_among es m) x (brings c (onward_among es (PicksOn n (count es) k) m)) → (b : Bool) → (n == m) ≡ b → came c (NonSeq n es) x (brings c k) ≡ came c (if b then NonSeq n es else executable_among es m) x (brings c (if b then k else onward_among es (PicksOn n (count es) k) m))
picks_brings c n es x k m s rec true e = refl
picks_brings c n es x k m s rec false e = if_some_none (pick_of n x) _ _ (other_pick n m x s e) ∙ rec

sel_brings : (c : ℕ → Cell) (n : ℕ) (es : Execs) (x : Entry) (k : Onward) (m : ℕ) → number_of x ≡ Some m → came_among c es x (brings c k) ≡ came c (executable_among es m) x (brings c (onward_among es k m)) → (b : Bool) → (n == m) ≡ b → came c (Sel n es) x (brings c k) ≡ came c (if b then Sel n es else executable_among es m) x (brings c (if b then k else onward_among es k m))
sel_brings c n es x k m s rec true e = refl
sel_brings c n es x k m s rec false e = if_some_none (pick_of n x) _ _ (other_pick n m x s e) ∙ rec

either_brings : (c : ℕ → Cell) (a b : Exec) (x : Entry) (k : Onward) (m : ℕ) → number_of x ≡ Some m → came c a x (brings c k) ≡ came c (executable_at a m) x (brings c (onward a k m)) → came c b x (brings c k) ≡ came c (executable_at b m) x (brings c (onward b k m)) → (is_in : Bool) → has (nodes a) m ≡ is_in → (if is_of (nodes a) x then came c a x (brings c k) else came c b x (brings c k)) ≡ came c (if is_in then executable_at a m else executable_at b m) x (brings c (if is_in then onward a k m else onward b k m))
either_brings c a b x k m s first second true e = rw (of_number (nodes a) x m s, e) first
either_brings c a b x k m s first second false e = rw (of_number (nodes a) x m s, e) second

if_brings : (c : ℕ → Cell) (n : ℕ) (a b : Exec) (x : Entry) (k : Onward) (m : ℕ) (f : Exec) (j : Onward) → number_of x ≡ Some m → (if is_of (nodes a) x then came c a x (brings c k) else came c b x (brings c k)) ≡ came c f x (brings c j) → (own : Bool) → (n == m) ≡ own → came c (If n a b) x (brings c k) ≡ came c (if own then If n a b else f) x (brings c (if own then k else j))
if_brings c n a b x k m f j s rec true e = refl
if_brings c n a b x k m f j s rec false e = if_some_none (test_of n x) _ _ (other_test n m x s e) ∙ rec

while_brings : (c : ℕ → Cell) (n : ℕ) (a : Exec) (x : Entry) (k : Onward) (m : ℕ) → number_of x ≡ Some m → came c a x (n ∷ []) ≡ came c (executable_at a m) x (brings c (onward a (TestsAgain n) m)) → (own : Bool) → (n == m) ≡ own → came c (While n a) x (brings c k) ≡ came c (if own then While n a else executable_at a m) x (brings c (if own then k else onward a (TestsAgain n) m))
while_brings c n a x k m s rec true e = refl
while_brings c n a x k m s rec false e = if_some_none (test_of n x) _ _ (other_test n m x s e) ∙ rec

first_brings : (c : ℕ → Cell) (e : Exec) (es : Execs) (x : Entry) (k : Onward) (m : ℕ) → number_of x ≡ Some m → (let j : Onward = opened_or (next_in_order es []) es k in came c e x (brings c j) ≡ came c (executable_at e m) x (brings c (onward e j m))) → came_in_order c es x (brings c k) ≡ came c (executable_among es m) x (brings c (onward_in_order es k m)) → (is_in : Bool) → has (nodes e) m ≡ is_in → came_in_order c (Then e es) x (brings c k) ≡ came c (if is_in then executable_at e m else executable_among es m) x (brings c (if is_in then onward e (opened_or (next_in_order es []) es k) m else onward_in_order es k m))
first_brings c e es x k m s first rest true h =
    rw (of_number (nodes e) x m s, h) (ap (came c e x) (sym (opened_brings c (next_in_order es []) es k refl)) ∙ first)
first_brings c e es x k m s first rest false h = rw (of_number (nodes e) x m s, h) rest

one_brings : (c : ℕ → Cell) (e : Exec) (es : Execs) (x : Entry) (k : Onward) (m : ℕ) → number_of x ≡ Some m → came c e x (brings c k) ≡ came c (executable_at e m) x (brings c (onward e k m)) → came_among c es x (brings c k) ≡ came c (executable_among es m) x (brings c (onward_among es k m)) → (is_in : Bool) → has (nodes e) m ≡ is_in → came_among c (Then e es) x (brings c k) ≡ came c (if is_in then executable_at e m else executable_among es m) x (brings c (if is_in then onward e k m else onward_among es k m))
one_brings c e es x k m s first rest true h = rw (of_number (nodes e) x m s, h) first
one_brings c e es x k m s first rest false h = rw (of_number (nodes e) x m s, h) rest

mutual
  pub brought : (c : ℕ → Cell) (e : Exec) (x : Entry) (k : Onward) (m : ℕ) → number_of x ≡ Some m → came c e x (brings c k) ≡ came c (executable_at e m) x (brings c (onward e k m))
  brought c (Work n) x k m s = refl
  brought c (Leaf n l) x k m s = refl
  brought c (Plan n es) x k m s = plan_brings c n es x k m (brought_in_order c es x k m s) (has (number_or_none n) m)
  brought c (Par n es) x k m s = par_brings c n es x k m (brought_among c es x (joined_or (is_shared es) n k) m s) (n == m)
  brought c (NonSeq n es) x k m s = picks_brings c n es x k m s (brought_among c es x (PicksOn n (count es) k) m s) (n == m) refl
  brought c (Sel n es) x k m s = sel_brings c n es x k m s (brought_among c es x k m s) (n == m) refl
  brought c (If n a b) x k m s = if_brings c n a b x k m _ _ s (either_brings c a b x k m s (brought c a x k m s) (brought c b x k m s) (has (nodes a) m) refl) (n == m) refl
  brought c (While n a) x k m s = while_brings c n a x k m s (brought c a x (TestsAgain n) m s) (n == m) refl

  brought_in_order : (c : ℕ → Cell) (es : Execs) (x : Entry) (k : Onward) (m : ℕ) → number_of x ≡ Some m → came_in_order c es x (brings c k) ≡ came c (executable_among es m) x (brings c (onward_in_order es k m))
  brought_in_order c None_left x k m s = refl
  brought_in_order c (Then e es) x k m s =
      first_brings c e es x k m s (brought c e x (opened_or (next_in_order es []) es k) m s) (brought_in_order c es x k m s) (has (nodes e) m) refl

  brought_among : (c : ℕ → Cell) (es : Execs) (x : Entry) (k : Onward) (m : ℕ) → number_of x ≡ Some m → came_among c es x (brings c k) ≡ came c (executable_among es m) x (brings c (onward_among es k m))
  brought_among c None_left x k m s = refl
  brought_among c (Then e es) x k m s = one_brings c e es x k m s (brought c e x k m s) (brought_among c es x k m s) (has (nodes e) m) refl
