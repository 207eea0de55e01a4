-- What an entry opens is told at its own node.
use Rattle.std.specs.Prelude.{◌≡◌, ◌==◌, if◌then◌else◌, ℕ, Bool, true, false, List, [], ◌∷◌, Option, Some}
use Rattle.std.proofs.Common.{refl, sym, ◌∙◌, ap}
use Rattle.exec_tree.specs.Exec.{Exec, Work, Leaf, Plan, Par, NonSeq, Sel, If, While, Execs, None_left, Then, nodes, has, number_or_none, count}
use Rattle.trace_law.specs.Of.{number_of, is_of}
use Rattle.trace_law.specs.Own.{pick_of, test_of}
use Rattle.trace_law.specs.Next.{next_in_order}
use Rattle.trace_law.specs.Cells.{Cell}
use Rattle.trace_law.specs.Frames.{is_shared, left}
use Rattle.trace_law.specs.Leading.{has_none}
use Rattle.run_log.specs.declared.entry.Entry.{Entry}
use Rattle.trace_law.proofs.ArriveLemmas.{if_some_none}
use Rattle.frame_law.specs.Executable.{executable_at, executable_among}
use Rattle.frame_law.specs.Onward.{Onward, Done, PicksOn, TestsAgain, opened_or, joined_or, onward, onward_in_order, onward_among}
use Rattle.frame_law.specs.ComeTo.{come_to_in_order}
use Rattle.frame_law.specs.Looks.{way_opens, opens, opens_in_order, opens_among, opened}
use Rattle.trace_law.proofs.AfterLemmas.{of_number}
use Rattle.frame_law.proofs.OutsideLemmas.{other_pick, other_test}

opened_opens : (c : ℕ → Cell) (l : List ℕ) (es : Execs) (k : Onward) → way_opens c (opened_or l es k) ≡ (if has_none l then way_opens c k else come_to_in_order es [])
opened_opens c [] es k = refl
opened_opens c (n ∷ l) es k = refl

joined_opens : (c : ℕ → Cell) (b : Bool) (n : ℕ) (k : Onward) → (if b then (if left (c n) == 1 then way_opens c k else []) else way_opens c k) ≡ way_opens c (joined_or b n k)
joined_opens c true n k = refl
joined_opens c false n k = refl

plan_opens : (c : ℕ → Cell) (n : Option ℕ) (es : Execs) (x : Entry) (k : Onward) (m : ℕ) → opens_in_order c es x (way_opens c k) ≡ opens c (executable_among es m) x (way_opens c (onward_in_order es k m)) → (own : Bool) → opens c (Plan n es) x (way_opens c k) ≡ opens c (if own then Plan n es else executable_among es m) x (way_opens c (if own then k else onward_in_order es k m))
plan_opens c n es x k m rec true = refl
plan_opens c n es x k m rec false = rec

par_opens : (c : ℕ → Cell) (n : ℕ) (es : Execs) (x : Entry) (k : Onward) (m : ℕ) → (let j : Onward = joined_or (is_shared es) n k in opens_among c es x (way_opens c j) ≡ opens c (executable_among es m) x (way_opens c (onward_among es j m))) → (own : Bool) → opens c (Par n es) x (way_opens c k) ≡ opens c (if own then Par n es else executable_among es m) x (way_opens c (if own then k else onward_among es (joined_or (is_shared es) n k) m))
par_opens c n es x k m rec true = refl
par_opens c n es x k m rec false = ap (opens_among c es x) (joined_opens c (is_shared es) n k) ∙ rec

picks_opens : (c : ℕ → Cell) (n : ℕ) (es : Execs) (x : Entry) (k : Onward) (m : ℕ) → number_of x ≡ Some m → opens_among c es x (way_opens c (PicksOn n (count es) k)) ≡ opens c (executable_among es m) x (way_opens c (onward_among es (PicksOn n (count es) k) m)) → (b : Bool) → (n == m) ≡ b → opens c (NonSeq n es) x (way_opens c k) ≡ opens c (if b then NonSeq n es else executable_among es m) x (way_opens c (if b then k else onward_among es (PicksOn n (count es) k) m))
picks_opens c n es x k m s rec true e = refl
picks_opens c n es x k m s rec false e = if_some_none (pick_of n x) _ _ (other_pick n m x s e) ∙ rec

sel_opens : (c : ℕ → Cell) (n : ℕ) (es : Execs) (x : Entry) (k : Onward) (m : ℕ) → number_of x ≡ Some m → opens_among c es x (way_opens c k) ≡ opens c (executable_among es m) x (way_opens c (onward_among es k m)) → (b : Bool) → (n == m) ≡ b → opens c (Sel n es) x (way_opens c k) ≡ opens c (if b then Sel n es else executable_among es m) x (way_opens c (if b then k else onward_among es k m))
sel_opens c n es x k m s rec true e = refl
sel_opens c n es x k m s rec false e = if_some_none (pick_of n x) _ _ (other_pick n m x s e) ∙ rec

either_opens : (c : ℕ → Cell) (a b : Exec) (x : Entry) (k : Onward) (m : ℕ) → number_of x ≡ Some m → opens c a x (way_opens c k) ≡ opens c (executable_at a m) x (way_opens c (onward a k m)) → opens c b x (way_opens c k) ≡ opens c (executable_at b m) x (way_opens c (onward b k m)) → (is_in : Bool) → has (nodes a) m ≡ is_in → (if is_of (nodes a) x then opens c a x (way_opens c k) else opens c b x (way_opens c k)) ≡ opens c (if is_in then executable_at a m else executable_at b m) x (way_opens c (if is_in then onward a k m else onward b k m))
either_opens c a b x k m s first second true e = rw (of_number (nodes a) x m s, e) first
either_opens c a b x k m s first second false e = rw (of_number (nodes a) x m s, e) second

if_opens : (c : ℕ → Cell) (n : ℕ) (a b : Exec) (x : Entry) (k : Onward) (m : ℕ) (f : Exec) (j : Onward) → number_of x ≡ Some m → (if is_of (nodes a) x then opens c a x (way_opens c k) else opens c b x (way_opens c k)) ≡ opens c f x (way_opens c j) → (own : Bool) → (n == m) ≡ own → opens c (If n a b) x (way_opens c k) ≡ opens c (if own then If n a b else f) x (way_opens c (if own then k else j))
if_opens c n a b x k m f j s rec true e = refl
if_opens c n a b x k m f j s rec false e = if_some_none (test_of n x) _ _ (other_test n m x s e) ∙ rec

while_opens : (c : ℕ → Cell) (n : ℕ) (a : Exec) (x : Entry) (k : Onward) (m : ℕ) → number_of x ≡ Some m → opens c a x [] ≡ opens c (executable_at a m) x (way_opens c (onward a (TestsAgain n) m)) → (own : Bool) → (n == m) ≡ own → opens c (While n a) x (way_opens c k) ≡ opens c (if own then While n a else executable_at a m) x (way_opens c (if own then k else onward a (TestsAgain n) m))
while_opens c n a x k m s rec true e = refl
while_opens c n a x k m s rec false e = if_some_none (test_of n x) _ _ (other_test n m x s e) ∙ rec

first_opens : (c : ℕ → Cell) (e : Exec) (es : Execs) (x : Entry) (k : Onward) (m : ℕ) → number_of x ≡ Some m → (let j : Onward = opened_or (next_in_order es []) es k in opens c e x (way_opens c j) ≡ opens c (executable_at e m) x (way_opens c (onward e j m))) → opens_in_order c es x (way_opens c k) ≡ opens c (executable_among es m) x (way_opens c (onward_in_order es k m)) → (is_in : Bool) → has (nodes e) m ≡ is_in → opens_in_order c (Then e es) x (way_opens c k) ≡ opens c (if is_in then executable_at e m else executable_among es m) x (way_opens c (if is_in then onward e (opened_or (next_in_order es []) es k) m else onward_in_order es k m))
first_opens c e es x k m s first rest true h =
    rw (of_number (nodes e) x m s, h) (ap (opens c e x) (sym (opened_opens c (next_in_order es []) es k)) ∙ first)
first_opens c e es x k m s first rest false h = rw (of_number (nodes e) x m s, h) rest

one_opens : (c : ℕ → Cell) (e : Exec) (es : Execs) (x : Entry) (k : Onward) (m : ℕ) → number_of x ≡ Some m → opens c e x (way_opens c k) ≡ opens c (executable_at e m) x (way_opens c (onward e k m)) → opens_among c es x (way_opens c k) ≡ opens c (executable_among es m) x (way_opens c (onward_among es k m)) → (is_in : Bool) → has (nodes e) m ≡ is_in → opens_among c (Then e es) x (way_opens c k) ≡ opens c (if is_in then executable_at e m else executable_among es m) x (way_opens c (if is_in then onward e k m else onward_among es k m))
one_opens c e es x k m s first rest true h = rw (of_number (nodes e) x m s, h) first
one_opens c e es x k m s first rest false h = rw (of_number (nodes e) x m s, h) rest

mutual
  pub told : (c : ℕ → Cell) (e : Exec) (x : Entry) (k : Onward) (m : ℕ) → number_of x ≡ Some m → opens c e x (way_opens c k) ≡ opens c (executable_at e m) x (way_opens c (onward e k m))
  told c (Work n) x k m s = refl
  told c (Leaf n l) x k m s = refl
  told c (Plan n es) x k m s = plan_opens c n es x k m (told_in_order c es x k m s) (has (number_or_none n) m)
  told c (Par n es) x k m s = par_opens c n es x k m (told_among c es x (joined_or (is_shared es) n k) m s) (n == m)
  told c (NonSeq n es) x k m s = picks_opens c n es x k m s (told_among c es x (PicksOn n (count es) k) m s) (n == m) refl
  told c (Sel n es) x k m s = sel_opens c n es x k m s (told_among c es x k m s) (n == m) refl
  told c (If n a b) x k m s = if_opens c n a b x k m _ _ s (either_opens c a b x k m s (told c a x k m s) (told c b x k m s) (has (nodes a) m) refl) (n == m) refl
  told c (While n a) x k m s = while_opens c n a x k m s (told c a x (TestsAgain n) m s) (n == m) refl

  told_in_order : (c : ℕ → Cell) (es : Execs) (x : Entry) (k : Onward) (m : ℕ) → number_of x ≡ Some m → opens_in_order c es x (way_opens c k) ≡ opens c (executable_among es m) x (way_opens c (onward_in_order es k m))
  told_in_order c None_left x k m s = refl
  told_in_order c (Then e es) x k m s =
      first_opens c e es x k m s (told c e x (opened_or (next_in_order es []) es k) m s) (told_in_order c es x k m s) (has (nodes e) m) refl

  told_among : (c : ℕ → Cell) (es : Execs) (x : Entry) (k : Onward) (m : ℕ) → number_of x ≡ Some m → opens_among c es x (way_opens c k) ≡ opens c (executable_among es m) x (way_opens c (onward_among es k m))
  told_among c None_left x k m s = refl
  told_among c (Then e es) x k m s = one_opens c e es x k m s (told c e x k m s) (told_among c es x k m s) (has (nodes e) m) refl

-- what the whole opens is what is opened at the node
pub opens_at_node : (c : ℕ → Cell) (e : Exec) (x : Entry) (m : ℕ) → number_of x ≡ Some m → opens c e x [] ≡ opened c e x m
opens_at_node c e x m s = told c e x Done m s
