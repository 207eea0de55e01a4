-- What is said of a node outside of some: it isn't in the executable that is found, nor touched on the way.
use Rattle.std.specs.Prelude.{◌≡◌, ◌==◌, ◌||◌, if◌then◌else◌, ℕ, Bool, true, false, List, [], ◌∷◌, ◌++◌, length, Some, None}
use Rattle.std.proofs.Common.{refl, sym, ◌∙◌}
use Rattle.exec_tree.specs.Exec.{Exec, Work, Leaf, Plan, Par, NonSeq, Sel, If, While, Execs, None_left, Then, nodes, nodes_all, has, number_or_none, count, AreDistinct}
use Rattle.trace_law.specs.Of.{number_of, is_of}
use Rattle.trace_law.specs.Own.{pick_of, test_of}
use Rattle.trace_law.specs.Next.{next_in_order}
use Rattle.trace_law.specs.Cells.{Cell, picked}
use Rattle.trace_law.specs.Frames.{is_shared, left}
use Rattle.run_log.specs.declared.entry.Entry.{Entry}
use Rattle.trace_law.proofs.StepLemmas.{or_false_left, or_false_right, has-append, distinct_across, here}
use Rattle.trace_law.proofs.StepForthLemmas.{not_same_back}
use Rattle.trace_law.proofs.ContinueLemmas.{clash}
use Rattle.trace_law.proofs.AfterLemmas.{of_number}
use Rattle.trace_law.proofs.StayLemmas.{not_true}
use Rattle.trace_law.proofs.FrameMoveLemmas.{no_pick, no_test}
use Rattle.frame_law.specs.Executable.{executable_at, executable_among}
use Rattle.frame_law.specs.Onward.{Onward, PicksOn, TestsAgain, opened_or, joined_or, onward, onward_in_order, onward_among}
use Rattle.frame_law.specs.Way.{touched}

-- ---- lists of numbers

pub no_left : (ms ns : List ℕ) (q : ℕ) → has (ms ++ ns) q ≡ false → has ms q ≡ false
no_left ms ns q h = or_false_left _ (has ns q) (sym (has-append ms ns q) ∙ h)

pub no_right : (ms ns : List ℕ) (q : ℕ) → has (ms ++ ns) q ≡ false → has ns q ≡ false
no_right ms ns q h = or_false_right (has ms q) _ (sym (has-append ms ns q) ∙ h)

pub not_first : (n : ℕ) (ns : List ℕ) (q : ℕ) → has (n ∷ ns) q ≡ false → (n == q) ≡ false
not_first n ns q h = or_false_left (n == q) (has ns q) h

pub not_rest : (n : ℕ) (ns : List ℕ) (q : ℕ) → has (n ∷ ns) q ≡ false → has ns q ≡ false
not_rest n ns q h = or_false_right (n == q) (has ns q) h

pub yes_left : (ms ns : List ℕ) (q : ℕ) → has ms q ≡ true → has (ms ++ ns) q ≡ true
yes_left ms ns q h = has-append ms ns q ∙ rw h refl

or_true : (b : Bool) → (b || true) ≡ true
or_true true = refl
or_true false = refl

pub yes_right : (ms ns : List ℕ) (q : ℕ) → has ns q ≡ true → has (ms ++ ns) q ≡ true
yes_right ms ns q h = has-append ms ns q ∙ rw h (or_true (has ms q))

pub across_back : (ms ns : List ℕ) (q : ℕ) → AreDistinct (ms ++ ns) → has ns q ≡ true → has ms q ≡ false
across_back ms ns q d h = not_true (has ms q) (λ f. clash (has ns q) h (distinct_across ms ns q d f))

-- ---- the entry's number

pub has_number : (ns : List ℕ) (x : Entry) (m : ℕ) (b : Bool) → number_of x ≡ Some m → is_of ns x ≡ b → has ns m ≡ b
has_number ns x m b s h = sym (of_number ns x m s) ∙ h

alone : (n m : ℕ) → (n == m) ≡ false → has (m ∷ []) n ≡ false
alone n m e = rw (not_same_back n m e) refl

mine : (x : Entry) (m : ℕ) → number_of x ≡ Some m → is_of (m ∷ []) x ≡ true
mine x m s = of_number (m ∷ []) x m s ∙ alone_yes m
  where
    alone_yes : (m : ℕ) → has (m ∷ []) m ≡ true
    alone_yes m = here m m [] refl

pub other_pick : (n m : ℕ) (x : Entry) → number_of x ≡ Some m → (n == m) ≡ false → pick_of n x ≡ None
other_pick n m x s e = no_pick n (m ∷ []) x (alone n m e) (mine x m s) (pick_of n x) refl

pub other_test : (n m : ℕ) (x : Entry) → number_of x ≡ Some m → (n == m) ≡ false → test_of n x ≡ None
other_test n m x s e = no_test n (m ∷ []) x (alone n m e) (mine x m s) (test_of n x) refl

-- ---- the executable that is found lies within

of_either : (b : Bool) (f g : Exec) (q : ℕ) → has (nodes f) q ≡ false → has (nodes g) q ≡ false → has (nodes (if b then f else g)) q ≡ false
of_either true f g q h i = h
of_either false f g q h i = i

mutual
  pub found_within : (e : Exec) (m q : ℕ) → has (nodes e) q ≡ false → has (nodes (executable_at e m)) q ≡ false
  found_within (Work n) m q h = h
  found_within (Leaf n k) m q h = h
  found_within (Plan n es) m q h = of_either (has (number_or_none n) m) _ _ q h (found_among es m q (no_right (number_or_none n) (nodes_all es) q h))
  found_within (Par n es) m q h = of_either (n == m) _ _ q h (found_among es m q (not_rest n (nodes_all es) q h))
  found_within (NonSeq n es) m q h = of_either (n == m) _ _ q h (found_among es m q (not_rest n (nodes_all es) q h))
  found_within (Sel n es) m q h = of_either (n == m) _ _ q h (found_among es m q (not_rest n (nodes_all es) q h))
  found_within (If n a b) m q h =
      let r : has (nodes a ++ nodes b) q ≡ false = not_rest n (nodes a ++ nodes b) q h in
      of_either (n == m) _ _ q h
      (of_either (has (nodes a) m) _ _ q (found_within a m q (no_left (nodes a) (nodes b) q r)) (found_within b m q (no_right (nodes a) (nodes b) q r)))
  found_within (While n a) m q h = of_either (n == m) _ _ q h (found_within a m q (not_rest n (nodes a) q h))

  pub found_among : (es : Execs) (m q : ℕ) → has (nodes_all es) q ≡ false → has (nodes (executable_among es m)) q ≡ false
  found_among None_left m q h = refl
  found_among (Then e es) m q h =
      of_either (has (nodes e) m) _ _ q (found_within e m q (no_left (nodes e) (nodes_all es) q h)) (found_among es m q (no_right (nodes e) (nodes_all es) q h))

-- ---- and so does what is touched, but for what is touched from k on

way_either : (c : ℕ → Cell) (b : Bool) (k j : Onward) (q : ℕ) → has (touched c k) q ≡ false → has (touched c j) q ≡ false → has (touched c (if b then k else j)) q ≡ false
way_either c true k j q h i = h
way_either c false k j q h i = i

pub list_either : (b : Bool) (l : List ℕ) (q : ℕ) → has l q ≡ false → has (if b then l else []) q ≡ false
list_either true l q h = h
list_either false l q h = refl

pub opened_outside : (c : ℕ → Cell) (l : List ℕ) (es : Execs) (k : Onward) (q : ℕ) → has (nodes_all es) q ≡ false → has (touched c k) q ≡ false → has (touched c (opened_or l es k)) q ≡ false
opened_outside c [] es k q h i = i
opened_outside c (n ∷ l) es k q h i = h

pub joined_outside : (c : ℕ → Cell) (b : Bool) (n : ℕ) (k : Onward) (q : ℕ) → (n == q) ≡ false → has (touched c k) q ≡ false → has (touched c (joined_or b n k)) q ≡ false
joined_outside c true n k q h i = rw h (list_either (left (c n) == 1) (touched c k) q i)
joined_outside c false n k q h i = i

pub picks_outside : (c : ℕ → Cell) (n total : ℕ) (k : Onward) (q : ℕ) → has (touched c k) q ≡ false → has (touched c (PicksOn n total k)) q ≡ false
picks_outside c n total k q i = list_either (length (picked (c n)) == total) (touched c k) q i

mutual
  pub touched_within : (c : ℕ → Cell) (e : Exec) (k : Onward) (m q : ℕ) → has (nodes e) q ≡ false → has (touched c k) q ≡ false → has (touched c (onward e k m)) q ≡ false
  touched_within c (Work n) k m q h i = i
  touched_within c (Leaf n l) k m q h i = i
  touched_within c (Plan n es) k m q h i = way_either c (has (number_or_none n) m) k _ q i (touched_in_order c es k m q (no_right (number_or_none n) (nodes_all es) q h) i)
  touched_within c (Par n es) k m q h i =
      way_either c (n == m) k _ q i
      (touched_among c es (joined_or (is_shared es) n k) m q (not_rest n (nodes_all es) q h) (joined_outside c (is_shared es) n k q (not_first n (nodes_all es) q h) i))
  touched_within c (NonSeq n es) k m q h i =
      way_either c (n == m) k _ q i (touched_among c es (PicksOn n (count es) k) m q (not_rest n (nodes_all es) q h) (picks_outside c n (count es) k q i))
  touched_within c (Sel n es) k m q h i = way_either c (n == m) k _ q i (touched_among c es k m q (not_rest n (nodes_all es) q h) i)
  touched_within c (If n a b) k m q h i =
      let r : has (nodes a ++ nodes b) q ≡ false = not_rest n (nodes a ++ nodes b) q h in
      way_either c (n == m) k _ q i
      (way_either c (has (nodes a) m) _ _ q (touched_within c a k m q (no_left (nodes a) (nodes b) q r) i) (touched_within c b k m q (no_right (nodes a) (nodes b) q r) i))
  touched_within c (While n a) k m q h i = way_either c (n == m) k _ q i (touched_within c a (TestsAgain n) m q (not_rest n (nodes a) q h) refl)

  pub touched_in_order : (c : ℕ → Cell) (es : Execs) (k : Onward) (m q : ℕ) → has (nodes_all es) q ≡ false → has (touched c k) q ≡ false → has (touched c (onward_in_order es k m)) q ≡ false
  touched_in_order c None_left k m q h i = refl
  touched_in_order c (Then e es) k m q h i =
      let r : has (nodes_all es) q ≡ false = no_right (nodes e) (nodes_all es) q h in
      way_either c (has (nodes e) m) _ _ q
      (touched_within c e (opened_or (next_in_order es []) es k) m q (no_left (nodes e) (nodes_all es) q h) (opened_outside c (next_in_order es []) es k q r i))
      (touched_in_order c es k m q r i)

  pub touched_among : (c : ℕ → Cell) (es : Execs) (k : Onward) (m q : ℕ) → has (nodes_all es) q ≡ false → has (touched c k) q ≡ false → has (touched c (onward_among es k m)) q ≡ false
  touched_among c None_left k m q h i = refl
  touched_among c (Then e es) k m q h i =
      way_either c (has (nodes e) m) _ _ q
      (touched_within c e k m q (no_left (nodes e) (nodes_all es) q h) i) (touched_among c es k m q (no_right (nodes e) (nodes_all es) q h) i)
