-- How many nodes an entry looks at, by what it opens.
use Rattle.std.specs.Prelude.{◌≡◌, ◌≤◌, ◌==◌, ◌+◌, ◌*◌, if◌then◌else◌, ℕ, zero, suc, Bool, true, false, is_some, List, [], ◌∷◌, ◌++◌, length, Option, Some, None}
use Rattle.std.specs.Option.{option_map_or}
use Rattle.std.proofs.Common.{refl, sym, subst, arith}
use Rattle.std.proofs.Math.Nat.{le-max_left, le-max_right}
use Rattle.std.proofs.lemmas.List.{length-append}
use Rattle.exec_tree.specs.Exec.{Exec, Work, Leaf, Plan, Par, NonSeq, Sel, If, While, Execs, None_left, Then, nodes, has, number_or_none, count}
use Rattle.trace_law.specs.Own.{pick_of, test_of}
use Rattle.trace_law.specs.Next.{next, next_in_order, next_at}
use Rattle.trace_law.specs.Cells.{Cell, Over, picked, work_after}
use Rattle.trace_law.specs.Coming.{if_some}
use Rattle.trace_law.specs.Frames.{is_shared, left}
use Rattle.trace_law.specs.Leading.{has_none}
use Rattle.run_log.specs.declared.entry.Entry.{Entry}
use Rattle.frame_law.specs.Executable.{executable_at, executable_among, own_number, element}
use Rattle.frame_law.specs.Onward.{Onward, Done, Opens, Joins, PicksOn, TestsAgain, opened_or, joined_or, onward, onward_in_order, onward_among}
use Rattle.frame_law.specs.ComeTo.{come_to, come_to_in_order, come_to_each, come_to_at, nesting, nesting_all}
use Rattle.frame_law.specs.Looks.{finding, finding_first, opening, opening_first, opening_each, way_looks, picks_on, where_over, element_looks, node_looks, looks, if_over, way_opens, opens, opened, AreNumbered, AreNumberedAll}
use Rattle.frame_law.proofs.OpenedLemmas.{element_next}

-- ---- what is opened

first_step : (a r : ℕ) (l k : List ℕ) (b : Bool) → a ≤ 2 * length l → r ≤ 2 * length k → (if b then r else a) ≤ 2 * length (l ++ (if b then k else []))
first_step a r l k true p q = let e : length (l ++ k) ≡ length l + length k = length-append l k in omega (arith, q, e)
first_step a r l k false p q = let e : length (l ++ []) ≡ length l + 0 = length-append l [] in omega (arith, p, e)

each_step : (f a r : ℕ) (l k : List ℕ) (b : Bool) → f ≡ 1 → a + 1 ≤ 2 * length l → r ≤ 2 * length k → f + (if b then 0 else a) + r ≤ 2 * length (l ++ k)
each_step f a r l k true o p q = let e : length (l ++ k) ≡ length l + length k = length-append l k in omega (arith, o, p, q, e)
each_step f a r l k false o p q = let e : length (l ++ k) ≡ length l + length k = length-append l k in omega (arith, o, p, q, e)

shared_step : (a b : ℕ) (l : List ℕ) (n : ℕ) (r : List ℕ) (s : Bool) → a ≤ 2 * length l → b ≤ 2 * length l → (if s then a + 1 else b) + 1 ≤ 2 * length (n ∷ l)
shared_step a b l n r true p q = omega (arith, p)
shared_step a b l n r false p q = omega (arith, q)

finding_one : (e : Exec) → is_some (own_number e) ≡ true → finding e ≡ 1
finding_one (Work n) h = refl
finding_one (Leaf n k) h = refl
finding_one (Plan None es) h = absurd (cc)
finding_one (Plan (Some n) es) h = refl
finding_one (Par n es) h = refl
finding_one (NonSeq n es) h = refl
finding_one (Sel n es) h = refl
finding_one (If n a b) h = refl
finding_one (While n a) h = refl

weaker : (a b : ℕ) → a + 1 ≤ b → a ≤ b
weaker a b h = omega (arith, h)

-- the in-order list of elements is no longer than that of all
in_order_short : (es : Execs) → length (come_to_in_order es []) ≤ length (come_to_each es [])
in_order_short None_left = omega arith
in_order_short (Then e es) = go (has_none (next e [])) (in_order_short es)
  where
    go : (b : Bool) → length (come_to_in_order es []) ≤ length (come_to_each es []) → length (come_to e [] ++ (if b then come_to_in_order es [] else [])) ≤ length (come_to e [] ++ come_to_each es [])
    go true h =
        let i : length (come_to e [] ++ come_to_in_order es []) ≡ length (come_to e []) + length (come_to_in_order es []) = length-append (come_to e []) (come_to_in_order es []) in
        let j : length (come_to e [] ++ come_to_each es []) ≡ length (come_to e []) + length (come_to_each es []) = length-append (come_to e []) (come_to_each es []) in
        omega (arith, i, j, h)
    go false h =
        let i : length (come_to e [] ++ []) ≡ length (come_to e []) + 0 = length-append (come_to e []) [] in
        let j : length (come_to e [] ++ come_to_each es []) ≡ length (come_to e []) + length (come_to_each es []) = length-append (come_to e []) (come_to_each es []) in
        omega (arith, i, j)

mutual
  pub opening_few : (e : Exec) → AreNumbered e → opening e ≤ 2 * length (come_to e [])
  opening_few (Work n) v = omega arith
  opening_few (Leaf n k) v = omega arith
  opening_few (Plan None es) v = first_few es v
  opening_few (Plan (Some n) es) v = omega (arith, first_few es v)
  opening_few (Par n es) v = weaker _ _ (shared_step (opening_each es) (opening_first es) (come_to_each es []) n [] (is_shared es) (each_few es v) (let a = first_few es v in omega (arith, a, in_order_short es)))
  opening_few (NonSeq n es) v = omega arith
  opening_few (Sel n es) v = omega arith
  opening_few (If n a b) v = omega arith
  opening_few (While n a) v = omega arith

  opening_one : (e : Exec) → AreNumbered e → is_some (own_number e) ≡ true → opening e + 1 ≤ 2 * length (come_to e [])
  opening_one (Work n) v h = omega arith
  opening_one (Leaf n k) v h = omega arith
  opening_one (Plan None es) v h = absurd (cc)
  opening_one (Plan (Some n) es) v h = omega (arith, first_few es v)
  opening_one (Par n es) v h = shared_step (opening_each es) (opening_first es) (come_to_each es []) n [] (is_shared es) (each_few es v) (let a = first_few es v in omega (arith, a, in_order_short es))
  opening_one (NonSeq n es) v h = omega arith
  opening_one (Sel n es) v h = omega arith
  opening_one (If n a b) v h = omega arith
  opening_one (While n a) v h = omega arith

  pub first_few : (es : Execs) → AreNumberedAll es → opening_first es ≤ 2 * length (come_to_in_order es [])
  first_few None_left v = omega arith
  first_few (Then e es) v = first_step (opening e) (opening_first es) (come_to e []) (come_to_in_order es []) (has_none (next e [])) (opening_few e v.1) (first_few es v.2)

  each_few : (es : Execs) → AreNumberedAll es → opening_each es ≤ 2 * length (come_to_each es [])
  each_few None_left v = omega arith
  each_few (Then e es) v =
      each_step (finding e) (opening e) (opening_each es) (come_to e []) (come_to_each es []) (has_none (next e [])) (finding_one e v.0) (opening_one e v.1 v.0) (each_few es v.2)

-- to find and to open
both_step : (f a g r : ℕ) (l k : List ℕ) (b : Bool) → f ≡ 1 → a + 1 ≤ 2 * length l → g + r ≤ 2 * length k → (f + (if b then g else 0)) + (if b then r else a) ≤ 2 * length (l ++ (if b then k else []))
both_step f a g r l k true o p q = let e : length (l ++ k) ≡ length l + length k = length-append l k in omega (arith, o, p, q, e)
both_step f a g r l k false o p q = let e : length (l ++ []) ≡ length l + 0 = length-append l [] in omega (arith, o, p, e)

first_both : (es : Execs) → AreNumberedAll es → finding_first es + opening_first es ≤ 2 * length (come_to_in_order es [])
first_both None_left v = omega arith
first_both (Then e es) v =
    both_step (finding e) (opening e) (finding_first es) (opening_first es) (come_to e []) (come_to_in_order es []) (has_none (next e [])) (finding_one e v.0) (opening_one e v.1 v.0) (first_both es v.2)

pub both_few : (e : Exec) → AreNumbered e → finding e + opening e ≤ 2 * length (come_to e []) + 1
both_few (Plan None es) v = omega (arith, first_both es v)
both_few (Plan (Some n) es) v = omega (arith, opening_few (Plan (Some n) es) v)
both_few (Work n) v = omega arith
both_few (Leaf n k) v = omega arith
both_few (Par n es) v = omega (arith, opening_few (Par n es) v)
both_few (NonSeq n es) v = omega arith
both_few (Sel n es) v = omega arith
both_few (If n a b) v = omega arith
both_few (While n a) v = omega arith

-- an element, or what else is looked at where it has nothing to do
element_few : (e : Exec) (o p : ℕ) (out : List ℕ) → AreNumbered e → o ≤ p + 2 * length out → element_looks e o ≤ 1 + p + 2 * length (come_to e [] ++ (if has_none (next e []) then out else []))
element_few e o p out v h = go (has_none (next e []))
  where
    go : (b : Bool) → finding e + (if b then o else opening e) ≤ 1 + p + 2 * length (come_to e [] ++ (if b then out else []))
    go true =
        let i : length (come_to e [] ++ out) ≡ length (come_to e []) + length out = length-append (come_to e []) out in
        omega (arith, i, h, both_few e v)
    go false =
        let i : length (come_to e [] ++ []) ≡ length (come_to e []) + 0 = length-append (come_to e []) [] in
        omega (arith, i, both_few e v)

body_few : (e : Exec) (p : ℕ) → AreNumbered e → element_looks e 0 ≤ 1 + p + 2 * length (come_to e [])
body_few e p v = go (has_none (next e []))
  where
    go : (b : Bool) → finding e + (if b then 0 else opening e) ≤ 1 + p + 2 * length (come_to e [])
    go true = omega (arith, both_few e v)
    go false = omega (arith, both_few e v)

pub element_come : (es : Execs) (i : ℕ) → come_to_at es i [] ≡ come_to (element es i) []
element_come None_left i = refl
element_come (Then e es) zero = refl
element_come (Then e es) (suc i) = element_come es i

element_numbered : (es : Execs) (i : ℕ) → AreNumberedAll es → AreNumbered (element es i)
element_numbered None_left i v = tt
element_numbered (Then e es) zero v = v.1
element_numbered (Then e es) (suc i) v = element_numbered es i v.2

-- ---- the way

-- what is opened on it is numbered
abbrev pub IsNumberedWay : Onward → Type 0
IsNumberedWay Done = Unit {0}
IsNumberedWay (Opens es) = AreNumberedAll es
IsNumberedWay (Joins n k) = IsNumberedWay k
IsNumberedWay (PicksOn n total k) = IsNumberedWay k
IsNumberedWay (TestsAgain n) = Unit {0}

pub way_few : (c : ℕ → Cell) (k : Onward) → IsNumberedWay k → way_looks c k ≤ picks_on k + 2 * length (way_opens c k)
way_few c Done v = omega arith
way_few c (Opens es) v = omega (arith, first_few es v)
way_few c (Joins n k) v = go (left (c n) == 1) (way_few c k v)
  where
    go : (b : Bool) → way_looks c k ≤ picks_on k + 2 * length (way_opens c k) → (if b then way_looks c k else 0) ≤ picks_on k + 2 * length (if b then way_opens c k else [])
    go true h = h
    go false h = omega arith
way_few c (PicksOn n total k) v = go (length (picked (c n)) == total) (way_few c k v)
  where
    go : (b : Bool) → way_looks c k ≤ picks_on k + 2 * length (way_opens c k) → (if b then way_looks c k else 0) + 1 ≤ picks_on k + 1 + 2 * length (if b then way_opens c k else [])
    go true h = omega (arith, h)
    go false h = omega arith
way_few c (TestsAgain n) v = omega arith

opened_on : (l : List ℕ) (es : Execs) (k : Onward) → picks_on (opened_or l es k) ≤ picks_on k
opened_on [] es k = omega arith
opened_on (n ∷ l) es k = omega arith

joined_on : (b : Bool) (n : ℕ) (k : Onward) → picks_on (joined_or b n k) ≡ picks_on k
joined_on true n k = refl
joined_on false n k = refl

either_on : (b : Bool) (k j : Onward) (p : ℕ) → picks_on k ≤ p → picks_on j ≤ p → picks_on (if b then k else j) ≤ p
either_on true k j p h i = h
either_on false k j p h i = i

mutual
  pub few_on : (e : Exec) (k : Onward) (m : ℕ) → picks_on (onward e k m) ≤ nesting e + picks_on k
  few_on (Work n) k m = omega arith
  few_on (Leaf n l) k m = omega arith
  few_on (Plan n es) k m = either_on (has (number_or_none n) m) k _ _ (omega arith) (omega (arith, few_in_order es k m))
  few_on (Par n es) k m =
      either_on (n == m) k _ _ (omega arith) (let a = few_among es (joined_or (is_shared es) n k) m in omega (arith, a, joined_on (is_shared es) n k))
  few_on (NonSeq n es) k m = either_on (n == m) k _ _ (omega arith) (omega (arith, few_among es (PicksOn n (count es) k) m))
  few_on (Sel n es) k m = either_on (n == m) k _ _ (omega arith) (omega (arith, few_among es k m))
  few_on (If n a b) k m =
      either_on (n == m) k _ _ (omega arith)
      (either_on (has (nodes a) m) _ _ _ (let h = few_on a k m in omega (arith, h, le-max_left (nesting a) (nesting b))) (let h = few_on b k m in omega (arith, h, le-max_right (nesting a) (nesting b))))
  few_on (While n a) k m = either_on (n == m) k _ _ (omega arith) (omega (arith, few_on a (TestsAgain n) m))

  few_in_order : (es : Execs) (k : Onward) (m : ℕ) → picks_on (onward_in_order es k m) ≤ nesting_all es + picks_on k
  few_in_order None_left k m = omega arith
  few_in_order (Then e es) k m =
      either_on (has (nodes e) m) _ _ _
      (let h = few_on e (opened_or (next_in_order es []) es k) m in omega (arith, h, opened_on (next_in_order es []) es k, le-max_left (nesting e) (nesting_all es)))
      (let h = few_in_order es k m in omega (arith, h, le-max_right (nesting e) (nesting_all es)))

  few_among : (es : Execs) (k : Onward) (m : ℕ) → picks_on (onward_among es k m) ≤ nesting_all es + picks_on k
  few_among None_left k m = omega arith
  few_among (Then e es) k m =
      either_on (has (nodes e) m) _ _ _
      (let h = few_on e k m in omega (arith, h, le-max_left (nesting e) (nesting_all es)))
      (let h = few_among es k m in omega (arith, h, le-max_right (nesting e) (nesting_all es)))

-- ---- numbers

opened_numbered : (l : List ℕ) (es : Execs) (k : Onward) → AreNumberedAll es → IsNumberedWay k → IsNumberedWay (opened_or l es k)
opened_numbered [] es k v w = w
opened_numbered (n ∷ l) es k v w = v

joined_numbered : (b : Bool) (n : ℕ) (k : Onward) → IsNumberedWay k → IsNumberedWay (joined_or b n k)
joined_numbered true n k w = w
joined_numbered false n k w = w

either_numbered : (b : Bool) (k j : Onward) → IsNumberedWay k → IsNumberedWay j → IsNumberedWay (if b then k else j)
either_numbered true k j v w = v
either_numbered false k j v w = w

mutual
  numbered_on : (e : Exec) (k : Onward) (m : ℕ) → AreNumbered e → IsNumberedWay k → IsNumberedWay (onward e k m)
  numbered_on (Work n) k m v w = w
  numbered_on (Leaf n l) k m v w = w
  numbered_on (Plan n es) k m v w = either_numbered (has (number_or_none n) m) _ _ w (numbered_in_order es k m v w)
  numbered_on (Par n es) k m v w = either_numbered (n == m) _ _ w (numbered_among es (joined_or (is_shared es) n k) m v (joined_numbered (is_shared es) n k w))
  numbered_on (NonSeq n es) k m v w = either_numbered (n == m) _ _ w (numbered_among es (PicksOn n (count es) k) m v w)
  numbered_on (Sel n es) k m v w = either_numbered (n == m) _ _ w (numbered_among es k m v w)
  numbered_on (If n a b) k m v w = either_numbered (n == m) _ _ w (either_numbered (has (nodes a) m) _ _ (numbered_on a k m v.0 w) (numbered_on b k m v.1 w))
  numbered_on (While n a) k m v w = either_numbered (n == m) _ _ w (numbered_on a (TestsAgain n) m v tt)

  numbered_in_order : (es : Execs) (k : Onward) (m : ℕ) → AreNumberedAll es → IsNumberedWay k → IsNumberedWay (onward_in_order es k m)
  numbered_in_order None_left k m v w = tt
  numbered_in_order (Then e es) k m v w =
      either_numbered (has (nodes e) m) _ _ (numbered_on e (opened_or (next_in_order es []) es k) m v.1 (opened_numbered (next_in_order es []) es k v.2 w)) (numbered_in_order es k m v.2 w)

  numbered_among : (es : Execs) (k : Onward) (m : ℕ) → AreNumberedAll es → IsNumberedWay k → IsNumberedWay (onward_among es k m)
  numbered_among None_left k m v w = tt
  numbered_among (Then e es) k m v w = either_numbered (has (nodes e) m) _ _ (numbered_on e k m v.1 w) (numbered_among es k m v.2 w)

either_is : (b : Bool) (e f : Exec) → AreNumbered e → AreNumbered f → AreNumbered (if b then e else f)
either_is true e f v w = v
either_is false e f v w = w

mutual
  pub numbered_at : (e : Exec) (m : ℕ) → AreNumbered e → AreNumbered (executable_at e m)
  numbered_at (Work n) m v = tt
  numbered_at (Leaf n l) m v = tt
  numbered_at (Plan n es) m v = either_is (has (number_or_none n) m) (Plan n es) _ v (numbered_some es m v)
  numbered_at (Par n es) m v = either_is (n == m) (Par n es) _ v (numbered_some es m v)
  numbered_at (NonSeq n es) m v = either_is (n == m) (NonSeq n es) _ v (numbered_some es m v)
  numbered_at (Sel n es) m v = either_is (n == m) (Sel n es) _ v (numbered_some es m v)
  numbered_at (If n a b) m v = either_is (n == m) (If n a b) _ v (either_is (has (nodes a) m) _ _ (numbered_at a m v.0) (numbered_at b m v.1))
  numbered_at (While n a) m v = either_is (n == m) (While n a) _ v (numbered_at a m v)

  numbered_some : (es : Execs) (m : ℕ) → AreNumberedAll es → AreNumbered (executable_among es m)
  numbered_some None_left m v = tt
  numbered_some (Then e es) m v = either_is (has (nodes e) m) _ _ (numbered_at e m v.1) (numbered_some es m v.2)

-- ---- the entry's own node

where_few : (cell : Cell) (w p : ℕ) (l : List ℕ) → w ≤ p + 2 * length l → where_over cell w ≤ 1 + p + 2 * length (if_over cell l)
where_few Over w p l h = omega (arith, h)
where_few cell w p l h = omega arith

chosen_few : (b : Bool) (w p : ℕ) (l : List ℕ) → w ≤ p + 2 * length l → (if b then w else 0) ≤ p + 2 * length (if b then l else [])
chosen_few true w p l h = h
chosen_few false w p l h = omega arith

at_few : (es : Execs) (i o p : ℕ) (out : List ℕ) → AreNumberedAll es → o ≤ p + 2 * length out → element_looks (element es i) o ≤ 1 + p + 2 * length (come_to_at es i [] ++ (if has_none (next_at es i []) then out else []))
at_few es i o p out v h =
    subst (λ (l : List ℕ). element_looks (element es i) o ≤ 1 + p + 2 * length (l ++ (if has_none (next_at es i []) then out else []))) (sym (element_come es i))
    (subst (λ (l : List ℕ). element_looks (element es i) o ≤ 1 + p + 2 * length (come_to (element es i) [] ++ (if has_none l then out else []))) (sym (element_next es i))
    (element_few (element es i) o p out (element_numbered es i v) h))

node_few : (c : ℕ → Cell) (f : Exec) (x : Entry) (k : Onward) → AreNumbered f → IsNumberedWay k → node_looks c f x k ≤ 1 + picks_on k + 2 * length (opens c f x (way_opens c k))
node_few c (Work n) x k v w = where_few (work_after n (c n) x) (way_looks c k) (picks_on k) (way_opens c k) (way_few c k w)
node_few c (Leaf n l) x k v w = omega (arith, way_few c k w)
node_few c (Plan n es) x k v w = omega arith
node_few c (Par n es) x k v w = omega arith
node_few c (NonSeq n es) x k v w = go (pick_of n x) _
  where
    go : (o : Option ℕ) (rest : List ℕ) → option_map_or (λ i. element_looks (element es i) (if length (picked (c n)) + 1 == count es then way_looks c k else 0)) o 0 ≤ 1 + picks_on k + 2 * length (if_some o (λ i. come_to_at es i [] ++ (if has_none (next_at es i []) then (if length (picked (c n)) + 1 == count es then way_opens c k else []) else [])) rest)
    go None rest = omega arith
    go (Some i) rest = at_few es i _ (picks_on k) _ v (chosen_few (length (picked (c n)) + 1 == count es) (way_looks c k) (picks_on k) (way_opens c k) (way_few c k w))
node_few c (Sel n es) x k v w = go (pick_of n x) _
  where
    go : (o : Option ℕ) (rest : List ℕ) → option_map_or (λ i. element_looks (element es i) (way_looks c k)) o 0 ≤ 1 + picks_on k + 2 * length (if_some o (λ i. come_to_at es i [] ++ (if has_none (next_at es i []) then way_opens c k else [])) rest)
    go None rest = omega arith
    go (Some i) rest = at_few es i _ (picks_on k) _ v (way_few c k w)
node_few c (If n a b) x k v w = go (test_of n x) _
  where
    go : (o : Option Bool) (rest : List ℕ) → option_map_or (λ ans. element_looks (if ans then a else b) (way_looks c k)) o 0 ≤ 1 + picks_on k + 2 * length (if_some o (λ ans. come_to (if ans then a else b) [] ++ (if has_none (next (if ans then a else b) []) then way_opens c k else [])) rest)
    go None rest = omega arith
    go (Some true) rest = element_few a (way_looks c k) (picks_on k) (way_opens c k) v.0 (way_few c k w)
    go (Some false) rest = element_few b (way_looks c k) (picks_on k) (way_opens c k) v.1 (way_few c k w)
node_few c (While n a) x k v w = go (test_of n x) _
  where
    go : (o : Option Bool) (rest : List ℕ) → option_map_or (λ ans. if ans then element_looks a 0 else way_looks c k) o 0 ≤ 1 + picks_on k + 2 * length (if_some o (λ ans. if ans then come_to a [] else way_opens c k) rest)
    go None rest = omega arith
    go (Some true) rest = body_few a (picks_on k) v
    go (Some false) rest = omega (arith, way_few c k w)

pub looks_few : (c : ℕ → Cell) (e : Exec) (x : Entry) (m : ℕ) → AreNumbered e → looks c e x m ≤ 2 + nesting e + 2 * length (opened c e x m)
looks_few c e x m v =
    let a = node_few c (executable_at e m) x (onward e Done m) (numbered_at e m v) (numbered_on e Done m v tt) in
    let b = few_on e Done m in
    omega (arith, a, b)
