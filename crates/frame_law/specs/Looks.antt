-- How many nodes one entry looks at: its own, those that it opens, and the non-sequentials on the way up.
use Rattle.std.specs.Prelude.{◌≡◌, ◌==◌, ◌+◌, if◌then◌else◌, ℕ, true, is_some, List, [], ◌++◌, length, Some, None}
use Rattle.std.specs.Option.{option_map_or}
use Rattle.exec_tree.specs.Exec.{Exec, Work, Leaf, Plan, Par, NonSeq, Sel, If, While, Execs, None_left, Then, nodes, count}
use Rattle.trace_law.specs.Of.{is_of}
use Rattle.trace_law.specs.Own.{pick_of, test_of}
use Rattle.trace_law.specs.Next.{next, next_in_order, next_at}
use Rattle.trace_law.specs.Cells.{Cell, Over, picked, work_after}
use Rattle.trace_law.specs.Coming.{if_some}
use Rattle.trace_law.specs.Frames.{is_shared, left}
use Rattle.trace_law.specs.Leading.{has_none}
use Rattle.run_log.specs.declared.entry.Entry.{Entry}
use Rattle.frame_law.specs.Executable.{executable_at, own_number, element}
use Rattle.frame_law.specs.Onward.{Onward, Done, Opens, Joins, PicksOn, TestsAgain, onward}
use Rattle.frame_law.specs.ComeTo.{come_to, come_to_in_order, come_to_at}

-- looks to find where opening an executable leads: one where it has a number, and else also those at its elements up to the first with something to do
abbrev mutual
  pub finding : Exec → ℕ
  finding (Plan None es) = finding_first es + 1
  finding (Plan (Some n) es) = 1
  finding (Work n) = 1
  finding (Leaf n k) = 1
  finding (Par n es) = 1
  finding (NonSeq n es) = 1
  finding (Sel n es) = 1
  finding (If n a b) = 1
  finding (While n a) = 1

  pub finding_first : Execs → ℕ
  finding_first None_left = 0
  finding_first (Then e es) = finding e + (if has_none (next e []) then finding_first es else 0)

-- looks to open an executable where it leads, once that is found: a parallel looks at itself and finds and opens its elements, each other looks at itself
abbrev mutual
  pub opening : Exec → ℕ
  opening (Work n) = 1
  opening (Leaf n k) = 1
  opening (Plan n es) = opening_first es
  opening (Par n es) = if is_shared es then opening_each es + 1 else opening_first es
  opening (NonSeq n es) = 1
  opening (Sel n es) = 1
  opening (If n a b) = 1
  opening (While n a) = 1

  -- of the first that has something to do
  pub opening_first : Execs → ℕ
  opening_first None_left = 0
  opening_first (Then e es) = if has_none (next e []) then opening_first es else opening e

  pub opening_each : Execs → ℕ
  opening_each None_left = 0
  opening_each (Then e es) = finding e + (if has_none (next e []) then 0 else opening e) + opening_each es

-- looks on the way up: at each non-sequential, and at what is opened
abbrev pub way_looks : (ℕ → Cell) → Onward → ℕ
way_looks c Done = 0
way_looks c (Opens es) = opening_first es
way_looks c (Joins n k) = if left (c n) == 1 then way_looks c k else 0
way_looks c (PicksOn n total k) = (if length (picked (c n)) == total then way_looks c k else 0) + 1
way_looks c (TestsAgain n) = 0

-- how many non-sequentials the way names
abbrev pub picks_on : Onward → ℕ
picks_on Done = 0
picks_on (Opens es) = 0
picks_on (Joins n k) = picks_on k
picks_on (PicksOn n total k) = picks_on k + 1
picks_on (TestsAgain n) = 0

-- a number where a workingstep is over
abbrev pub where_over : Cell → ℕ → ℕ
where_over Over n = n
where_over _ n = 0

-- looks to open an element, or what else is to be looked at where it has nothing to do
abbrev pub element_looks : Exec → ℕ → ℕ
element_looks e otherwise = finding e + (if has_none (next e []) then otherwise else opening e)

-- looks that the entry x of the executable itself makes beside the one at its node, where the run goes on at k once it is over
abbrev pub node_looks : (ℕ → Cell) → Exec → Entry → Onward → ℕ
node_looks c (Work n) x k = where_over (work_after n (c n) x) (way_looks c k)
node_looks c (Leaf n l) x k = way_looks c k
node_looks c (Plan n es) x k = 0
node_looks c (Par n es) x k = 0
node_looks c (NonSeq n es) x k =
    option_map_or (λ i. element_looks (element es i) (if length (picked (c n)) + 1 == count es then way_looks c k else 0)) (pick_of n x) 0
node_looks c (Sel n es) x k = option_map_or (λ i. element_looks (element es i) (way_looks c k)) (pick_of n x) 0
node_looks c (If n a b) x k = option_map_or (λ ans. element_looks (if ans then a else b) (way_looks c k)) (test_of n x) 0
node_looks c (While n a) x k = option_map_or (λ ans. if ans then element_looks a 0 else way_looks c k) (test_of n x) 0

-- all looks that the entry x of node m makes
abbrev pub looks : (ℕ → Cell) → Exec → Entry → ℕ → ℕ
looks c e x m = node_looks c (executable_at e m) x (onward e Done m) + 1

-- ---- what is opened

-- these nodes where a workingstep is over
abbrev pub if_over : Cell → List ℕ → List ℕ
if_over Over l = l
if_over _ l = []

-- the nodes that are opened on the way up
abbrev pub way_opens : (ℕ → Cell) → Onward → List ℕ
way_opens c Done = []
way_opens c (Opens es) = come_to_in_order es []
way_opens c (Joins n k) = if left (c n) == 1 then way_opens c k else []
way_opens c (PicksOn n total k) = if length (picked (c n)) == total then way_opens c k else []
way_opens c (TestsAgain n) = []

-- the nodes that the entry x of e opens, where `out` is opened once e is over
abbrev mutual
  pub opens : (ℕ → Cell) → Exec → Entry → List ℕ → List ℕ
  opens c (Work n) x out = if_over (work_after n (c n) x) out
  opens c (Leaf n k) x out = out
  opens c (Plan n es) x out = opens_in_order c es x out
  opens c (Par n es) x out = opens_among c es x (if is_shared es then (if left (c n) == 1 then out else []) else out)
  opens c (NonSeq n es) x out =
      if_some (pick_of n x) (λ k. come_to_at es k [] ++ (if has_none (next_at es k []) then (if length (picked (c n)) + 1 == count es then out else []) else []))
      (opens_among c es x (if length (picked (c n)) == count es then out else []))
  opens c (Sel n es) x out = if_some (pick_of n x) (λ k. come_to_at es k [] ++ (if has_none (next_at es k []) then out else [])) (opens_among c es x out)
  opens c (If n a b) x out =
      if_some (test_of n x) (λ ans. come_to (if ans then a else b) [] ++ (if has_none (next (if ans then a else b) []) then out else []))
      (if is_of (nodes a) x then opens c a x out else opens c b x out)
  opens c (While n a) x out = if_some (test_of n x) (λ ans. if ans then come_to a [] else out) (opens c a x [])

  -- after an element of a plan those behind it are opened, where one of them has something to do
  pub opens_in_order : (ℕ → Cell) → Execs → Entry → List ℕ → List ℕ
  opens_in_order c None_left x out = []
  opens_in_order c (Then e es) x out =
      if is_of (nodes e) x then opens c e x (if has_none (next_in_order es []) then out else come_to_in_order es []) else opens_in_order c es x out

  pub opens_among : (ℕ → Cell) → Execs → Entry → List ℕ → List ℕ
  opens_among c None_left x out = []
  opens_among c (Then e es) x out = if is_of (nodes e) x then opens c e x out else opens_among c es x out

-- the nodes that the entry x of node m opens
abbrev pub opened : (ℕ → Cell) → Exec → Entry → ℕ → List ℕ
opened c e x m = opens c (executable_at e m) x (way_opens c (onward e Done m))

-- ---- numbers

-- each element of a plan, a parallel, a non-sequential and a selective has a number; the branch that an if leaves out has none
abbrev mutual
  pub AreNumbered : Exec → Type 0
  AreNumbered (Work n) = Unit {0}
  AreNumbered (Leaf n k) = Unit {0}
  AreNumbered (Plan n es) = AreNumberedAll es
  AreNumbered (Par n es) = AreNumberedAll es
  AreNumbered (NonSeq n es) = AreNumberedAll es
  AreNumbered (Sel n es) = AreNumberedAll es
  AreNumbered (If n a b) = AreNumbered a × AreNumbered b
  AreNumbered (While n a) = AreNumbered a

  pub AreNumberedAll : Execs → Type 0
  AreNumberedAll None_left = Unit {0}
  AreNumberedAll (Then e es) = (is_some (own_number e) ≡ true) × AreNumbered e × AreNumberedAll es
