-- Looks where opening leads, on the way up after a node is written, and at an entry's own node, kind by kind.
use Rattle.std.specs.Prelude.{◌≡◌, ◌≤◌, ◌==◌, ◌+◌, if◌then◌else◌, ℕ, Bool, true, false, List, [], ◌∷◌, ◌++◌, length, Option, Some, None}
use Rattle.std.specs.Option.{option_map_or}
use Rattle.std.proofs.Common.{refl, sym, ◌∙◌, ap, arith}
use Rattle.std.proofs.lemmas.Bool.Decides.{nat_tests}
use Rattle.exec_tree.specs.Exec.{Exec, Work, Leaf, Plan, Par, NonSeq, Sel, If, While, Execs, None_left, Then, nodes, has, count, AreDistinct}
use Rattle.trace_law.specs.Own.{pick_of, test_of}
use Rattle.trace_law.specs.Next.{next}
use Rattle.trace_law.specs.Cells.{Cell, picked}
use Rattle.trace_law.specs.Frames.{is_shared, left}
use Rattle.trace_law.specs.Leading.{has_none, leads, leads_first}
use Rattle.run_log.specs.declared.entry.Entry.TheVariants.{Pick, Test}
use Rattle.frame_law.specs.Executable.{executable_at, element}
use Rattle.frame_law.specs.Onward.{Onward, Done, Opens, Joins, PicksOn, TestsAgain, onward}
use Rattle.frame_law.specs.Way.{AreKeptBut, along}
use Rattle.frame_law.specs.Looks.{opening, opening_first, opening_each, way_looks, element_looks, node_looks}
use Rattle.frame_law.proofs.OutsideLemmas.{yes_right}
use Rattle.frame_law.proofs.AlongLemmas.{agree_along, way_is_apart}

-- ---- where opening leads

led_either : (b : Bool) (f g : Exec) (first this o : ℕ) → (if b then first else this) ≤ o → (first ≤ o → opening f ≤ o) → (this ≤ o → opening g ≤ o) → opening (if b then f else g) ≤ o
led_either true f g first this o h p q = p h
led_either false f g first this o h p q = q h

led_par : (n : ℕ) (es : Execs) (b : Bool) → is_shared es ≡ b → (opening (Par n es) ≤ opening_first es → opening (leads_first es (Par n es)) ≤ opening_first es) → opening (if b then Par n es else leads_first es (Par n es)) ≤ (if b then opening_each es + 1 else opening_first es)
led_par n es true e h = rw e (omega arith)
led_par n es false e h = h (rw e (omega arith))

mutual
  pub opening_led : (e : Exec) → opening (leads e) ≤ opening e
  opening_led (Work n) = omega arith
  opening_led (Leaf n k) = omega arith
  opening_led (Plan n es) = led_first es (Plan n es) (opening_first es) (omega arith) (omega arith)
  opening_led (Par n es) = led_par n es (is_shared es) refl (λ i. led_first es (Par n es) (opening_first es) (omega arith) i)
  opening_led (NonSeq n es) = omega arith
  opening_led (Sel n es) = omega arith
  opening_led (If n a b) = omega arith
  opening_led (While n a) = omega arith

  led_first : (es : Execs) (itself : Exec) (o : ℕ) → opening_first es ≤ o → opening itself ≤ o → opening (leads_first es itself) ≤ o
  led_first None_left itself o h i = i
  led_first (Then e es) itself o h i =
      led_either (has_none (next e [])) (leads_first es itself) (leads e) (opening_first es) (opening e) o h (λ j. led_first es itself o j i) (λ j. let l = opening_led e in omega (arith, l, j))

-- ---- the way up

self : (n : ℕ) (ns : List ℕ) → has (n ∷ ns) n ≡ true
self n ns = let t = same n in rw t refl
  where
    same : (a : ℕ) → (a == a) ≡ true
    same a = grind (arith, nat_tests)

-- it is told by the cells of the nodes along it
pub way_looks_same : (c d : ℕ → Cell) (k : Onward) → ((q : ℕ) → has (along k) q ≡ true → d q ≡ c q) → way_looks d k ≡ way_looks c k
way_looks_same c d Done a = refl
way_looks_same c d (Opens es) a = refl
way_looks_same c d (Joins n k) a = rw (a n (self n (along k)), way_looks_same c d k (λ q h. a q (yes_right (n ∷ []) (along k) q h))) refl
way_looks_same c d (PicksOn n total k) a = rw (a n (self n (along k)), way_looks_same c d k (λ q h. a q (yes_right (n ∷ []) (along k) q h))) refl
way_looks_same c d (TestsAgain n) a = refl

pub looks_last : (c d : ℕ → Cell) (n : ℕ) (k : Onward) → AreDistinct (n ∷ along k) → left (c n) ≡ 1 → AreKeptBut c d (n ∷ []) → way_looks c (Joins n k) ≡ way_looks d k
looks_last c d n k a one kept =
    let e : (left (c n) == 1) ≡ true = grind (arith, nat_tests) in
    rw e (sym (way_looks_same c d k (agree_along c d (n ∷ []) k a kept)))

pub looks_picked : (c : ℕ → Cell) (n total : ℕ) (k : Onward) → length (picked (c n)) ≡ total → way_looks c (PicksOn n total k) ≡ way_looks c k + 1
looks_picked c n total k one =
    let e : (length (picked (c n)) == total) ≡ true = grind (arith, nat_tests) in
    rw e refl

-- what is written at a node and within changes no look on the way from it
pub looks_after : (c d : ℕ → Cell) (e : Exec) (m : ℕ) → AreDistinct (nodes e) → AreKeptBut c d (nodes (executable_at e m)) → way_looks d (onward e Done m) ≡ way_looks c (onward e Done m)
looks_after c d e m a kept = let k : Onward = onward e Done m in way_looks_same c d k (agree_along c d (nodes (executable_at e m)) k (way_is_apart e m a) kept)

-- ---- the entry's own node

same_number : (n : ℕ) → (n == n) ≡ true
same_number n = grind (arith, nat_tests)

picks_it : (n i : ℕ) → pick_of n (Pick n i) ≡ Some i
picks_it n i = let t = same_number n in rw t refl

tests_it : (n : ℕ) (ans : Bool) → test_of n (Test n ans) ≡ Some ans
tests_it n ans = let t = same_number n in rw t refl

pub pick_looks : (c : ℕ → Cell) (n : ℕ) (es : Execs) (i : ℕ) (k : Onward) → node_looks c (NonSeq n es) (Pick n i) k ≡ element_looks (element es i) (if length (picked (c n)) + 1 == count es then way_looks c k else 0)
pick_looks c n es i k = ap (λ (o : Option ℕ). option_map_or (λ j. element_looks (element es j) (if length (picked (c n)) + 1 == count es then way_looks c k else 0)) o 0) (picks_it n i)

pub choice_looks : (c : ℕ → Cell) (n : ℕ) (es : Execs) (i : ℕ) (k : Onward) → node_looks c (Sel n es) (Pick n i) k ≡ element_looks (element es i) (way_looks c k)
choice_looks c n es i k = ap (λ (o : Option ℕ). option_map_or (λ j. element_looks (element es j) (way_looks c k)) o 0) (picks_it n i)

pub branch_looks : (c : ℕ → Cell) (n : ℕ) (a b : Exec) (ans : Bool) (k : Onward) → node_looks c (If n a b) (Test n ans) k ≡ element_looks (if ans then a else b) (way_looks c k)
branch_looks c n a b ans k = ap (λ (o : Option Bool). option_map_or (λ y. element_looks (if y then a else b) (way_looks c k)) o 0) (tests_it n ans)

pub turn_looks : (c : ℕ → Cell) (n : ℕ) (a : Exec) (k : Onward) → node_looks c (While n a) (Test n true) k ≡ element_looks a 0
turn_looks c n a k = ap (λ (o : Option Bool). option_map_or (λ y. if y then element_looks a 0 else way_looks c k) o 0) (tests_it n true)

pub no_turn_looks : (c : ℕ → Cell) (n : ℕ) (a : Exec) (k : Onward) → node_looks c (While n a) (Test n false) k ≡ way_looks c k
no_turn_looks c n a k = ap (λ (o : Option Bool). option_map_or (λ y. if y then element_looks a 0 else way_looks c k) o 0) (tests_it n false)
