-- Looks of an entry: what it opens, the way up, and its own node.
use Rattle.std.specs.Prelude.{◌≡◌, ◌<◌, ◌≤◌, ◌-◌, ◌+◌, ◌==◌, if◌then◌else◌, ℕ, Bool, true, false, List, [], ◌∷◌, length, drop, slice_get, slice_set, Option, Some, None}
use Rattle.std.proofs.Common.{refl, sym, ◌∙◌, ap, subst, arith, get_or}
use Rattle.std.proofs.lemmas.Bool.Decides.{nat_tests}
use Rattle.exec_tree.specs.Exec.{Exec, Work, Leaf, Plan, Par, NonSeq, Sel, If, While, Execs, nodes, nodes_all, has, count, AreDistinct}
use Rattle.exec_tree.specs.Arena.{to_execs, of_kind, first_of, second_of, HasArity}
use Rattle.exec_tree.specs.declared.kind.Kind.{Kind}
use Rattle.exec_tree.specs.declared.kind.Kind.TheVariants as kind
use Rattle.exec_tree.specs.declared.node.BareNode.{BareNode}
use Rattle.trace_law.specs.Next.{next, next_each}
use Rattle.trace_law.specs.State.{stage_step}
use Rattle.trace_law.specs.Cells.{Cell, Over, cell_of_stage, picked, stage_of, work_after}
use Rattle.trace_law.specs.Frames.{is_shared, left}
use Rattle.trace_law.specs.Leading.{has_none, leads, leads_first}
use Rattle.run_log.specs.declared.entry.Entry.{Entry}
use Rattle.run_log.specs.declared.entry.Entry.TheVariants.{Pick, Test}
use Rattle.frame_law.specs.Executable.{element}
use Rattle.frame_law.specs.Executable as tree
use Rattle.frame_law.specs.Onward.{Onward, Done, Opens, Joins, PicksOn, TestsAgain, onward}
use Rattle.frame_law.specs.Looks.{finding, opening, opening_first, opening_each, way_looks, where_over, element_looks, node_looks}
use Rattle.frame_law.proofs.WayLookLemmas.{opening_led, looks_last, looks_picked, looks_after, pick_looks, choice_looks, branch_looks, turn_looks, no_turn_looks}
use Rattle.frame_law.proofs.KindLemmas.{work_after_as}
use Rattle.tree_table.specs.Placed.{place_for, placed, placed_down, placed_all}
use Rattle.tree_table.specs.Within.{own_number}
use Rattle.tree_table.specs.Rows.{after_at, levels_at, executable_at}
use Rattle.tree_table.specs.Table.{LeadsTo, IsEntrance, IsTable, count_at}
use Rattle.tree_table.specs.declared.row.Continuation.TheVariants as row
use Rattle.tree_table.specs.declared.row.Row.{Row}
use Rattle.tree_table.proofs.ListLemmas.{drop_at, has_self}
use Rattle.tree_table.proofs.PlacedLemmas.{count_is}
use Rattle.tree_table.proofs.LeadLemmas.{lead_each}
use Rattle.tree_table.proofs.OpenLemmas.{entrance_leads, entrance_node, parallel_is}
use Rattle.run_frames.specs.Entries.{index_in, cut, ends, answer_in}
use Rattle.run_frames.specs.Frames.{cells_of}
use Rattle.run_frames.specs.Renaming.{entry_at}
use Rattle.run_frames.specs.Entered.{IsNode}
use Rattle.run_frames.specs.Ways.{IsWay}
use Rattle.run_frames.specs.Held.{IsLeafKind, IsStep}
use Rattle.run_frames.proofs.RenamingLemmas.{same_number}
use Rattle.run_frames.proofs.WriteLemmas.{frame_other, set_keeps, clash}
use Rattle.run_frames.proofs.EnterLemmas.{elements_once}
use Rattle.run_frames.proofs.GoLemmas.{joins_is, picks_is}
use Rattle.run_frames.proofs.StepLemmas.{follows, found_is, offer_is, leaf_is, element_is, branch_is, body_is, cut_over, test_is}
use Rattle.run_frames.proofs.PickLemmas.{at, picks_left, chooses_one}
use Rattle.run_frames.proofs.TestLemmas.{taken}

-- ---- sums

pub up_to : (s s' a b : ℕ) → s' ≤ s + a → a ≤ b → s' ≤ s + b
up_to s s' a b h e = omega (arith, h, e)

pub up_as : (s s' a b : ℕ) → s' ≤ s + a → a ≡ b → s' ≤ s + b
up_as s s' a b h e = omega (arith, h, e)

pub up_both : (s m s' a b o : ℕ) → m ≤ s + a → s' ≤ m + b → a + b ≤ o → s' ≤ s + o
up_both s m s' a b o h g e = omega (arith, h, g, e)

-- the look at the entry's node comes first
pub node_first : (s m s' a : ℕ) → m ≤ s + 1 → s' ≤ m + a → s' ≤ s + (a + 1)
node_first s m s' a h g = omega (arith, h, g)

pub node_only : (s s' a : ℕ) → s' ≤ s + 1 → s' ≤ s + (a + 1)
node_only s s' a h = omega (arith, h)

-- ---- what is opened

-- opening leads to a node that is opened itself
own_open : (k : Kind) (n : Option ℕ) (p : ℕ) (es : List Exec) → (k ≡ kind.Plan → ⊥) → (k ≡ kind.Par → ⊥) → opening (of_kind k (place_for k n p) es) ≡ 1
own_open kind.Plan n p es a b = absurd (a refl)
own_open kind.Par n p es a b = absurd (b refl)
own_open kind.NonSeq n p es a b = refl
own_open kind.Sel n p es a b = refl
own_open kind.If n p es a b = refl
own_open kind.While n p es a b = refl
own_open kind.Work n p es a b = refl
own_open kind.Assign n p es a b = refl
own_open kind.Set n p es a b = refl
own_open kind.Wait n p es a b = refl
own_open kind.Note n p es a b = refl

pub opens_itself : (arena : List BareNode) (rows : List Row) (p : ℕ) (node : BareNode) (s s' : ℕ) → IsTable arena rows → IsEntrance arena rows p → slice_get arena p ≡ Some node → (node.kind ≡ kind.Plan → ⊥) → (node.kind ≡ kind.Par → ⊥) → s' ≤ s + 1 → s' ≤ s + opening (executable_at arena rows p)
opens_itself arena rows p node s s' t i at plan par h =
    up_as s s' 1 (opening (executable_at arena rows p)) h (sym (ap opening (entrance_node arena rows p node t i at) ∙ own_open node.kind node.number p _ plan par))

-- a parallel to which opening leads is shared
shared_is : (p : ℕ) (es : Execs) → has (nodes_all es) p ≡ false → (next_each es [] ≡ [] → ⊥) → (b : Bool) → is_shared es ≡ b → own_number (if b then Par p es else leads_first es (Par p es)) ≡ Some p → b ≡ true
shared_is p es out some true e own = refl
shared_is p es out some false e own =
    let l = lead_each es (Par p es) some in
    let same : l.0 ≡ p = (let w : Some l.0 ≡ Some p = sym l.1 ∙ own in cc) in
    absurd (clash (has (nodes_all es) p) (subst (λ (r : ℕ). has (nodes_all es) r ≡ true) same l.2) out)

pub shared_there : (arena : List BareNode) (rows : List Row) (p : ℕ) (node : BareNode) → IsTable arena rows → IsEntrance arena rows p → AreDistinct (nodes (placed arena)) → slice_get arena p ≡ Some node → node.kind ≡ kind.Par → is_shared (to_execs (placed_all arena (levels_at rows p - 1) node.elements)) ≡ true
shared_there arena rows p node t i d at par =
    let es = to_execs (placed_all arena (levels_at rows p - 1) node.elements) in
    let f = executable_at arena rows p in
    let l = entrance_leads arena rows p t i in
    let is : f ≡ Par p es = parallel_is arena rows p node t i at par in
    let own : own_number (leads (Par p es)) ≡ Some p = ap (λ (g : Exec). own_number (leads g)) (sym is) ∙ (ap own_number (sym l.1) ∙ ap own_number is) in
    let some : next_each es [] ≡ [] → ⊥ = λ z. l.0 (ap (λ (g : Exec). next g []) is ∙ z) in
    shared_is p es (elements_once arena rows p node node.elements t i d at par refl).1 some (is_shared es) refl own

pub opens_each : (arena : List BareNode) (rows : List Row) (p : ℕ) (node : BareNode) (s m s' : ℕ) → IsTable arena rows → IsEntrance arena rows p → slice_get arena p ≡ Some node → node.kind ≡ kind.Par → is_shared (to_execs (placed_all arena (levels_at rows p - 1) node.elements)) ≡ true → m ≤ s + 1
    → s' ≤ m + opening_each (to_execs (placed_all arena (levels_at rows p - 1) node.elements)) → s' ≤ s + opening (executable_at arena rows p)
opens_each arena rows p node s m s' t i at par shared h g =
    let es = to_execs (placed_all arena (levels_at rows p - 1) node.elements) in
    let all_of : opening (executable_at arena rows p) ≡ opening_each es + 1 = ap opening (parallel_is arena rows p node t i at par) ∙ ap (λ (b : Bool). if b then opening_each es + 1 else opening_first es) shared in
    up_as s s' (opening_each es + 1) (opening (executable_at arena rows p)) (sum s m s' (opening_each es) h g) (sym all_of)
  where
    sum : (s m s' a : ℕ) → m ≤ s + 1 → s' ≤ m + a → s' ≤ s + (a + 1)
    sum s m s' a h g = omega (arith, h, g)

-- the elements of a parallel, from the last to the first
each_here : (arena : List BareNode) (levels : ℕ) (places : List ℕ) (k : ℕ) → k < length places → (let e : Exec = placed_down arena levels (get_or places k 0) in opening_each (to_execs (placed_all arena levels (drop k places))) ≡ finding e + (if has_none (next e []) then 0 else opening e) + opening_each (to_execs (placed_all arena levels (drop (k + 1) places))))
each_here arena levels places k l = ap (λ (ps : List ℕ). opening_each (to_execs (placed_all arena levels ps))) (drop_at places k l)

some_next : (l : List ℕ) → (l ≡ [] → ⊥) → has_none l ≡ false
some_next [] h = absurd (h refl)
some_next (n ∷ l) h = refl

-- what is found and opened, where it leads anywhere
pub opens_led : (arena : List BareNode) (rows : List Row) (levels q into : ℕ) (s m s' : ℕ) → LeadsTo arena rows (placed_down arena levels q) (Some into) → m ≤ s + finding (placed_down arena levels q) → s' ≤ m + opening (executable_at arena rows into) → s' ≤ s + element_looks (placed_down arena levels q) 0
opens_led arena rows levels q into s m s' to h g =
    let e = placed_down arena levels q in
    let led = opening_led e in
    let is : opening (executable_at arena rows into) ≡ opening (leads e) = ap opening to.2 in
    let all_of : element_looks e 0 ≡ finding e + opening e = ap (λ (b : Bool). finding e + (if b then 0 else opening e)) (some_next (next e []) to.0) in
    sum s m s' (finding e) (opening (executable_at arena rows into)) (opening (leads e)) (opening e) (element_looks e 0) h g is led all_of
  where
    sum : (s m s' f i l o a : ℕ) → m ≤ s + f → s' ≤ m + i → i ≡ l → l ≤ o → a ≡ f + o → s' ≤ s + a
    sum s m s' f i l o a h g e k w = omega (arith, h, g, e, k, w)

pub opens_void : (e : Exec) (s s' : ℕ) → s' ≤ s + finding e → s' ≤ s + element_looks e 0
opens_void e s s' h = go (has_none (next e []))
  where
    go : (b : Bool) → s' ≤ s + (finding e + (if b then 0 else opening e))
    go true = omega (arith, h)
    go false = omega (arith, h)

pub each_more : (arena : List BareNode) (levels : ℕ) (places : List ℕ) (k s m s' : ℕ) → k < length places → m ≤ s + opening_each (to_execs (placed_all arena levels (drop (k + 1) places))) → s' ≤ m + element_looks (placed_down arena levels (get_or places k 0)) 0 → s' ≤ s + opening_each (to_execs (placed_all arena levels (drop k places)))
each_more arena levels places k s m s' l h g =
    let e = placed_down arena levels (get_or places k 0) in
    sum s m s' (opening_each (to_execs (placed_all arena levels (drop (k + 1) places)))) (element_looks e 0) (opening_each (to_execs (placed_all arena levels (drop k places)))) h g (each_here arena levels places k l)
  where
    sum : (s m s' r a o : ℕ) → m ≤ s + r → s' ≤ m + a → o ≡ a + r → s' ≤ s + o
    sum s m s' r a o h g e = omega (arith, h, g, e)

-- ---- the way on

pub way_opened : (arena : List BareNode) (rows : List Row) (c : ℕ → Cell) (p : ℕ) (k : Onward) (s s' : ℕ) → IsWay arena rows (row.Opens p) k → s' ≤ s + opening (executable_at arena rows p) → s' ≤ s + way_looks c k
way_opened arena rows c p Done s s' w h = absurd (let e : row.Opens p ≡ row.Done = w.told in cc)
way_opened arena rows c p (Opens es) s s' w h =
    let same : p ≡ w.told.0 = opens_same p w.told.0 w.told.1 in
    let is : opening (executable_at arena rows p) ≡ opening (leads (Plan None es)) = ap (λ (r : ℕ). opening (executable_at arena rows r)) same ∙ ap opening w.told.3 in
    let led = opening_led (Plan None es) in
    sum s s' (opening (executable_at arena rows p)) (opening (leads (Plan None es))) (opening_first es) h is led
  where
    opens_same : (p q : ℕ) → row.Opens p ≡ row.Opens q → p ≡ q
    opens_same p q e = cc

    sum : (s s' i l o : ℕ) → s' ≤ s + i → i ≡ l → l ≤ o → s' ≤ s + o
    sum s s' i l o h e k = omega (arith, h, e, k)
way_opened arena rows c p (Joins n j) s s' w h = absurd (let e : row.Opens p ≡ row.Joins n = w.told.0 in cc)
way_opened arena rows c p (PicksOn n total j) s s' w h = absurd (let e : row.Opens p ≡ row.PicksOn n = w.told.0 in cc)
way_opened arena rows c p (TestsAgain n) s s' w h = absurd (let e : row.Opens p ≡ row.TestsAgain n = w.told in cc)

-- a parallel that has one element less, and was that its last
pub way_joined : (arena : List BareNode) (rows : List Row) (old new : List Cell) (p : ℕ) (frame : Cell) (k : Onward) (s s' : ℕ) → new ≡ slice_set old p frame → (left (cells_of old p) == 1) ≡ true → ((j : Onward) → IsWay arena rows (after_at rows p) j → s' ≤ s + way_looks (cells_of new) j) → IsWay arena rows (row.Joins p) k → s' ≤ s + way_looks (cells_of old) k
way_joined arena rows old new p frame k s s' is last on w =
    let j = joins_is arena rows p k w in
    let c = cells_of old in
    let d = cells_of new in
    let one = same_number (left (c p)) 1 last in
    let kept = λ (q : ℕ) (h : has (p ∷ []) q ≡ false). subst (λ (l : List Cell). cells_of l q ≡ c q) (sym is) ((set_keeps old p frame [] q h)) in
    let same : way_looks c k ≡ way_looks d j.0 = ap (way_looks c) j.1 ∙ looks_last c d p j.0 j.2.distinct one kept in
    up_as s s' (way_looks d j.0) (way_looks c k) (on j.0 j.3) (sym same)

pub way_picked : (arena : List BareNode) (rows : List Row) (old : List Cell) (p : ℕ) (k : Onward) (s m s' : ℕ) → length (picked (cells_of old p)) ≡ count_at arena p → m ≤ s + 1 → ((j : Onward) → IsWay arena rows (after_at rows p) j → s' ≤ m + way_looks (cells_of old) j) → IsWay arena rows (row.PicksOn p) k → s' ≤ s + way_looks (cells_of old) k
way_picked arena rows old p k s m s' all_of look on w =
    let j = picks_is arena rows p k w in
    let c = cells_of old in
    let one : length (picked (c p)) ≡ count_at arena p = all_of in
    let same : way_looks c k ≡ way_looks c j.0 + 1 = ap (way_looks c) j.1 ∙ looks_picked c p (count_at arena p) j.0 one in
    sum s m s' (way_looks c j.0) (way_looks c k) look (on j.0 j.3) same
  where
    sum : (s m s' a b : ℕ) → m ≤ s + 1 → s' ≤ m + a → b ≡ a + 1 → s' ≤ s + b
    sum s m s' a b h g e = omega (arith, h, g, e)

pub way_asked : (arena : List BareNode) (rows : List Row) (old : List Cell) (p : ℕ) (k : Onward) (s s' : ℕ) → s' ≤ s + 1 → IsWay arena rows (row.PicksOn p) k → s' ≤ s + way_looks (cells_of old) k
way_asked arena rows old p k s s' look w =
    let j = picks_is arena rows p k w in
    let c = cells_of old in
    let most : ℕ = if length (picked (c p)) == count_at arena p then way_looks c j.0 else 0 in
    let same : way_looks c k ≡ most + 1 = ap (way_looks c) j.1 in
    sum s s' most (way_looks c k) look same
  where
    sum : (s s' a b : ℕ) → s' ≤ s + 1 → b ≡ a + 1 → s' ≤ s + b
    sum s s' a b h e = omega (arith, h, e)

-- ---- the entry's own node

own_node : (k : Kind) (n : Option ℕ) (p : ℕ) (es : List Exec) → (k ≡ kind.Plan → ⊥) → has (nodes (of_kind k (place_for k n p) es)) p ≡ true
own_node kind.Plan n p es a = absurd (a refl)
own_node kind.Par n p es a = has_self p _
own_node kind.NonSeq n p es a = has_self p _
own_node kind.Sel n p es a = has_self p _
own_node kind.If n p es a = has_self p _
own_node kind.While n p es a = has_self p _
own_node kind.Work n p es a = has_self p []
own_node kind.Assign n p es a = has_self p []
own_node kind.Set n p es a = has_self p []
own_node kind.Wait n p es a = has_self p []
own_node kind.Note n p es a = has_self p []

-- what is written at it changes no look on the way from it
pub way_written : (arena : List BareNode) (rows : List Row) (f : List Cell) (set : List ℕ) (t : List Entry) (p : ℕ) (frame : Cell) (x : Entry) (k : Kind) (elements : List ℕ) → IsTable arena rows → AreDistinct (nodes (placed arena)) → IsStep arena f set t p x → IsNode arena p k elements → (k ≡ kind.Plan → ⊥)
    → way_looks (cells_of (slice_set f p frame)) (onward (placed arena) Done p) ≡ way_looks (cells_of f) (onward (placed arena) Done p)
way_written arena rows f set t p frame x k elements table d s n plan =
    let e = placed arena in
    let own : has (nodes (tree.executable_at e p)) p ≡ true = subst (λ (g : Exec). has (nodes g) p ≡ true) (sym (found_is arena rows f set t p x k elements table d s n)) (own_node k n.node.number p _ plan) in
    looks_after (cells_of f) (cells_of (slice_set f p frame)) e p d (λ q h. (frame_other f p q frame (λ j. clash (has (nodes (tree.executable_at e p)) q) (subst (λ (r : ℕ). has (nodes (tree.executable_at e p)) r ≡ true) j own) h)))

element_any : (e : Exec) (o : ℕ) → element_looks e 0 ≤ element_looks e o
element_any e o = go (has_none (next e []))
  where
    go : (b : Bool) → finding e + (if b then 0 else opening e) ≤ finding e + (if b then o else opening e)
    go true = omega arith
    go false = omega arith

element_void : (e : Exec) (o : ℕ) → next e [] ≡ [] → element_looks e 0 + o ≤ element_looks e o
element_void e o h =
    let none : has_none (next e []) ≡ true = ap has_none h in
    let a : element_looks e 0 ≡ finding e + 0 = ap (λ (b : Bool). finding e + (if b then 0 else opening e)) none in
    let b : element_looks e o ≡ finding e + o = ap (λ (b : Bool). finding e + (if b then o else opening e)) none in
    sum (element_looks e 0) (element_looks e o) (finding e) o a b
  where
    sum : (x y f o : ℕ) → x ≡ f + 0 → y ≡ f + o → x + o ≤ y
    sum x y f o a b = omega (arith, a, b)

-- a workingstep that ends
pub work_looked : (arena : List BareNode) (rows : List Row) (f : List Cell) (set : List ℕ) (t : List Entry) (p : ℕ) (x : Entry) (elements : List ℕ) (s s' : ℕ) → IsTable arena rows → AreDistinct (nodes (placed arena)) → IsNode arena p kind.Work elements → IsStep arena f set t p x → ends x ≡ true
    → s' ≤ s + way_looks (cells_of (slice_set f p (cut x))) (onward (placed arena) Done p) → s' ≤ s + node_looks (cells_of f) (tree.executable_at (placed arena) p) (entry_at p x) (onward (placed arena) Done p)
work_looked arena rows f set t p x elements s s' table d n st on h =
    let e = placed arena in
    let c = cells_of f in
    let y = entry_at p x in
    let k : Onward = onward e Done p in
    let fo = follows arena f set t p x d st in
    let is : tree.executable_at e p ≡ Work p = found_is arena rows f set t p x kind.Work elements table d st n in
    let step : stage_step p (stage_of (c p)) y ≡ None = work_after_as c e t y p fo is ∙ (cut_over x p on).0 in
    let over : work_after p (c p) y ≡ Over = ap cell_of_stage step in
    let looked : node_looks c (tree.executable_at e p) y k ≡ way_looks c k = ap (λ (g : Exec). node_looks c g y k) is ∙ ap (λ (w : Cell). where_over w (way_looks c k)) over in
    up_as s s' (way_looks (cells_of (slice_set f p (cut x))) k) (node_looks c (tree.executable_at e p) y k) h (way_written arena rows f set t p (cut x) x kind.Work elements table d st n (λ j. (let w : kind.Work ≡ kind.Plan = j in cc)) ∙ sym looked)

pub leaf_looked : (arena : List BareNode) (rows : List Row) (f : List Cell) (set : List ℕ) (t : List Entry) (p : ℕ) (frame : Cell) (x : Entry) (k : Kind) (elements : List ℕ) (s s' : ℕ) → IsTable arena rows → AreDistinct (nodes (placed arena)) → IsNode arena p k elements → IsLeafKind k → IsStep arena f set t p x
    → s' ≤ s + way_looks (cells_of (slice_set f p frame)) (onward (placed arena) Done p) → s' ≤ s + node_looks (cells_of f) (tree.executable_at (placed arena) p) (entry_at p x) (onward (placed arena) Done p)
leaf_looked arena rows f set t p frame x k elements s s' table d n leaf st h =
    let e = placed arena in
    let c = cells_of f in
    let y = entry_at p x in
    let j : Onward = onward e Done p in
    let own = leaf_is k n.node.number p _ leaf in
    let is : tree.executable_at e p ≡ Leaf p own.0 = found_is arena rows f set t p x k elements table d st n ∙ own.1 in
    let looked : node_looks c (tree.executable_at e p) y j ≡ way_looks c j = ap (λ (g : Exec). node_looks c g y j) is in
    up_as s s' (way_looks (cells_of (slice_set f p frame)) j) (node_looks c (tree.executable_at e p) y j) h (way_written arena rows f set t p frame x k elements table d st n (λ i. subst IsLeafKind i leaf) ∙ sym looked)

-- the looks of a pick of a non-sequential, at its element and on the way
pick_node : (arena : List BareNode) (rows : List Row) (f : List Cell) (set : List ℕ) (t : List Entry) (p k : ℕ) (x : Entry) (elements : List ℕ) → IsTable arena rows → AreDistinct (nodes (placed arena)) → IsNode arena p kind.NonSeq elements → k ≡ index_in x → IsStep arena f set t p x
    → node_looks (cells_of f) (tree.executable_at (placed arena) p) (entry_at p x) (onward (placed arena) Done p) ≡ element_looks (at arena rows p elements k) (if length (picked (cells_of f p)) + 1 == length elements then way_looks (cells_of f) (onward (placed arena) Done p) else 0)
pick_node arena rows f set t p k x elements table d n is st =
    let e = placed arena in
    let c = cells_of f in
    let j : Onward = onward e Done p in
    let es = to_execs (placed_all arena (levels_at rows p - 1) elements) in
    let entry = picks_left arena f set t p x elements n st in
    let pick : entry_at p x ≡ Pick p k = entry.0 ∙ ap (λ (i : ℕ). Pick p i) (sym is) in
    let lt : k < length elements = subst (λ (i : ℕ). i < length elements) (sym is) entry.1 in
    let found : tree.executable_at e p ≡ NonSeq p es = found_is arena rows f set t p x kind.NonSeq elements table d st n in
    ap (λ (g : Exec). node_looks c g (entry_at p x) j) found
    ∙ (ap (λ (y : Entry). node_looks c (NonSeq p es) y j) pick
    ∙ (pick_looks c p es k j
    ∙ (ap (λ (g : Exec). element_looks g (if length (picked (c p)) + 1 == count es then way_looks c j else 0)) (element_is arena (levels_at rows p - 1) elements k lt)
    ∙ ap (λ (i : ℕ). element_looks (at arena rows p elements k) (if length (picked (c p)) + 1 == i then way_looks c j else 0)) (count_is arena (levels_at rows p - 1) elements))))

pub pick_looked : (arena : List BareNode) (rows : List Row) (f : List Cell) (set : List ℕ) (t : List Entry) (p k : ℕ) (x : Entry) (elements : List ℕ) (s s' : ℕ) → IsTable arena rows → AreDistinct (nodes (placed arena)) → IsNode arena p kind.NonSeq elements → k ≡ index_in x → IsStep arena f set t p x
    → s' ≤ s + element_looks (at arena rows p elements k) 0 → s' ≤ s + node_looks (cells_of f) (tree.executable_at (placed arena) p) (entry_at p x) (onward (placed arena) Done p)
pick_looked arena rows f set t p k x elements s s' table d n is st h =
    let w = way_looks (cells_of f) (onward (placed arena) Done p) in
    up_as s s' (element_looks (at arena rows p elements k) (if length (picked (cells_of f p)) + 1 == length elements then w else 0)) _
    (up_to s s' (element_looks (at arena rows p elements k) 0) _ h (element_any (at arena rows p elements k) (if length (picked (cells_of f p)) + 1 == length elements then w else 0))) (sym (pick_node arena rows f set t p k x elements table d n is st))

pub last_looked : (arena : List BareNode) (rows : List Row) (f : List Cell) (set : List ℕ) (t : List Entry) (p k : ℕ) (x : Entry) (elements : List ℕ) (frame : Cell) (s m s' : ℕ) → IsTable arena rows → AreDistinct (nodes (placed arena)) → IsNode arena p kind.NonSeq elements → k ≡ index_in x → IsStep arena f set t p x
    → next (at arena rows p elements k) [] ≡ [] → length (picked (cells_of f p)) + 1 ≡ length elements → m ≤ s + element_looks (at arena rows p elements k) 0 → s' ≤ m + way_looks (cells_of (slice_set f p frame)) (onward (placed arena) Done p) → s' ≤ s + node_looks (cells_of f) (tree.executable_at (placed arena) p) (entry_at p x) (onward (placed arena) Done p)
last_looked arena rows f set t p k x elements frame s m s' table d n is st none last h g =
    let j : Onward = onward (placed arena) Done p in
    let w = way_looks (cells_of f) j in
    let e = at arena rows p elements k in
    let written = way_written arena rows f set t p frame x kind.NonSeq elements table d st n (λ i. (let o : kind.NonSeq ≡ kind.Plan = i in cc)) in
    let all_of : node_looks (cells_of f) (tree.executable_at (placed arena) p) (entry_at p x) j ≡ element_looks e w =
    pick_node arena rows f set t p k x elements table d n is st ∙ ap (λ (b : Bool). element_looks e (if b then w else 0)) (tested (length (picked (cells_of f p)) + 1) (length elements) last) in
    up_as s s' (element_looks e w) _ (up_both s m s' (element_looks e 0) w (element_looks e w) h (up_as m s' (way_looks (cells_of (slice_set f p frame)) j) w g written) (element_void e w none)) (sym all_of)
  where
    tested : (a b : ℕ) → a ≡ b → (a == b) ≡ true
    tested a b e = grind (arith, nat_tests)

choice_node : (arena : List BareNode) (rows : List Row) (f : List Cell) (set : List ℕ) (t : List Entry) (p k : ℕ) (x : Entry) (elements : List ℕ) → IsTable arena rows → AreDistinct (nodes (placed arena)) → IsNode arena p kind.Sel elements → k ≡ index_in x → IsStep arena f set t p x
    → node_looks (cells_of f) (tree.executable_at (placed arena) p) (entry_at p x) (onward (placed arena) Done p) ≡ element_looks (at arena rows p elements k) (way_looks (cells_of f) (onward (placed arena) Done p))
choice_node arena rows f set t p k x elements table d n is st =
    let e = placed arena in
    let c = cells_of f in
    let j : Onward = onward e Done p in
    let es = to_execs (placed_all arena (levels_at rows p - 1) elements) in
    let entry = chooses_one arena f set t p x elements n st in
    let pick : entry_at p x ≡ Pick p k = entry.0 ∙ ap (λ (i : ℕ). Pick p i) (sym is) in
    let lt : k < length elements = subst (λ (i : ℕ). i < length elements) (sym is) entry.1 in
    let found : tree.executable_at e p ≡ Sel p es = found_is arena rows f set t p x kind.Sel elements table d st n in
    ap (λ (g : Exec). node_looks c g (entry_at p x) j) found
    ∙ (ap (λ (y : Entry). node_looks c (Sel p es) y j) pick
    ∙ (choice_looks c p es k j ∙ ap (λ (g : Exec). element_looks g (way_looks c j)) (element_is arena (levels_at rows p - 1) elements k lt)))

branch_node : (arena : List BareNode) (rows : List Row) (f : List Cell) (set : List ℕ) (t : List Entry) (p : ℕ) (x : Entry) (elements : List ℕ) → IsTable arena rows → AreDistinct (nodes (placed arena)) → IsNode arena p kind.If elements → HasArity kind.If elements → IsStep arena f set t p x
    → node_looks (cells_of f) (tree.executable_at (placed arena) p) (entry_at p x) (onward (placed arena) Done p) ≡ element_looks (taken arena rows p elements (answer_in x)) (way_looks (cells_of f) (onward (placed arena) Done p))
branch_node arena rows f set t p x elements table d n arity st =
    let e = placed arena in
    let c = cells_of f in
    let j : Onward = onward e Done p in
    let a = first_of (placed_all arena (levels_at rows p - 1) elements) in
    let b = second_of (placed_all arena (levels_at rows p - 1) elements) in
    let test : entry_at p x ≡ Test p (answer_in x) = test_is p x (offer_is arena f set t p x kind.If elements st n) in
    let found : tree.executable_at e p ≡ If p a b = found_is arena rows f set t p x kind.If elements table d st n in
    ap (λ (g : Exec). node_looks c g (entry_at p x) j) found
    ∙ (ap (λ (y : Entry). node_looks c (If p a b) y j) test
    ∙ (branch_looks c p a b (answer_in x) j ∙ ap (λ (g : Exec). element_looks g (way_looks c j)) (branch_is arena (levels_at rows p - 1) elements arity (answer_in x))))

-- the way is gone where the element has nothing to do
either_looked : (e : Exec) (looks w s s' : ℕ) → looks ≡ element_looks e w → s' ≤ s + element_looks e 0 → s' ≤ s + looks
either_looked e looks w s s' is h = up_as s s' (element_looks e w) looks (up_to s s' (element_looks e 0) (element_looks e w) h (element_any e w)) (sym is)

over_looked : (e : Exec) (looks w v s m s' : ℕ) → looks ≡ element_looks e w → next e [] ≡ [] → v ≡ w → m ≤ s + element_looks e 0 → s' ≤ m + v → s' ≤ s + looks
over_looked e looks w v s m s' is none same h g = up_as s s' (element_looks e w) looks (up_both s m s' (element_looks e 0) w (element_looks e w) h (up_as m s' v w g same) (element_void e w none)) (sym is)

pub choice_looked : (arena : List BareNode) (rows : List Row) (f : List Cell) (set : List ℕ) (t : List Entry) (p k : ℕ) (x : Entry) (elements : List ℕ) (s s' : ℕ) → IsTable arena rows → AreDistinct (nodes (placed arena)) → IsNode arena p kind.Sel elements → k ≡ index_in x → IsStep arena f set t p x
    → s' ≤ s + element_looks (at arena rows p elements k) 0 → s' ≤ s + node_looks (cells_of f) (tree.executable_at (placed arena) p) (entry_at p x) (onward (placed arena) Done p)
choice_looked arena rows f set t p k x elements s s' table d n is st h =
    either_looked (at arena rows p elements k) _ (way_looks (cells_of f) (onward (placed arena) Done p)) s s' (choice_node arena rows f set t p k x elements table d n is st) h

pub choice_gone : (arena : List BareNode) (rows : List Row) (f : List Cell) (set : List ℕ) (t : List Entry) (p k : ℕ) (x : Entry) (elements : List ℕ) (frame : Cell) (s m s' : ℕ) → IsTable arena rows → AreDistinct (nodes (placed arena)) → IsNode arena p kind.Sel elements → k ≡ index_in x → IsStep arena f set t p x → next (at arena rows p elements k) [] ≡ []
    → m ≤ s + element_looks (at arena rows p elements k) 0 → s' ≤ m + way_looks (cells_of (slice_set f p frame)) (onward (placed arena) Done p) → s' ≤ s + node_looks (cells_of f) (tree.executable_at (placed arena) p) (entry_at p x) (onward (placed arena) Done p)
choice_gone arena rows f set t p k x elements frame s m s' table d n is st none h g =
    over_looked (at arena rows p elements k) _ (way_looks (cells_of f) (onward (placed arena) Done p)) _ s m s' (choice_node arena rows f set t p k x elements table d n is st) none
    (way_written arena rows f set t p frame x kind.Sel elements table d st n (λ i. (let o : kind.Sel ≡ kind.Plan = i in cc))) h g

pub branch_looked : (arena : List BareNode) (rows : List Row) (f : List Cell) (set : List ℕ) (t : List Entry) (p : ℕ) (x : Entry) (elements : List ℕ) (s s' : ℕ) → IsTable arena rows → AreDistinct (nodes (placed arena)) → IsNode arena p kind.If elements → HasArity kind.If elements → IsStep arena f set t p x
    → s' ≤ s + element_looks (taken arena rows p elements (answer_in x)) 0 → s' ≤ s + node_looks (cells_of f) (tree.executable_at (placed arena) p) (entry_at p x) (onward (placed arena) Done p)
branch_looked arena rows f set t p x elements s s' table d n arity st h =
    either_looked (taken arena rows p elements (answer_in x)) _ (way_looks (cells_of f) (onward (placed arena) Done p)) s s' (branch_node arena rows f set t p x elements table d n arity st) h

pub branch_gone : (arena : List BareNode) (rows : List Row) (f : List Cell) (set : List ℕ) (t : List Entry) (p : ℕ) (x : Entry) (elements : List ℕ) (frame : Cell) (s m s' : ℕ) → IsTable arena rows → AreDistinct (nodes (placed arena)) → IsNode arena p kind.If elements → HasArity kind.If elements → IsStep arena f set t p x → next (taken arena rows p elements (answer_in x)) [] ≡ []
    → m ≤ s + element_looks (taken arena rows p elements (answer_in x)) 0 → s' ≤ m + way_looks (cells_of (slice_set f p frame)) (onward (placed arena) Done p) → s' ≤ s + node_looks (cells_of f) (tree.executable_at (placed arena) p) (entry_at p x) (onward (placed arena) Done p)
branch_gone arena rows f set t p x elements frame s m s' table d n arity st none h g =
    over_looked (taken arena rows p elements (answer_in x)) _ (way_looks (cells_of f) (onward (placed arena) Done p)) _ s m s' (branch_node arena rows f set t p x elements table d n arity st) none
    (way_written arena rows f set t p frame x kind.If elements table d st n (λ i. (let o : kind.If ≡ kind.Plan = i in cc))) h g

-- a while after a yes, and after a no
turn_tests : (arena : List BareNode) (f : List Cell) (set : List ℕ) (t : List Entry) (p : ℕ) (x : Entry) (elements : List ℕ) (answer : Bool) → IsNode arena p kind.While elements → IsStep arena f set t p x → answer_in x ≡ answer → entry_at p x ≡ Test p answer
turn_tests arena f set t p x elements answer n s e = test_is p x (offer_is arena f set t p x kind.While elements s n) ∙ ap (λ (b : Bool). Test p b) e

pub turn_looked : (arena : List BareNode) (rows : List Row) (f : List Cell) (set : List ℕ) (t : List Entry) (p : ℕ) (x : Entry) (elements : List ℕ) (s s' : ℕ) → IsTable arena rows → AreDistinct (nodes (placed arena)) → IsNode arena p kind.While elements → HasArity kind.While elements → answer_in x ≡ true → IsStep arena f set t p x
    → s' ≤ s + element_looks (at arena rows p elements 0) 0 → s' ≤ s + node_looks (cells_of f) (tree.executable_at (placed arena) p) (entry_at p x) (onward (placed arena) Done p)
turn_looked arena rows f set t p x elements s s' table d n arity yes_is st h =
    let e = placed arena in
    let c = cells_of f in
    let j : Onward = onward e Done p in
    let a = first_of (placed_all arena (levels_at rows p - 1) elements) in
    let found : tree.executable_at e p ≡ While p a = found_is arena rows f set t p x kind.While elements table d st n in
    let looked : node_looks c (tree.executable_at e p) (entry_at p x) j ≡ element_looks (at arena rows p elements 0) 0 =
    ap (λ (g : Exec). node_looks c g (entry_at p x) j) found
    ∙ (ap (λ (y : Entry). node_looks c (While p a) y j) (turn_tests arena f set t p x elements true n st yes_is)
    ∙ (turn_looks c p a j ∙ ap (λ (g : Exec). element_looks g 0) (body_is arena (levels_at rows p - 1) elements arity))) in
    up_as s s' (element_looks (at arena rows p elements 0) 0) _ h (sym looked)

pub turn_gone : (arena : List BareNode) (rows : List Row) (f : List Cell) (set : List ℕ) (t : List Entry) (p : ℕ) (x : Entry) (elements : List ℕ) (frame : Cell) (s s' : ℕ) → IsTable arena rows → AreDistinct (nodes (placed arena)) → IsNode arena p kind.While elements → answer_in x ≡ false → IsStep arena f set t p x
    → s' ≤ s + way_looks (cells_of (slice_set f p frame)) (onward (placed arena) Done p) → s' ≤ s + node_looks (cells_of f) (tree.executable_at (placed arena) p) (entry_at p x) (onward (placed arena) Done p)
turn_gone arena rows f set t p x elements frame s s' table d n no_is st h =
    let e = placed arena in
    let c = cells_of f in
    let j : Onward = onward e Done p in
    let a = first_of (placed_all arena (levels_at rows p - 1) elements) in
    let found : tree.executable_at e p ≡ While p a = found_is arena rows f set t p x kind.While elements table d st n in
    let looked : node_looks c (tree.executable_at e p) (entry_at p x) j ≡ way_looks c j =
    ap (λ (g : Exec). node_looks c g (entry_at p x) j) found
    ∙ (ap (λ (y : Entry). node_looks c (While p a) y j) (turn_tests arena f set t p x elements false n st no_is) ∙ no_turn_looks c p a j) in
    up_as s s' (way_looks (cells_of (slice_set f p frame)) j) _ h (way_written arena rows f set t p frame x kind.While elements table d st n (λ i. (let o : kind.While ≡ kind.Plan = i in cc)) ∙ sym looked)
