-- What a test of an if or of a while does.
use Rattle.std.specs.Prelude.{◌≡◌, ◌<◌, ◌-◌, if◌then◌else◌, ℕ, Bool, true, false, List, [], ◌∷◌, ◌++◌, length, slice_set, Some}
use Rattle.std.proofs.Common.{refl, sym, ◌∙◌, ap, subst}
use Rattle.exec_tree.specs.Exec.{Exec, If, While, nodes, has, AreDistinct}
use Rattle.exec_tree.specs.Arena.{first_of, second_of, HasArity}
use Rattle.exec_tree.specs.declared.kind.Kind.TheVariants as kind
use Rattle.exec_tree.specs.declared.node.BareNode.{BareNode}
use Rattle.trace_law.specs.Next.{first_of_two, next}
use Rattle.trace_law.specs.Cells.{AnsweredBy, Cell}
use Rattle.trace_law.specs.Frames.{Stands}
use Rattle.trace_law.proofs.StepLemmas.{apart}
use Rattle.run_log.specs.declared.entry.Entry.{Entry}
use Rattle.run_log.specs.declared.entry.Entry.TheVariants.{Test}
use Rattle.frame_law.specs.Executable as tree
use Rattle.frame_law.specs.Onward.{Done, onward, brings}
use Rattle.frame_law.specs.Way.{Follows}
use Rattle.frame_law.proofs.OutsideLemmas.{no_left, no_right}
use Rattle.frame_law.proofs.NodeLemmas.{branch_writes, branch_comes, turn_writes, turn_comes}
use Rattle.frame_law.proofs.KindLemmas.{stands_as, comes_as, distinct_as}
use Rattle.frame_law.proofs.GoingLemmas.{branch_then_on, no_turn_then_on, comes_then_on, branch_is_over}
use Rattle.tree_table.specs.Placed.{placed, placed_all}
use Rattle.tree_table.specs.Rows.{levels_at}
use Rattle.tree_table.specs.Table.{IsTable}
use Rattle.tree_table.specs.declared.row.Row.{Row}
use Rattle.run_frames.specs.Frames.{cells_of}
use Rattle.run_frames.specs.Entries.{answer_in}
use Rattle.run_frames.specs.Renaming.{entry_at}
use Rattle.run_frames.specs.Entered.{AreUnpickedIn, IsNode}
use Rattle.run_frames.specs.Held.{IsHeld, IsStep, HasClosed, HasOpened, HasTried}
use Rattle.run_frames.proofs.WriteLemmas.{frame_set, length_set, set_keeps, not_rest}
use Rattle.run_frames.proofs.StepLemmas.{follows, found_is, offer_is, test_is, branch_is, body_is, next_after, next_same}
use Rattle.run_frames.proofs.WorkLemmas.{own_cell, set_kept, all_unpicked, other_unpicked}
use Rattle.run_frames.proofs.PickLemmas.{at}

first_is : (a b : List ℕ) → (a ≡ [] → ⊥) → first_of_two a b ≡ a
first_is [] b h = absurd (h refl)
first_is (n ∷ a) b h = refl

test_follows : (arena : List BareNode) (f : List Cell) (set : List ℕ) (t : List Entry) (p : ℕ) (x : Entry) (answer : Bool) → AreDistinct (nodes (placed arena)) → IsStep arena f set t p x → entry_at p x ≡ Test p answer → Follows (cells_of f) (placed arena) t (Test p answer) p
test_follows arena f set t p x answer d s e = subst (λ (y : Entry). Follows (cells_of f) (placed arena) t y p) e (follows arena f set t p x d s)

held_as : (arena : List BareNode) (new : List Cell) (after : List ℕ) (t : List Entry) (y z : Entry) → y ≡ z → IsHeld arena new after (t ++ z ∷ []) → IsHeld arena new after (t ++ y ∷ [])
held_as arena new after t y z e h = subst (λ (w : Entry). IsHeld arena new after (t ++ w ∷ [])) (sym e) h

-- ---- ifs

abbrev yes_of : List BareNode → List Row → ℕ → List ℕ → Exec
yes_of arena rows p elements = first_of (placed_all arena (levels_at rows p - 1) elements)

abbrev no_of : List BareNode → List Row → ℕ → List ℕ → Exec
no_of arena rows p elements = second_of (placed_all arena (levels_at rows p - 1) elements)

-- the branch of an answer
abbrev pub taken : List BareNode → List Row → ℕ → List ℕ → Bool → Exec
taken arena rows p elements answer = at arena rows p elements (if answer then 0 else 1)

branch_picks_not : kind.If ≡ kind.NonSeq → ⊥
branch_picks_not e = cc

pub branch_unpicked : (arena : List BareNode) (f : List Cell) (p : ℕ) (frame : Cell) (elements : List ℕ) → p < length f → IsNode arena p kind.If elements → AreUnpickedIn arena f → AreUnpickedIn arena (slice_set f p frame)
branch_unpicked arena f p frame elements l n u = other_unpicked arena f p frame kind.If elements l n branch_picks_not u

branch_tests : (arena : List BareNode) (f : List Cell) (set : List ℕ) (t : List Entry) (p : ℕ) (x : Entry) (elements : List ℕ) → IsNode arena p kind.If elements → IsStep arena f set t p x → entry_at p x ≡ Test p (answer_in x)
branch_tests arena f set t p x elements n s = test_is p x (offer_is arena f set t p x kind.If elements s n)

in_branch : (a b : Exec) (answer : Bool) (q : ℕ) → has (nodes a ++ nodes b) q ≡ false → has (nodes (if answer then a else b)) q ≡ false
in_branch a b true q h = no_left (nodes a) (nodes b) q h
in_branch a b false q h = no_right (nodes a) (nodes b) q h

branch_within : (arena : List BareNode) (rows : List Row) (p : ℕ) (elements : List ℕ) (answer : Bool) (q : ℕ) → HasArity kind.If elements → has (nodes (yes_of arena rows p elements) ++ nodes (no_of arena rows p elements)) q ≡ false → has (nodes (taken arena rows p elements answer)) q ≡ false
branch_within arena rows p elements answer q a h =
    subst (λ (e : Exec). has (nodes e) q ≡ false) (branch_is arena (levels_at rows p - 1) elements a answer) (in_branch (yes_of arena rows p elements) (no_of arena rows p elements) answer q h)

pub branch_opens : (arena : List BareNode) (rows : List Row) (f new : List Cell) (set after : List ℕ) (t : List Entry) (p : ℕ) (x : Entry) (elements : List ℕ) → IsTable arena rows → AreDistinct (nodes (placed arena)) → IsNode arena p kind.If elements → HasArity kind.If elements → p < length f → IsStep arena f set t p x
    → HasOpened arena (slice_set f p (AnsweredBy (Some (answer_in x)))) new set after p (taken arena rows p elements (answer_in x)) → IsHeld arena new after (t ++ entry_at p x ∷ [])
branch_opens arena rows f new set after t p x elements table d n arity l s o =
    let e = placed arena in
    let c = cells_of f in
    let c' = cells_of new in
    let ans = answer_in x in
    let a = yes_of arena rows p elements in
    let b = no_of arena rows p elements in
    let test = branch_tests arena f set t p x elements n s in
    let fo = test_follows arena f set t p x ans d s test in
    let found : tree.executable_at e p ≡ If p a b = found_is arena rows f set t p x kind.If elements table d s n in
    let once = distinct_as c e t (Test p ans) p (If p a b) fo found in
    let parts = apart (If p a b) once in
    let is = branch_is arena (levels_at rows p - 1) elements arity ans in
    let nx : next (if ans then a else b) [] ≡ next (taken arena rows p elements ans) [] = ap (λ (w : Exec). next w []) is in
    let cell : c' p ≡ AnsweredBy (Some ans) = (o.kept p (branch_within arena rows p elements ans p arity once.0) ∙ frame_set f p (AnsweredBy (Some ans)) l) in
    let kept = λ (q : ℕ) (h : has (p ∷ (nodes a ++ nodes b)) q ≡ false). (o.kept q (branch_within arena rows p elements ans q arity (not_rest p (nodes a ++ nodes b) q h)) ∙ set_keeps f p (AnsweredBy (Some ans)) (nodes a ++ nodes b) q h) in
    let writes = branch_writes c c' p a b ans (onward e Done p) parts.1 parts.2 cell (subst (λ (w : Exec). Stands c' w []) (sym is) o.stands) (λ z. absurd (o.some (sym nx ∙ z))) (λ q h j. kept q h) in
    let comes = branch_comes c p a b ans (brings c (onward e Done p)) ∙ (first_is (next (if ans then a else b) []) _ (λ z. o.some (sym nx ∙ z)) ∙ nx) in
    held_as arena new after t (entry_at p x) (Test p ans) test
    (record {
      part = fo.part;
      stands = stands_as c c' e t (Test p ans) p (If p a b) fo (all_unpicked arena new o.unpicked) found writes;
      unpicked = o.unpicked;
      room = o.long ∙ (length_set f p (AnsweredBy (Some ans)) ∙ s.held.room);
      goes_on = next_after set after (next e t) (next e (t ++ Test p ans ∷ [])) (next (taken arena rows p elements ans) []) p s.held.goes_on o.came (comes_as c e t (Test p ans) p (If p a b) (next (taken arena rows p elements ans) []) fo found comes);
    })

pub branch_is_void : (arena : List BareNode) (rows : List Row) (f new : List Cell) (set after : List ℕ) (t : List Entry) (p : ℕ) (x : Entry) (elements : List ℕ) → IsTable arena rows → AreDistinct (nodes (placed arena)) → IsNode arena p kind.If elements → HasArity kind.If elements → p < length f → IsStep arena f set t p x
    → next (taken arena rows p elements (answer_in x)) [] ≡ [] → Stands (cells_of (slice_set f p (AnsweredBy (Some (answer_in x))))) (taken arena rows p elements (answer_in x)) [] → HasClosed arena (slice_set f p (AnsweredBy (Some (answer_in x)))) new set after p → IsHeld arena new after (t ++ entry_at p x ∷ [])
branch_is_void arena rows f new set after t p x elements table d n arity l s void stands h =
    let e = placed arena in
    let c = cells_of f in
    let ans = answer_in x in
    let mid = slice_set f p (AnsweredBy (Some ans)) in
    let a = yes_of arena rows p elements in
    let b = no_of arena rows p elements in
    let test = branch_tests arena f set t p x elements n s in
    let fo = test_follows arena f set t p x ans d s test in
    let found : tree.executable_at e p ≡ If p a b = found_is arena rows f set t p x kind.If elements table d s n in
    let is = branch_is arena (levels_at rows p - 1) elements arity ans in
    let none : next (if ans then a else b) [] ≡ [] = ap (λ (w : Exec). next w []) is ∙ void in
    let kept = set_kept f p (AnsweredBy (Some ans)) (nodes a ++ nodes b) in
    held_as arena new after t (entry_at p x) (Test p ans) test
    (record {
      part = fo.part;
      stands = branch_then_on c (cells_of mid) (cells_of new) e t p a b ans fo (all_unpicked arena new h.unpicked) found none (own_cell f p (AnsweredBy (Some ans)) l) (subst (λ (w : Exec). Stands (cells_of mid) w []) (sym is) stands) kept h.gone;
      unpicked = h.unpicked;
      room = h.long ∙ (length_set f p (AnsweredBy (Some ans)) ∙ s.held.room);
      goes_on = next_after set after (next e t) (next e (t ++ Test p ans ∷ [])) (brings (cells_of mid) (onward e Done p)) p s.held.goes_on h.came (comes_then_on c (cells_of mid) e t (Test p ans) p (If p a b) fo found kept (branch_is_over c p a b ans (brings c (onward e Done p)) none));
    })

-- ---- whiles

turn_picks_not : kind.While ≡ kind.NonSeq → ⊥
turn_picks_not e = cc

pub turn_unpicked : (arena : List BareNode) (f : List Cell) (p : ℕ) (frame : Cell) (elements : List ℕ) → p < length f → IsNode arena p kind.While elements → AreUnpickedIn arena f → AreUnpickedIn arena (slice_set f p frame)
turn_unpicked arena f p frame elements l n u = other_unpicked arena f p frame kind.While elements l n turn_picks_not u

turn_tests : (arena : List BareNode) (f : List Cell) (set : List ℕ) (t : List Entry) (p : ℕ) (x : Entry) (elements : List ℕ) (answer : Bool) → IsNode arena p kind.While elements → IsStep arena f set t p x → answer_in x ≡ answer → entry_at p x ≡ Test p answer
turn_tests arena f set t p x elements answer n s e = test_is p x (offer_is arena f set t p x kind.While elements s n) ∙ ap (λ (b : Bool). Test p b) e

body_kept : (arena : List BareNode) (rows : List Row) (p : ℕ) (elements : List ℕ) (q : ℕ) → HasArity kind.While elements → has (nodes (yes_of arena rows p elements)) q ≡ false → has (nodes (at arena rows p elements 0)) q ≡ false
body_kept arena rows p elements q a h = subst (λ (e : Exec). has (nodes e) q ≡ false) (body_is arena (levels_at rows p - 1) elements a) h

pub turn_opens : (arena : List BareNode) (rows : List Row) (f new : List Cell) (set after : List ℕ) (t : List Entry) (p : ℕ) (x : Entry) (elements : List ℕ) → IsTable arena rows → AreDistinct (nodes (placed arena)) → IsNode arena p kind.While elements → HasArity kind.While elements → p < length f → answer_in x ≡ true → IsStep arena f set t p x
    → HasOpened arena (slice_set f p (AnsweredBy (Some true))) new set after p (at arena rows p elements 0) → IsHeld arena new after (t ++ entry_at p x ∷ [])
turn_opens arena rows f new set after t p x elements table d n arity l yes_is s o =
    let e = placed arena in
    let c = cells_of f in
    let c' = cells_of new in
    let a = yes_of arena rows p elements in
    let test = turn_tests arena f set t p x elements true n s yes_is in
    let fo = test_follows arena f set t p x true d s test in
    let found : tree.executable_at e p ≡ While p a = found_is arena rows f set t p x kind.While elements table d s n in
    let once = distinct_as c e t (Test p true) p (While p a) fo found in
    let is = body_is arena (levels_at rows p - 1) elements arity in
    let nx : next a [] ≡ next (at arena rows p elements 0) [] = ap (λ (w : Exec). next w []) is in
    let cell : c' p ≡ AnsweredBy (Some true) = (o.kept p (body_kept arena rows p elements p arity once.0) ∙ frame_set f p (AnsweredBy (Some true)) l) in
    let kept = λ (q : ℕ) (h : has (p ∷ nodes a) q ≡ false). (o.kept q (body_kept arena rows p elements q arity (not_rest p (nodes a) q h)) ∙ set_keeps f p (AnsweredBy (Some true)) (nodes a) q h) in
    let writes = turn_writes c c' p a (onward e Done p) (apart a once.1) cell (subst (λ (w : Exec). Stands c' w []) (sym is) o.stands) kept in
    let comes = turn_comes c p a true (brings c (onward e Done p)) ∙ (first_is (next a []) (p ∷ []) (λ z. o.some (sym nx ∙ z)) ∙ nx) in
    held_as arena new after t (entry_at p x) (Test p true) test
    (record {
      part = fo.part;
      stands = stands_as c c' e t (Test p true) p (While p a) fo (all_unpicked arena new o.unpicked) found writes;
      unpicked = o.unpicked;
      room = o.long ∙ (length_set f p (AnsweredBy (Some true)) ∙ s.held.room);
      goes_on = next_after set after (next e t) (next e (t ++ Test p true ∷ [])) (next (at arena rows p elements 0) []) p s.held.goes_on o.came (comes_as c e t (Test p true) p (While p a) (next (at arena rows p elements 0) []) fo found comes);
    })

-- the body has nothing to do, so the while tests again
pub turn_stays : (arena : List BareNode) (rows : List Row) (f : List Cell) (set : List ℕ) (t : List Entry) (p : ℕ) (x : Entry) (elements : List ℕ) → IsTable arena rows → AreDistinct (nodes (placed arena)) → IsNode arena p kind.While elements → HasArity kind.While elements → p < length f → answer_in x ≡ true → IsStep arena f set t p x
    → next (at arena rows p elements 0) [] ≡ [] → Stands (cells_of (slice_set f p (AnsweredBy (Some true)))) (at arena rows p elements 0) [] → IsHeld arena (slice_set f p (AnsweredBy (Some true))) set (t ++ entry_at p x ∷ [])
turn_stays arena rows f set t p x elements table d n arity l yes_is s void stands =
    let e = placed arena in
    let c = cells_of f in
    let new = slice_set f p (AnsweredBy (Some true)) in
    let a = yes_of arena rows p elements in
    let test = turn_tests arena f set t p x elements true n s yes_is in
    let fo = test_follows arena f set t p x true d s test in
    let found : tree.executable_at e p ≡ While p a = found_is arena rows f set t p x kind.While elements table d s n in
    let once = distinct_as c e t (Test p true) p (While p a) fo found in
    let is = body_is arena (levels_at rows p - 1) elements arity in
    let none : next a [] ≡ [] = ap (λ (w : Exec). next w []) is ∙ void in
    let u = turn_unpicked arena f p (AnsweredBy (Some true)) elements l n s.held.unpicked in
    let writes = turn_writes c (cells_of new) p a (onward e Done p) (apart a once.1) (own_cell f p (AnsweredBy (Some true)) l) (subst (λ (w : Exec). Stands (cells_of new) w []) (sym is) stands) (set_kept f p (AnsweredBy (Some true)) (nodes a)) in
    let comes = turn_comes c p a true (brings c (onward e Done p)) ∙ ap (λ (w : List ℕ). first_of_two w (p ∷ [])) none in
    held_as arena new set t (entry_at p x) (Test p true) test
    (record {
      part = fo.part;
      stands = stands_as c (cells_of new) e t (Test p true) p (While p a) fo (all_unpicked arena new u) found writes;
      unpicked = u;
      room = length_set f p (AnsweredBy (Some true)) ∙ s.held.room;
      goes_on = next_same set (next e t) (next e (t ++ Test p true ∷ [])) p s.held.goes_on s.is_next (comes_as c e t (Test p true) p (While p a) (p ∷ []) fo found comes);
    })

-- either of these
pub turn_tried : (arena : List BareNode) (rows : List Row) (f new : List Cell) (set after : List ℕ) (t : List Entry) (p : ℕ) (x : Entry) (elements : List ℕ) (b : Bool) → IsTable arena rows → AreDistinct (nodes (placed arena)) → IsNode arena p kind.While elements → HasArity kind.While elements → p < length f → answer_in x ≡ true → IsStep arena f set t p x
    → HasTried arena (slice_set f p (AnsweredBy (Some true))) new set after p (at arena rows p elements 0) b → IsHeld arena new after (t ++ entry_at p x ∷ [])
turn_tried arena rows f new set after t p x elements true table d n arity l yes_is s o = turn_opens arena rows f new set after t p x elements table d n arity l yes_is s o
turn_tried arena rows f new set after t p x elements false table d n arity l yes_is s v =
    subst (λ (w : List ℕ). IsHeld arena new w (t ++ entry_at p x ∷ [])) (sym v.same_set)
    (subst (λ (g : List Cell). IsHeld arena g set (t ++ entry_at p x ∷ [])) (sym v.same) (turn_stays arena rows f set t p x elements table d n arity l yes_is s v.none v.stands))

pub turn_is_over : (arena : List BareNode) (rows : List Row) (f new : List Cell) (set after : List ℕ) (t : List Entry) (p : ℕ) (x : Entry) (elements : List ℕ) → IsTable arena rows → AreDistinct (nodes (placed arena)) → IsNode arena p kind.While elements → p < length f → answer_in x ≡ false → IsStep arena f set t p x
    → HasClosed arena (slice_set f p (AnsweredBy (Some false))) new set after p → IsHeld arena new after (t ++ entry_at p x ∷ [])
turn_is_over arena rows f new set after t p x elements table d n l no_is s h =
    let e = placed arena in
    let c = cells_of f in
    let mid = slice_set f p (AnsweredBy (Some false)) in
    let a = yes_of arena rows p elements in
    let test = turn_tests arena f set t p x elements false n s no_is in
    let fo = test_follows arena f set t p x false d s test in
    let found : tree.executable_at e p ≡ While p a = found_is arena rows f set t p x kind.While elements table d s n in
    held_as arena new after t (entry_at p x) (Test p false) test
    (record {
      part = fo.part;
      stands = no_turn_then_on c (cells_of mid) (cells_of new) e t p a fo (all_unpicked arena new h.unpicked) found (own_cell f p (AnsweredBy (Some false)) l) (set_kept f p (AnsweredBy (Some false)) []) h.gone;
      unpicked = h.unpicked;
      room = h.long ∙ (length_set f p (AnsweredBy (Some false)) ∙ s.held.room);
      goes_on = next_after set after (next e t) (next e (t ++ Test p false ∷ [])) (brings (cells_of mid) (onward e Done p)) p s.held.goes_on h.came (comes_then_on c (cells_of mid) e t (Test p false) p (While p a) fo found (set_kept f p (AnsweredBy (Some false)) (nodes a)) (turn_comes c p a false (brings c (onward e Done p))));
    })
