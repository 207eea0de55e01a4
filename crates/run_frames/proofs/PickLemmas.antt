-- What a pick of a non-sequential or of a selective does.
use Rattle.std.specs.Prelude.{◌≡◌, ◌<◌, ◌-◌, ◌+◌, ◌==◌, if◌then◌else◌, ℕ, Bool, true, false, List, [], ◌∷◌, ◌++◌, length, slice_set}
use Rattle.std.proofs.Common.{refl, sym, ◌∙◌, ap, subst, arith, get_or}
use Rattle.std.proofs.lemmas.Bool.Decides.{nat_tests}
use Rattle.exec_tree.specs.Exec.{Exec, NonSeq, Sel, Execs, nodes, nodes_all, has, AreDistinct, count}
use Rattle.exec_tree.specs.Arena.{to_execs}
use Rattle.exec_tree.specs.declared.kind.Kind.TheVariants as kind
use Rattle.exec_tree.specs.declared.node.BareNode.{BareNode}
use Rattle.trace_law.specs.Next.{first_of_two, next, next_at}
use Rattle.trace_law.specs.Cells.{Cell, Picked, picked}
use Rattle.trace_law.specs.Frames.{Stands, StandsAt}
use Rattle.trace_law.proofs.StepLemmas.{apart_all}
use Rattle.run_log.specs.declared.entry.Entry.{Entry}
use Rattle.run_log.specs.declared.entry.Entry.TheVariants.{Pick}
use Rattle.frame_law.specs.Executable.{element}
use Rattle.frame_law.specs.Executable as tree
use Rattle.frame_law.specs.Onward.{Done, onward, brings}
use Rattle.frame_law.specs.Way.{AreKeptBut as CellsKept, Follows}
use Rattle.frame_law.proofs.NodeLemmas.{pick_writes, sel_writes, pick_comes, sel_comes}
use Rattle.frame_law.proofs.KindLemmas.{stands_as, comes_as, distinct_as, unchosen_as}
use Rattle.frame_law.proofs.OpenedLemmas.{element_next, element_stands, element_within}
use Rattle.frame_law.proofs.GoingLemmas.{pick_then_on, choice_then_on, comes_then_on, pick_is_over, choice_is_over}
use Rattle.tree_table.specs.Placed.{placed, placed_down, placed_all}
use Rattle.tree_table.specs.Rows.{levels_at}
use Rattle.tree_table.specs.Table.{IsTable}
use Rattle.tree_table.specs.declared.row.Row.{Row}
use Rattle.tree_table.proofs.PlacedLemmas.{count_is}
use Rattle.run_frames.specs.Frames.{cells_of, AreKeptBut}
use Rattle.run_frames.specs.Entries.{index_in}
use Rattle.run_frames.specs.Renaming.{entry_at}
use Rattle.run_frames.specs.Entered.{AreUnpickedIn, IsNode}
use Rattle.run_frames.specs.Held.{IsHeld, IsStep, HasClosed, HasOpened}
use Rattle.run_frames.proofs.WriteLemmas.{frame_set, length_set, set_keeps, not_rest}
use Rattle.run_frames.proofs.UnpickedLemmas.{set_unpicked}
use Rattle.run_frames.proofs.StepLemmas.{follows, found_is, offer_is, pick_is, element_is, next_after, next_same}
use Rattle.run_frames.proofs.WorkLemmas.{own_cell, set_kept, all_unpicked, other_unpicked}

-- the elements, and the executable at one of them
abbrev those : List BareNode → List Row → ℕ → List ℕ → Execs
those arena rows p elements = to_execs (placed_all arena (levels_at rows p - 1) elements)

abbrev pub at : List BareNode → List Row → ℕ → List ℕ → ℕ → Exec
at arena rows p elements k = placed_down arena (levels_at rows p - 1) (get_or elements k 0)

first_is : (a b : List ℕ) → (a ≡ [] → ⊥) → first_of_two a b ≡ a
first_is [] b h = absurd (h refl)
first_is (n ∷ a) b h = refl

chosen_no : (b : Bool) (x y : List ℕ) → b ≡ false → (if b then x else y) ≡ y
chosen_no true x y e = absurd (cc)
chosen_no false x y e = refl

-- the element is one of those
there : (arena : List BareNode) (rows : List Row) (p : ℕ) (elements : List ℕ) (k : ℕ) → k < length elements → element (those arena rows p elements) k ≡ at arena rows p elements k
there arena rows p elements k l = element_is arena (levels_at rows p - 1) elements k l

next_there : (arena : List BareNode) (rows : List Row) (p : ℕ) (elements : List ℕ) (k : ℕ) → k < length elements → next_at (those arena rows p elements) k [] ≡ next (at arena rows p elements k) []
next_there arena rows p elements k l = element_next (those arena rows p elements) k ∙ ap (λ (e : Exec). next e []) (there arena rows p elements k l)

stands_there : (c : ℕ → Cell) (arena : List BareNode) (rows : List Row) (p : ℕ) (elements : List ℕ) (k : ℕ) → k < length elements → Stands c (at arena rows p elements k) [] → StandsAt c (those arena rows p elements) k []
stands_there c arena rows p elements k l s = element_stands c (those arena rows p elements) k (subst (λ (e : Exec). Stands c e []) (sym (there arena rows p elements k l)) s)

within_there : (arena : List BareNode) (rows : List Row) (p : ℕ) (elements : List ℕ) (k q : ℕ) → k < length elements → has (nodes_all (those arena rows p elements)) q ≡ false → has (nodes (at arena rows p elements k)) q ≡ false
within_there arena rows p elements k q l h = subst (λ (e : Exec). has (nodes e) q ≡ false) (there arena rows p elements k l) (element_within (those arena rows p elements) k q h)

-- what the picked element leaves of the node's own frame, and of the others
opened_cell : (f new : List Cell) (arena : List BareNode) (rows : List Row) (p : ℕ) (elements : List ℕ) (k : ℕ) (frame : Cell) → p < length f → k < length elements → has (nodes_all (those arena rows p elements)) p ≡ false → AreKeptBut (slice_set f p frame) new (nodes (at arena rows p elements k)) → cells_of new p ≡ frame
opened_cell f new arena rows p elements k frame l lt out kept = kept p (within_there arena rows p elements k p lt out) ∙ frame_set f p frame l

opened_kept : (f new : List Cell) (arena : List BareNode) (rows : List Row) (p : ℕ) (elements : List ℕ) (k : ℕ) (frame : Cell) → k < length elements → AreKeptBut (slice_set f p frame) new (nodes (at arena rows p elements k)) → CellsKept (cells_of f) (cells_of new) (p ∷ nodes_all (those arena rows p elements))
opened_kept f new arena rows p elements k frame lt kept = λ q h.
    (kept q (within_there arena rows p elements k q lt (not_rest p (nodes_all (those arena rows p elements)) q h)) ∙ set_keeps f p frame (nodes_all (those arena rows p elements)) q h)

-- ---- non-sequentials

-- the entry picks an element that is left
pub picks_left : (arena : List BareNode) (f : List Cell) (set : List ℕ) (t : List Entry) (p : ℕ) (x : Entry) (elements : List ℕ) → IsNode arena p kind.NonSeq elements → IsStep arena f set t p x → (entry_at p x ≡ Pick p (index_in x)) × (index_in x < length elements) × (has (picked (cells_of f p)) (index_in x) ≡ false)
picks_left arena f set t p x elements n s = pick_is p (length elements) (picked (cells_of f p)) x (offer_is arena f set t p x kind.NonSeq elements s n)

some_picked : (k : ℕ) (elements : List ℕ) → k < length elements → elements ≡ [] → ⊥
some_picked k elements l e = absurd (let n : length elements ≡ 0 = ap (λ (qs : List ℕ). length qs) e in omega (arith, l, n))

pub pick_unpicked : (arena : List BareNode) (f : List Cell) (p : ℕ) (frame : Cell) (k : ℕ) (elements : List ℕ) → p < length f → IsNode arena p kind.NonSeq elements → k < length elements → AreUnpickedIn arena f → AreUnpickedIn arena (slice_set f p frame)
pick_unpicked arena f p frame k elements l n lt u = set_unpicked arena f p frame n.node l n.at (λ is none. absurd (some_picked k elements lt (sym n.elements_are ∙ none))) u

-- the entry as that pick
pick_follows : (arena : List BareNode) (f : List Cell) (set : List ℕ) (t : List Entry) (p k : ℕ) (x : Entry) → AreDistinct (nodes (placed arena)) → IsStep arena f set t p x → entry_at p x ≡ Pick p k → Follows (cells_of f) (placed arena) t (Pick p k) p
pick_follows arena f set t p k x d s e = subst (λ (y : Entry). Follows (cells_of f) (placed arena) t y p) e (follows arena f set t p x d s)

held_as : (arena : List BareNode) (new : List Cell) (after : List ℕ) (t : List Entry) (y z : Entry) → y ≡ z → IsHeld arena new after (t ++ z ∷ []) → IsHeld arena new after (t ++ y ∷ [])
held_as arena new after t y z e h = subst (λ (w : Entry). IsHeld arena new after (t ++ w ∷ [])) (sym e) h

pub pick_opens : (arena : List BareNode) (rows : List Row) (f new : List Cell) (set after : List ℕ) (t : List Entry) (p k : ℕ) (x : Entry) (elements : List ℕ) → IsTable arena rows → AreDistinct (nodes (placed arena)) → IsNode arena p kind.NonSeq elements → p < length f → k ≡ index_in x → IsStep arena f set t p x
    → HasOpened arena (slice_set f p (Picked (picked (cells_of f p) ++ k ∷ []))) new set after p (at arena rows p elements k) → IsHeld arena new after (t ++ entry_at p x ∷ [])
pick_opens arena rows f new set after t p k x elements table d n l is s o =
    let e = placed arena in
    let c = cells_of f in
    let c' = cells_of new in
    let es = those arena rows p elements in
    let entry = picks_left arena f set t p x elements n s in
    let pick : entry_at p x ≡ Pick p k = entry.0 ∙ ap (λ (j : ℕ). Pick p j) (sym is) in
    let lt : k < length elements = subst (λ (j : ℕ). j < length elements) (sym is) entry.1 in
    let fo = pick_follows arena f set t p k x d s pick in
    let found : tree.executable_at e p ≡ NonSeq p es = found_is arena rows f set t p x kind.NonSeq elements table d s n in
    let once = distinct_as c e t (Pick p k) p (NonSeq p es) fo found in
    let some : next_at es k [] ≡ [] → ⊥ = λ z. o.some (sym (next_there arena rows p elements k lt) ∙ z) in
    let kept = opened_kept f new arena rows p elements k (Picked (picked (cells_of f p) ++ k ∷ [])) lt o.kept in
    let writes = pick_writes c c' p es k (onward e Done p) (apart_all es once.1) (opened_cell f new arena rows p elements k (Picked (picked (cells_of f p) ++ k ∷ [])) l lt once.0 o.kept) (stands_there c' arena rows p elements k lt o.stands) (λ z y. absurd (some z)) (λ q h j. kept q h) in
    let comes = pick_comes c p es k (brings c (onward e Done p)) ∙ (first_is (next_at es k []) _ some ∙ next_there arena rows p elements k lt) in
    held_as arena new after t (entry_at p x) (Pick p k) pick
    (record {
      part = fo.part;
      stands = stands_as c c' e t (Pick p k) p (NonSeq p es) fo (all_unpicked arena new o.unpicked) found writes;
      unpicked = o.unpicked;
      room = o.long ∙ (length_set f p (Picked (picked (cells_of f p) ++ k ∷ [])) ∙ s.held.room);
      goes_on = next_after set after (next e t) (next e (t ++ Pick p k ∷ [])) (next (at arena rows p elements k) []) p s.held.goes_on o.came (comes_as c e t (Pick p k) p (NonSeq p es) (next (at arena rows p elements k) []) fo found comes);
    })

-- its element has nothing to do, and another is left
pub pick_stays : (arena : List BareNode) (rows : List Row) (f : List Cell) (set : List ℕ) (t : List Entry) (p k : ℕ) (x : Entry) (elements : List ℕ) → IsTable arena rows → AreDistinct (nodes (placed arena)) → IsNode arena p kind.NonSeq elements → p < length f → k ≡ index_in x → IsStep arena f set t p x
    → next (at arena rows p elements k) [] ≡ [] → Stands (cells_of (slice_set f p (Picked (picked (cells_of f p) ++ k ∷ [])))) (at arena rows p elements k) [] → (length (picked (cells_of f p)) + 1 ≡ length elements → ⊥) → IsHeld arena (slice_set f p (Picked (picked (cells_of f p) ++ k ∷ []))) set (t ++ entry_at p x ∷ [])
pick_stays arena rows f set t p k x elements table d n l is s void stands more =
    let e = placed arena in
    let c = cells_of f in
    let new = slice_set f p (Picked (picked (cells_of f p) ++ k ∷ [])) in
    let c' = cells_of new in
    let es = those arena rows p elements in
    let entry = picks_left arena f set t p x elements n s in
    let pick : entry_at p x ≡ Pick p k = entry.0 ∙ ap (λ (j : ℕ). Pick p j) (sym is) in
    let lt : k < length elements = subst (λ (j : ℕ). j < length elements) (sym is) entry.1 in
    let fo = pick_follows arena f set t p k x d s pick in
    let found : tree.executable_at e p ≡ NonSeq p es = found_is arena rows f set t p x kind.NonSeq elements table d s n in
    let once = distinct_as c e t (Pick p k) p (NonSeq p es) fo found in
    let size : count es ≡ length elements = count_is arena (levels_at rows p - 1) elements in
    let short : length (picked (c p)) + 1 ≡ count es → ⊥ = λ z. more (z ∙ size) in
    let none : next_at es k [] ≡ [] = next_there arena rows p elements k lt ∙ void in
    let writes = pick_writes c c' p es k (onward e Done p) (apart_all es once.1) (own_cell f p (Picked (picked (cells_of f p) ++ k ∷ [])) l) (stands_there c' arena rows p elements k lt stands) (λ z y. absurd (short y)) (λ q h j. set_kept f p (Picked (picked (cells_of f p) ++ k ∷ [])) (nodes_all es) q h) in
    let comes : first_of_two (next_at es k []) (if length (picked (c p)) + 1 == count es then brings c (onward e Done p) else p ∷ []) ≡ p ∷ [] = rw none (chosen_no (length (picked (c p)) + 1 == count es) _ _ (differ (length (picked (c p)) + 1) (count es) short)) in
    let u = pick_unpicked arena f p (Picked (picked (cells_of f p) ++ k ∷ [])) k elements l n lt s.held.unpicked in
    held_as arena new set t (entry_at p x) (Pick p k) pick
    (record {
      part = fo.part;
      stands = stands_as c c' e t (Pick p k) p (NonSeq p es) fo (all_unpicked arena new u) found writes;
      unpicked = u;
      room = length_set f p (Picked (picked (cells_of f p) ++ k ∷ [])) ∙ s.held.room;
      goes_on = next_same set (next e t) (next e (t ++ Pick p k ∷ [])) p s.held.goes_on s.is_next (comes_as c e t (Pick p k) p (NonSeq p es) (p ∷ []) fo found (pick_comes c p es k (brings c (onward e Done p)) ∙ comes));
    })
  where
    differ : (a b : ℕ) → (a ≡ b → ⊥) → (a == b) ≡ false
    differ a b h = grind (arith, nat_tests)

-- its last element has nothing to do
pub pick_is_last : (arena : List BareNode) (rows : List Row) (f new : List Cell) (set after : List ℕ) (t : List Entry) (p k : ℕ) (x : Entry) (elements : List ℕ) → IsTable arena rows → AreDistinct (nodes (placed arena)) → IsNode arena p kind.NonSeq elements → p < length f → k ≡ index_in x → IsStep arena f set t p x
    → next (at arena rows p elements k) [] ≡ [] → Stands (cells_of (slice_set f p (Picked (picked (cells_of f p) ++ k ∷ [])))) (at arena rows p elements k) [] → length (picked (cells_of f p)) + 1 ≡ length elements → HasClosed arena (slice_set f p (Picked (picked (cells_of f p) ++ k ∷ []))) new set after p → IsHeld arena new after (t ++ entry_at p x ∷ [])
pick_is_last arena rows f new set after t p k x elements table d n l is s void stands last h =
    let e = placed arena in
    let c = cells_of f in
    let mid = slice_set f p (Picked (picked (cells_of f p) ++ k ∷ [])) in
    let es = those arena rows p elements in
    let entry = picks_left arena f set t p x elements n s in
    let pick : entry_at p x ≡ Pick p k = entry.0 ∙ ap (λ (j : ℕ). Pick p j) (sym is) in
    let lt : k < length elements = subst (λ (j : ℕ). j < length elements) (sym is) entry.1 in
    let fo = pick_follows arena f set t p k x d s pick in
    let found : tree.executable_at e p ≡ NonSeq p es = found_is arena rows f set t p x kind.NonSeq elements table d s n in
    let size : count es ≡ length elements = count_is arena (levels_at rows p - 1) elements in
    let whole : length (picked (c p)) + 1 ≡ count es = last ∙ sym size in
    let none : next_at es k [] ≡ [] = next_there arena rows p elements k lt ∙ void in
    let kept = set_kept f p (Picked (picked (cells_of f p) ++ k ∷ [])) (nodes_all es) in
    held_as arena new after t (entry_at p x) (Pick p k) pick
    (record {
      part = fo.part;
      stands = pick_then_on c (cells_of mid) (cells_of new) e t p es k fo (all_unpicked arena new h.unpicked) found none whole (own_cell f p (Picked (picked (cells_of f p) ++ k ∷ [])) l) (stands_there (cells_of mid) arena rows p elements k lt stands) kept h.gone;
      unpicked = h.unpicked;
      room = h.long ∙ (length_set f p (Picked (picked (cells_of f p) ++ k ∷ [])) ∙ s.held.room);
      goes_on = next_after set after (next e t) (next e (t ++ Pick p k ∷ [])) (brings (cells_of mid) (onward e Done p)) p s.held.goes_on h.came (comes_then_on c (cells_of mid) e t (Pick p k) p (NonSeq p es) fo found kept (pick_is_over c p es k (brings c (onward e Done p)) none whole));
    })

-- ---- selectives

choice_picks_not : kind.Sel ≡ kind.NonSeq → ⊥
choice_picks_not e = cc

pub choice_unpicked : (arena : List BareNode) (f : List Cell) (p : ℕ) (frame : Cell) (elements : List ℕ) → p < length f → IsNode arena p kind.Sel elements → AreUnpickedIn arena f → AreUnpickedIn arena (slice_set f p frame)
choice_unpicked arena f p frame elements l n u = other_unpicked arena f p frame kind.Sel elements l n choice_picks_not u

pub chooses_one : (arena : List BareNode) (f : List Cell) (set : List ℕ) (t : List Entry) (p : ℕ) (x : Entry) (elements : List ℕ) → IsNode arena p kind.Sel elements → IsStep arena f set t p x → (entry_at p x ≡ Pick p (index_in x)) × (index_in x < length elements) × (has [] (index_in x) ≡ false)
chooses_one arena f set t p x elements n s = pick_is p (length elements) [] x (offer_is arena f set t p x kind.Sel elements s n)

pub chosen_none : (arena : List BareNode) (rows : List Row) (f : List Cell) (set : List ℕ) (t : List Entry) (p : ℕ) (x : Entry) (elements : List ℕ) → IsTable arena rows → AreDistinct (nodes (placed arena)) → IsNode arena p kind.Sel elements → IsStep arena f set t p x → picked (cells_of f p) ≡ []
chosen_none arena rows f set t p x elements table d n s =
    unchosen_as (cells_of f) (placed arena) t (entry_at p x) p (those arena rows p elements) (follows arena f set t p x d s) (found_is arena rows f set t p x kind.Sel elements table d s n)

pub choice_opens : (arena : List BareNode) (rows : List Row) (f new : List Cell) (set after : List ℕ) (t : List Entry) (p k : ℕ) (x : Entry) (elements : List ℕ) → IsTable arena rows → AreDistinct (nodes (placed arena)) → IsNode arena p kind.Sel elements → p < length f → k ≡ index_in x → IsStep arena f set t p x
    → HasOpened arena (slice_set f p (Picked (picked (cells_of f p) ++ k ∷ []))) new set after p (at arena rows p elements k) → IsHeld arena new after (t ++ entry_at p x ∷ [])
choice_opens arena rows f new set after t p k x elements table d n l is s o =
    let e = placed arena in
    let c = cells_of f in
    let c' = cells_of new in
    let es = those arena rows p elements in
    let entry = chooses_one arena f set t p x elements n s in
    let pick : entry_at p x ≡ Pick p k = entry.0 ∙ ap (λ (j : ℕ). Pick p j) (sym is) in
    let lt : k < length elements = subst (λ (j : ℕ). j < length elements) (sym is) entry.1 in
    let fo = pick_follows arena f set t p k x d s pick in
    let found : tree.executable_at e p ≡ Sel p es = found_is arena rows f set t p x kind.Sel elements table d s n in
    let once = distinct_as c e t (Pick p k) p (Sel p es) fo found in
    let none = unchosen_as c e t (Pick p k) p es fo found in
    let some : next_at es k [] ≡ [] → ⊥ = λ z. o.some (sym (next_there arena rows p elements k lt) ∙ z) in
    let kept = opened_kept f new arena rows p elements k (Picked (picked (cells_of f p) ++ k ∷ [])) lt o.kept in
    let writes = sel_writes c c' p es k (onward e Done p) (apart_all es once.1) none (opened_cell f new arena rows p elements k (Picked (picked (cells_of f p) ++ k ∷ [])) l lt once.0 o.kept ∙ ap (λ (ks : List ℕ). Picked (ks ++ k ∷ [])) none) (stands_there c' arena rows p elements k lt o.stands) (λ z. absurd (some z)) (λ q h j. kept q h) in
    let comes = sel_comes c p es k (brings c (onward e Done p)) ∙ (first_is (next_at es k []) _ some ∙ next_there arena rows p elements k lt) in
    held_as arena new after t (entry_at p x) (Pick p k) pick
    (record {
      part = fo.part;
      stands = stands_as c c' e t (Pick p k) p (Sel p es) fo (all_unpicked arena new o.unpicked) found writes;
      unpicked = o.unpicked;
      room = o.long ∙ (length_set f p (Picked (picked (cells_of f p) ++ k ∷ [])) ∙ s.held.room);
      goes_on = next_after set after (next e t) (next e (t ++ Pick p k ∷ [])) (next (at arena rows p elements k) []) p s.held.goes_on o.came (comes_as c e t (Pick p k) p (Sel p es) (next (at arena rows p elements k) []) fo found comes);
    })

pub choice_is_void : (arena : List BareNode) (rows : List Row) (f new : List Cell) (set after : List ℕ) (t : List Entry) (p k : ℕ) (x : Entry) (elements : List ℕ) → IsTable arena rows → AreDistinct (nodes (placed arena)) → IsNode arena p kind.Sel elements → p < length f → k ≡ index_in x → IsStep arena f set t p x
    → next (at arena rows p elements k) [] ≡ [] → Stands (cells_of (slice_set f p (Picked (picked (cells_of f p) ++ k ∷ [])))) (at arena rows p elements k) [] → HasClosed arena (slice_set f p (Picked (picked (cells_of f p) ++ k ∷ []))) new set after p → IsHeld arena new after (t ++ entry_at p x ∷ [])
choice_is_void arena rows f new set after t p k x elements table d n l is s void stands h =
    let e = placed arena in
    let c = cells_of f in
    let mid = slice_set f p (Picked (picked (cells_of f p) ++ k ∷ [])) in
    let es = those arena rows p elements in
    let entry = chooses_one arena f set t p x elements n s in
    let pick : entry_at p x ≡ Pick p k = entry.0 ∙ ap (λ (j : ℕ). Pick p j) (sym is) in
    let lt : k < length elements = subst (λ (j : ℕ). j < length elements) (sym is) entry.1 in
    let fo = pick_follows arena f set t p k x d s pick in
    let found : tree.executable_at e p ≡ Sel p es = found_is arena rows f set t p x kind.Sel elements table d s n in
    let unchosen = unchosen_as c e t (Pick p k) p es fo found in
    let none : next_at es k [] ≡ [] = next_there arena rows p elements k lt ∙ void in
    let kept = set_kept f p (Picked (picked (cells_of f p) ++ k ∷ [])) (nodes_all es) in
    held_as arena new after t (entry_at p x) (Pick p k) pick
    (record {
      part = fo.part;
      stands = choice_then_on c (cells_of mid) (cells_of new) e t p es k fo (all_unpicked arena new h.unpicked) found none (own_cell f p (Picked (picked (cells_of f p) ++ k ∷ [])) l ∙ ap (λ (ks : List ℕ). Picked (ks ++ k ∷ [])) unchosen) (stands_there (cells_of mid) arena rows p elements k lt stands) kept h.gone;
      unpicked = h.unpicked;
      room = h.long ∙ (length_set f p (Picked (picked (cells_of f p) ++ k ∷ [])) ∙ s.held.room);
      goes_on = next_after set after (next e t) (next e (t ++ Pick p k ∷ [])) (brings (cells_of mid) (onward e Done p)) p s.held.goes_on h.came (comes_then_on c (cells_of mid) e t (Pick p k) p (Sel p es) fo found kept (choice_is_over c p es k (brings c (onward e Done p)) none));
    })
