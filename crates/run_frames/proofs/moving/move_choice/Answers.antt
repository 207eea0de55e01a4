use Rattle.std.proofs.Common.{◌≡◌, ◌∙◌, ◌<◌, ◌≤◌, ◌-◌, ◌+◌, ◌++◌, ◌∷◌, [], ap, sym, subst, get_or, length, List, ℕ, true}
use Rattle.std.specs.Prelude.{slice_set, slice_index}
use Rattle.std.proofs.lemmas.Option.{slice_get_within}
use Rattle.exec_tree.specs.Exec.{has}
use Rattle.exec_tree.specs.declared.kind.Kind.TheVariants as kind
use Rattle.place_set.specs.Words.{holds}
use Rattle.trace_law.specs.Cells.{Cell, Picked, picked}
use Rattle.frame_law.specs.Looks.{element_looks, way_looks}
use Rattle.frame_law.specs.Onward.{Done, onward}
use Rattle.tree_table.specs.Placed.{placed, placed_down}
use Rattle.tree_table.specs.Rows.{levels_at}
use Rattle.tree_table.specs.Table.{IsElement}
use Rattle.run_frames.specs.Frames.{cells_of}
use Rattle.run_frames.specs.Entries.{index_in}
use Rattle.run_frames.specs.Entered.{AreUnpickedIn}
use Rattle.run_frames.proofs.WriteLemmas.{length_set}
use Rattle.run_frames.proofs.RoomLemmas.{room_there}
use Rattle.run_frames.proofs.StepLemmas.{step_within, step_there, is_element}
use Rattle.run_frames.proofs.CloseLemmas.{tried_opened, tried_void, void_closed}
use Rattle.run_frames.proofs.PickLemmas.{choice_unpicked, chooses_one, chosen_none, choice_opens, choice_is_void}
use Rattle.run_frames.proofs.LookLemmas.{choice_looked, choice_gone}
use Rattle.run_frames.proofs.moving.move_choice.Goals as goal

pub pick-requires-clause-there : goal.pick-requires-clause-there
pick-requires-clause-there g c =
    let arena = c.args.tree.now.nodes in
    let rows = c.args.table.now.rows.items in
    let f = c.args.frames.now.cells in
    let p = c.args.place in
    let x = c.args.entry.now in
    let es = c.args.elements.now in
    let n = c.requires.node in
    let k = c.index_in-k.result in
    let is : k ≡ index_in x = c.index_in-k.ensures in
    let more : Cell = Picked (picked (cells_of f p) ++ k ∷ []) in
    let l = step_within arena f c.args.set.now.all c.requires.moves.0 p x kind.Sel es c.requires.moves.1 n in
    l

pub pick-requires-clause-within : goal.pick-requires-clause-within
pick-requires-clause-within g c =
    let arena = c.args.tree.now.nodes in
    let rows = c.args.table.now.rows.items in
    let f = c.args.frames.now.cells in
    let p = c.args.place in
    let x = c.args.entry.now in
    let es = c.args.elements.now in
    let n = c.requires.node in
    let k = c.index_in-k.result in
    let is : k ≡ index_in x = c.index_in-k.ensures in
    let more : Cell = Picked (picked (cells_of f p) ++ k ∷ []) in
    let entry = chooses_one arena f c.args.set.now.all c.requires.moves.0 p x es n c.requires.moves.1 in
    let lt : k < length es = subst (λ (j : ℕ). j < length es) (sym is) entry.1 in
    subst (λ (j : ℕ). k < j) (sym (ap (λ (rooms : List ℕ). slice_index rooms p) c.requires.rooms ∙ room_there arena p kind.Sel es n)) lt

pub open_instead-requires-clause-within : goal.open_instead-requires-clause-within
open_instead-requires-clause-within g c =
    slice_get_within c.args.tree.now.nodes c.args.place c.requires.node.node c.requires.node.at

pub open_instead-requires-clause-element : goal.open_instead-requires-clause-element
open_instead-requires-clause-element g c =
    let arena = c.args.tree.now.nodes in
    let rows = c.args.table.now.rows.items in
    let f = c.args.frames.now.cells in
    let p = c.args.place in
    let x = c.args.entry.now in
    let es = c.args.elements.now in
    let n = c.requires.node in
    let k = c.index_in-k.result in
    let is : k ≡ index_in x = c.index_in-k.ensures in
    let more : Cell = Picked (picked (cells_of f p) ++ k ∷ []) in
    let entry = chooses_one arena f c.args.set.now.all c.requires.moves.0 p x es n c.requires.moves.1 in
    let lt : k < length es = subst (λ (j : ℕ). j < length es) (sym is) entry.1 in
    subst (λ (q : ℕ). IsElement arena p q) (sym c.element_at-element.ensures) (is_element arena p kind.Sel es k n lt)

pub open_instead-requires-clause-unpicked : goal.open_instead-requires-clause-unpicked
open_instead-requires-clause-unpicked g c =
    let arena = c.args.tree.now.nodes in
    let rows = c.args.table.now.rows.items in
    let f = c.args.frames.now.cells in
    let p = c.args.place in
    let x = c.args.entry.now in
    let es = c.args.elements.now in
    let n = c.requires.node in
    let k = c.index_in-k.result in
    let is : k ≡ index_in x = c.index_in-k.ensures in
    let more : Cell = Picked (picked (cells_of f p) ++ k ∷ []) in
    let entry = chooses_one arena f c.args.set.now.all c.requires.moves.0 p x es n c.requires.moves.1 in
    let lt : k < length es = subst (λ (j : ℕ). j < length es) (sym is) entry.1 in
    let l = step_within arena f c.args.set.now.all c.requires.moves.0 p x kind.Sel es c.requires.moves.1 n in
    subst (λ (w : List Cell). AreUnpickedIn arena w) (sym c.pick.ensures.cells) (choice_unpicked arena f p more es l n c.requires.moves.1.held.unpicked)

pub pick-requires-clause-left : goal.pick-requires-clause-left
pick-requires-clause-left g c =
    let arena = c.args.tree.now.nodes in
    let rows = c.args.table.now.rows.items in
    let f = c.args.frames.now.cells in
    let p = c.args.place in
    let x = c.args.entry.now in
    let es = c.args.elements.now in
    let n = c.requires.node in
    let k = c.index_in-k.result in
    let is : k ≡ index_in x = c.index_in-k.ensures in
    let more : Cell = Picked (picked (cells_of f p) ++ k ∷ []) in
    ap (λ (ks : List ℕ). has ks k) (chosen_none arena rows f c.args.set.now.all c.requires.moves.0 p x es c.requires.table c.requires.distinct n c.requires.moves.1)

pub close-requires-clause-within : goal.close-requires-clause-within
close-requires-clause-within g c =
    slice_get_within c.args.tree.now.nodes c.args.place c.requires.node.node c.requires.node.at

pub close-requires-clause-there : goal.close-requires-clause-there
close-requires-clause-there g c =
    let arena = c.args.tree.now.nodes in
    let rows = c.args.table.now.rows.items in
    let f = c.args.frames.now.cells in
    let p = c.args.place in
    let x = c.args.entry.now in
    let es = c.args.elements.now in
    let n = c.requires.node in
    let k = c.index_in-k.result in
    let is : k ≡ index_in x = c.index_in-k.ensures in
    let more : Cell = Picked (picked (cells_of f p) ++ k ∷ []) in
    let v = tried_void arena c.pick.new.self.cells (slice_set f p more) c.open_instead.new.frames.cells c.args.set.now.all c.open_instead.new.set.all p (levels_at rows p - 1) c.element_at-element.result (get_or es k 0) c.open_instead.result c.pick.ensures.cells c.element_at-element.ensures c.if-not-open_instead.true c.open_instead.ensures.moved in
    subst (λ (s : List ℕ). holds s p ≡ true) (sym v.same_set) (step_there arena f c.args.set.now.all c.requires.moves.0 p x c.requires.moves.1)

pub close-requires-clause-room : goal.close-requires-clause-room
close-requires-clause-room g c =
    let arena = c.args.tree.now.nodes in
    let rows = c.args.table.now.rows.items in
    let f = c.args.frames.now.cells in
    let p = c.args.place in
    let x = c.args.entry.now in
    let es = c.args.elements.now in
    let n = c.requires.node in
    let k = c.index_in-k.result in
    let is : k ≡ index_in x = c.index_in-k.ensures in
    let more : Cell = Picked (picked (cells_of f p) ++ k ∷ []) in
    let v = tried_void arena c.pick.new.self.cells (slice_set f p more) c.open_instead.new.frames.cells c.args.set.now.all c.open_instead.new.set.all p (levels_at rows p - 1) c.element_at-element.result (get_or es k 0) c.open_instead.result c.pick.ensures.cells c.element_at-element.ensures c.if-not-open_instead.true c.open_instead.ensures.moved in
    ap (λ (w : List Cell). length w) v.same ∙ (length_set f p more ∙ c.requires.moves.1.held.room)

pub close-requires-clause-unpicked : goal.close-requires-clause-unpicked
close-requires-clause-unpicked g c =
    let arena = c.args.tree.now.nodes in
    let rows = c.args.table.now.rows.items in
    let f = c.args.frames.now.cells in
    let p = c.args.place in
    let x = c.args.entry.now in
    let es = c.args.elements.now in
    let n = c.requires.node in
    let k = c.index_in-k.result in
    let is : k ≡ index_in x = c.index_in-k.ensures in
    let more : Cell = Picked (picked (cells_of f p) ++ k ∷ []) in
    let l = step_within arena f c.args.set.now.all c.requires.moves.0 p x kind.Sel es c.requires.moves.1 n in
    let v = tried_void arena c.pick.new.self.cells (slice_set f p more) c.open_instead.new.frames.cells c.args.set.now.all c.open_instead.new.set.all p (levels_at rows p - 1) c.element_at-element.result (get_or es k 0) c.open_instead.result c.pick.ensures.cells c.element_at-element.ensures c.if-not-open_instead.true c.open_instead.ensures.moved in
    subst (λ (w : List Cell). AreUnpickedIn arena w) (sym v.same) (choice_unpicked arena f p more es l n c.requires.moves.1.held.unpicked)

pub returns-then-not-open_instead-clause-moved : goal.returns-then-not-open_instead-clause-moved
returns-then-not-open_instead-clause-moved g c = λ t s.
    let arena = c.args.tree.now.nodes in
    let rows = c.args.table.now.rows.items in
    let f = c.args.frames.now.cells in
    let p = c.args.place in
    let x = c.args.entry.now in
    let es = c.args.elements.now in
    let n = c.requires.node in
    let k = c.index_in-k.result in
    let is : k ≡ index_in x = c.index_in-k.ensures in
    let more : Cell = Picked (picked (cells_of f p) ++ k ∷ []) in
    let l = step_within arena f c.args.set.now.all t p x kind.Sel es s n in
    let v = tried_void arena c.pick.new.self.cells (slice_set f p more) c.open_instead.new.frames.cells c.args.set.now.all c.open_instead.new.set.all p (levels_at rows p - 1) c.element_at-element.result (get_or es k 0) c.open_instead.result c.pick.ensures.cells c.element_at-element.ensures c.if-not-open_instead.true c.open_instead.ensures.moved in
    choice_is_void arena rows f c.close.new.frames.cells c.args.set.now.all c.close.new.set.all t p k x es c.requires.table c.requires.distinct n l is s v.none v.stands
    (void_closed arena (slice_set f p more) c.open_instead.new.frames.cells c.close.new.frames.cells c.args.set.now.all c.open_instead.new.set.all c.close.new.set.all p (placed_down arena (levels_at rows p - 1) (get_or es k 0)) v c.close.ensures.moved)

pub returns-else-not-open_instead-clause-moved : goal.returns-else-not-open_instead-clause-moved
returns-else-not-open_instead-clause-moved g c = λ t s.
    let arena = c.args.tree.now.nodes in
    let rows = c.args.table.now.rows.items in
    let f = c.args.frames.now.cells in
    let p = c.args.place in
    let x = c.args.entry.now in
    let es = c.args.elements.now in
    let n = c.requires.node in
    let k = c.index_in-k.result in
    let is : k ≡ index_in x = c.index_in-k.ensures in
    let more : Cell = Picked (picked (cells_of f p) ++ k ∷ []) in
    let l = step_within arena f c.args.set.now.all t p x kind.Sel es s n in
    choice_opens arena rows f c.open_instead.new.frames.cells c.args.set.now.all c.open_instead.new.set.all t p k x es c.requires.table c.requires.distinct n l is s
    (tried_opened arena c.pick.new.self.cells (slice_set f p more) c.open_instead.new.frames.cells c.args.set.now.all c.open_instead.new.set.all p (levels_at rows p - 1) c.element_at-element.result (get_or es k 0) c.open_instead.result c.pick.ensures.cells c.element_at-element.ensures c.if-not-open_instead.false c.open_instead.ensures.moved)

pub returns-then-not-open_instead-clause-looks : goal.returns-then-not-open_instead-clause-looks
returns-then-not-open_instead-clause-looks g c = λ t s.
    let arena = c.args.tree.now.nodes in
    let rows = c.args.table.now.rows.items in
    let f = c.args.frames.now.cells in
    let p = c.args.place in
    let x = c.args.entry.now in
    let es = c.args.elements.now in
    let n = c.requires.node in
    let k = c.index_in-k.result in
    let is : k ≡ index_in x = c.index_in-k.ensures in
    let more : Cell = Picked (picked (cells_of f p) ++ k ∷ []) in
    let levels = levels_at rows p - 1 in
    let tried = subst (λ (q : ℕ). c.open_instead.new.steps ≤ c.args.steps.now + element_looks (placed_down arena levels q) 0) c.element_at-element.ensures c.open_instead.ensures.looks in
    let v = tried_void arena c.pick.new.self.cells (slice_set f p more) c.open_instead.new.frames.cells c.args.set.now.all c.open_instead.new.set.all p (levels_at rows p - 1) c.element_at-element.result (get_or es k 0) c.open_instead.result c.pick.ensures.cells c.element_at-element.ensures c.if-not-open_instead.true c.open_instead.ensures.moved in
    choice_gone arena rows f c.args.set.now.all t p k x es more _ _ _ c.requires.table c.requires.distinct n is s v.none tried
    (subst (λ (w : List Cell). c.close.new.steps ≤ c.open_instead.new.steps + way_looks (cells_of w) (onward (placed arena) Done p)) v.same c.close.ensures.looks)

pub returns-else-not-open_instead-clause-looks : goal.returns-else-not-open_instead-clause-looks
returns-else-not-open_instead-clause-looks g c = λ t s.
    let arena = c.args.tree.now.nodes in
    let rows = c.args.table.now.rows.items in
    let f = c.args.frames.now.cells in
    let p = c.args.place in
    let x = c.args.entry.now in
    let es = c.args.elements.now in
    let n = c.requires.node in
    let k = c.index_in-k.result in
    let is : k ≡ index_in x = c.index_in-k.ensures in
    let more : Cell = Picked (picked (cells_of f p) ++ k ∷ []) in
    let levels = levels_at rows p - 1 in
    let tried = subst (λ (q : ℕ). c.open_instead.new.steps ≤ c.args.steps.now + element_looks (placed_down arena levels q) 0) c.element_at-element.ensures c.open_instead.ensures.looks in
    choice_looked arena rows f c.args.set.now.all t p k x es _ _ c.requires.table c.requires.distinct n is s tried
