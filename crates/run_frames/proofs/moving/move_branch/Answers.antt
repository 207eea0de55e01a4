use Rattle.std.proofs.Common.{◌≤◌, ◌+◌, ◌≡◌, ◌∙◌, ◌-◌, [], ap, sym, subst, get_or, length, List, ℕ, Bool, true}
use Rattle.std.specs.Prelude.{slice_set, if◌then◌else◌, Some}
use Rattle.std.proofs.lemmas.Option.{slice_get_within}
use Rattle.exec_tree.specs.Arena.{HasArity}
use Rattle.exec_tree.specs.declared.kind.Kind.{Kind}
use Rattle.exec_tree.specs.declared.kind.Kind.TheVariants as kind
use Rattle.place_set.specs.Words.{holds}
use Rattle.frame_law.specs.Looks.{element_looks, way_looks}
use Rattle.frame_law.specs.Onward.{Done, onward}
use Rattle.tree_table.specs.Placed.{placed, placed_down}
use Rattle.tree_table.specs.Rows.{levels_at}
use Rattle.tree_table.specs.Table.{IsElement}
use Rattle.trace_law.specs.Frames.{Stands}
use Rattle.run_frames.specs.Frames.{cells_of}
use Rattle.run_frames.specs.Entries.{answer_in}
use Rattle.run_frames.specs.Entered.{AreUnpickedIn}
use Rattle.run_frames.specs.Held.{HasClosed, HasOpened}
use Rattle.run_frames.proofs.WriteLemmas.{length_set}
use Rattle.run_frames.proofs.StepLemmas.{step_within, step_there, is_element, branch_within}
use Rattle.run_frames.proofs.CloseLemmas.{tried_opened, tried_void, void_closed}
use Rattle.run_frames.proofs.TestLemmas.{branch_unpicked, branch_opens, branch_is_void, taken}
use Rattle.run_frames.proofs.LookLemmas.{branch_looked, branch_gone}
use Rattle.run_frames.proofs.moving.move_branch.Goals as goal
use Rattle.trace_law.specs.Cells.{AnsweredBy, Cell}

pub open_instead-requires-clause-element : goal.open_instead-requires-clause-element
open_instead-requires-clause-element g c =
    let arena = c.args.tree.now.nodes in
    let rows = c.args.table.now.rows.items in
    let f = c.args.frames.now.cells in
    let p = c.args.place in
    let x = c.args.entry.now in
    let es = c.args.elements.now in
    let n = c.requires.node in
    let index : c.element_at-element.result ≡ get_or es (if answer_in x then 0 else 1) 0 = c.element_at-element.ensures ∙ ap (λ (i : ℕ). get_or es i 0) (c.branch_index.ensures ∙ ap (λ (b : Bool). if b then 0 else 1) c.answer_in-answer.ensures) in
    let arity : HasArity kind.If es = subst (λ (qs : List ℕ). HasArity kind.If qs) n.elements_are (subst (λ (k : Kind). HasArity k n.node.elements) n.kind_is (c.requires.shaped p n.node n.at)) in
    subst (λ (q : ℕ). IsElement arena p q) (sym index) (is_element arena p kind.If es (if answer_in x then 0 else 1) n (branch_within es arity (answer_in x)))

pub open_instead-requires-clause-unpicked : goal.open_instead-requires-clause-unpicked
open_instead-requires-clause-unpicked g c =
    let arena = c.args.tree.now.nodes in
    let rows = c.args.table.now.rows.items in
    let f = c.args.frames.now.cells in
    let p = c.args.place in
    let x = c.args.entry.now in
    let es = c.args.elements.now in
    let n = c.requires.node in
    let l = step_within arena f c.args.set.now.all c.requires.moves.0 p x kind.If es c.requires.moves.1 n in
    subst (λ (w : List Cell). AreUnpickedIn arena w) (sym c.put.ensures.cells) (branch_unpicked arena f p (AnsweredBy (Some c.answer_in-answer.result)) es l n c.requires.moves.1.held.unpicked)

pub close-requires-clause-within : goal.close-requires-clause-within
close-requires-clause-within g c = slice_get_within c.args.tree.now.nodes c.args.place c.requires.node.node c.requires.node.at

pub close-requires-clause-there : goal.close-requires-clause-there
close-requires-clause-there g c =
    let arena = c.args.tree.now.nodes in
    let rows = c.args.table.now.rows.items in
    let f = c.args.frames.now.cells in
    let p = c.args.place in
    let x = c.args.entry.now in
    let es = c.args.elements.now in
    let n = c.requires.node in
    let index : c.element_at-element.result ≡ get_or es (if answer_in x then 0 else 1) 0 = c.element_at-element.ensures ∙ ap (λ (i : ℕ). get_or es i 0) (c.branch_index.ensures ∙ ap (λ (b : Bool). if b then 0 else 1) c.answer_in-answer.ensures) in
    let v = tried_void arena c.put.new.self.cells (slice_set f p (AnsweredBy (Some c.answer_in-answer.result))) c.open_instead.new.frames.cells c.args.set.now.all c.open_instead.new.set.all p (levels_at rows p - 1) c.element_at-element.result (get_or es (if answer_in x then 0 else 1) 0) c.open_instead.result c.put.ensures.cells index c.if-not-open_instead.true c.open_instead.ensures.moved in
    subst (λ (s : List ℕ). holds s p ≡ true) (sym v.same_set) (step_there arena f c.args.set.now.all c.requires.moves.0 p x c.requires.moves.1)

pub close-requires-clause-room : goal.close-requires-clause-room
close-requires-clause-room g c =
    let arena = c.args.tree.now.nodes in
    let rows = c.args.table.now.rows.items in
    let f = c.args.frames.now.cells in
    let p = c.args.place in
    let x = c.args.entry.now in
    let es = c.args.elements.now in
    let n = c.requires.node in
    let index : c.element_at-element.result ≡ get_or es (if answer_in x then 0 else 1) 0 = c.element_at-element.ensures ∙ ap (λ (i : ℕ). get_or es i 0) (c.branch_index.ensures ∙ ap (λ (b : Bool). if b then 0 else 1) c.answer_in-answer.ensures) in
    let v = tried_void arena c.put.new.self.cells (slice_set f p (AnsweredBy (Some c.answer_in-answer.result))) c.open_instead.new.frames.cells c.args.set.now.all c.open_instead.new.set.all p (levels_at rows p - 1) c.element_at-element.result (get_or es (if answer_in x then 0 else 1) 0) c.open_instead.result c.put.ensures.cells index c.if-not-open_instead.true c.open_instead.ensures.moved in
    ap (λ (w : List Cell). length w) v.same ∙ (length_set f p (AnsweredBy (Some c.answer_in-answer.result)) ∙ c.requires.moves.1.held.room)

pub close-requires-clause-unpicked : goal.close-requires-clause-unpicked
close-requires-clause-unpicked g c =
    let arena = c.args.tree.now.nodes in
    let rows = c.args.table.now.rows.items in
    let f = c.args.frames.now.cells in
    let p = c.args.place in
    let x = c.args.entry.now in
    let es = c.args.elements.now in
    let n = c.requires.node in
    let index : c.element_at-element.result ≡ get_or es (if answer_in x then 0 else 1) 0 = c.element_at-element.ensures ∙ ap (λ (i : ℕ). get_or es i 0) (c.branch_index.ensures ∙ ap (λ (b : Bool). if b then 0 else 1) c.answer_in-answer.ensures) in
    let l = step_within arena f c.args.set.now.all c.requires.moves.0 p x kind.If es c.requires.moves.1 n in
    let v = tried_void arena c.put.new.self.cells (slice_set f p (AnsweredBy (Some c.answer_in-answer.result))) c.open_instead.new.frames.cells c.args.set.now.all c.open_instead.new.set.all p (levels_at rows p - 1) c.element_at-element.result (get_or es (if answer_in x then 0 else 1) 0) c.open_instead.result c.put.ensures.cells index c.if-not-open_instead.true c.open_instead.ensures.moved in
    subst (λ (w : List Cell). AreUnpickedIn arena w) (sym v.same) (branch_unpicked arena f p (AnsweredBy (Some c.answer_in-answer.result)) es l n c.requires.moves.1.held.unpicked)

pub returns-then-not-open_instead-clause-moved : goal.returns-then-not-open_instead-clause-moved
returns-then-not-open_instead-clause-moved g c = λ t s.
    let arena = c.args.tree.now.nodes in
    let rows = c.args.table.now.rows.items in
    let f = c.args.frames.now.cells in
    let p = c.args.place in
    let x = c.args.entry.now in
    let es = c.args.elements.now in
    let n = c.requires.node in
    let index : c.element_at-element.result ≡ get_or es (if answer_in x then 0 else 1) 0 = c.element_at-element.ensures ∙ ap (λ (i : ℕ). get_or es i 0) (c.branch_index.ensures ∙ ap (λ (b : Bool). if b then 0 else 1) c.answer_in-answer.ensures) in
    let arity : HasArity kind.If es = subst (λ (qs : List ℕ). HasArity kind.If qs) n.elements_are (subst (λ (k : Kind). HasArity k n.node.elements) n.kind_is (c.requires.shaped p n.node n.at)) in
    let l = step_within arena f c.args.set.now.all t p x kind.If es s n in
    let e = taken arena rows p es (answer_in x) in
    let v = tried_void arena c.put.new.self.cells (slice_set f p (AnsweredBy (Some c.answer_in-answer.result))) c.open_instead.new.frames.cells c.args.set.now.all c.open_instead.new.set.all p (levels_at rows p - 1) c.element_at-element.result (get_or es (if answer_in x then 0 else 1) 0) c.open_instead.result c.put.ensures.cells index c.if-not-open_instead.true c.open_instead.ensures.moved in
    let closed = void_closed arena (slice_set f p (AnsweredBy (Some c.answer_in-answer.result))) c.open_instead.new.frames.cells c.close.new.frames.cells c.args.set.now.all c.open_instead.new.set.all c.close.new.set.all p e v c.close.ensures.moved in
    branch_is_void arena rows f c.close.new.frames.cells c.args.set.now.all c.close.new.set.all t p x es c.requires.table c.requires.distinct n arity l s v.none
    (subst (λ (b : Bool). Stands (cells_of (slice_set f p (AnsweredBy (Some b)))) e []) c.answer_in-answer.ensures v.stands)
    (subst (λ (b : Bool). HasClosed arena (slice_set f p (AnsweredBy (Some b))) c.close.new.frames.cells c.args.set.now.all c.close.new.set.all p) c.answer_in-answer.ensures closed)

pub returns-else-not-open_instead-clause-moved : goal.returns-else-not-open_instead-clause-moved
returns-else-not-open_instead-clause-moved g c = λ t s.
    let arena = c.args.tree.now.nodes in
    let rows = c.args.table.now.rows.items in
    let f = c.args.frames.now.cells in
    let p = c.args.place in
    let x = c.args.entry.now in
    let es = c.args.elements.now in
    let n = c.requires.node in
    let index : c.element_at-element.result ≡ get_or es (if answer_in x then 0 else 1) 0 = c.element_at-element.ensures ∙ ap (λ (i : ℕ). get_or es i 0) (c.branch_index.ensures ∙ ap (λ (b : Bool). if b then 0 else 1) c.answer_in-answer.ensures) in
    let arity : HasArity kind.If es = subst (λ (qs : List ℕ). HasArity kind.If qs) n.elements_are (subst (λ (k : Kind). HasArity k n.node.elements) n.kind_is (c.requires.shaped p n.node n.at)) in
    let l = step_within arena f c.args.set.now.all t p x kind.If es s n in
    let o = tried_opened arena c.put.new.self.cells (slice_set f p (AnsweredBy (Some c.answer_in-answer.result))) c.open_instead.new.frames.cells c.args.set.now.all c.open_instead.new.set.all p (levels_at rows p - 1) c.element_at-element.result (get_or es (if answer_in x then 0 else 1) 0) c.open_instead.result c.put.ensures.cells index c.if-not-open_instead.false c.open_instead.ensures.moved in
    branch_opens arena rows f c.open_instead.new.frames.cells c.args.set.now.all c.open_instead.new.set.all t p x es c.requires.table c.requires.distinct n arity l s
    (subst (λ (b : Bool). HasOpened arena (slice_set f p (AnsweredBy (Some b))) c.open_instead.new.frames.cells c.args.set.now.all c.open_instead.new.set.all p (taken arena rows p es (answer_in x))) c.answer_in-answer.ensures o)

pub returns-then-not-open_instead-clause-looks : goal.returns-then-not-open_instead-clause-looks
returns-then-not-open_instead-clause-looks g c = λ t s.
    let arena = c.args.tree.now.nodes in
    let rows = c.args.table.now.rows.items in
    let f = c.args.frames.now.cells in
    let p = c.args.place in
    let x = c.args.entry.now in
    let es = c.args.elements.now in
    let n = c.requires.node in
    let index : c.element_at-element.result ≡ get_or es (if answer_in x then 0 else 1) 0 = c.element_at-element.ensures ∙ ap (λ (i : ℕ). get_or es i 0) (c.branch_index.ensures ∙ ap (λ (b : Bool). if b then 0 else 1) c.answer_in-answer.ensures) in
    let arity : HasArity kind.If es = subst (λ (qs : List ℕ). HasArity kind.If qs) n.elements_are (subst (λ (k : Kind). HasArity k n.node.elements) n.kind_is (c.requires.shaped p n.node n.at)) in
    let levels = levels_at rows p - 1 in
    let tried = subst (λ (q : ℕ). c.open_instead.new.steps ≤ c.args.steps.now + element_looks (placed_down arena levels q) 0) index c.open_instead.ensures.looks in
    let frame : Cell = AnsweredBy (Some c.answer_in-answer.result) in
    let v = tried_void arena c.put.new.self.cells (slice_set f p frame) c.open_instead.new.frames.cells c.args.set.now.all c.open_instead.new.set.all p (levels_at rows p - 1) c.element_at-element.result (get_or es (if answer_in x then 0 else 1) 0) c.open_instead.result c.put.ensures.cells index c.if-not-open_instead.true c.open_instead.ensures.moved in
    branch_gone arena rows f c.args.set.now.all t p x es frame _ _ _ c.requires.table c.requires.distinct n arity s v.none tried
    (subst (λ (w : List Cell). c.close.new.steps ≤ c.open_instead.new.steps + way_looks (cells_of w) (onward (placed arena) Done p)) v.same c.close.ensures.looks)

pub returns-else-not-open_instead-clause-looks : goal.returns-else-not-open_instead-clause-looks
returns-else-not-open_instead-clause-looks g c = λ t s.
    let arena = c.args.tree.now.nodes in
    let rows = c.args.table.now.rows.items in
    let f = c.args.frames.now.cells in
    let p = c.args.place in
    let x = c.args.entry.now in
    let es = c.args.elements.now in
    let n = c.requires.node in
    let index : c.element_at-element.result ≡ get_or es (if answer_in x then 0 else 1) 0 = c.element_at-element.ensures ∙ ap (λ (i : ℕ). get_or es i 0) (c.branch_index.ensures ∙ ap (λ (b : Bool). if b then 0 else 1) c.answer_in-answer.ensures) in
    let arity : HasArity kind.If es = subst (λ (qs : List ℕ). HasArity kind.If qs) n.elements_are (subst (λ (k : Kind). HasArity k n.node.elements) n.kind_is (c.requires.shaped p n.node n.at)) in
    let levels = levels_at rows p - 1 in
    let tried = subst (λ (q : ℕ). c.open_instead.new.steps ≤ c.args.steps.now + element_looks (placed_down arena levels q) 0) index c.open_instead.ensures.looks in
    branch_looked arena rows f c.args.set.now.all t p x es _ _ c.requires.table c.requires.distinct n arity s tried
