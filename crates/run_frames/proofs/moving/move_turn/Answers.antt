use Rattle.trace_law.specs.Cells.{Cell, AnsweredBy}
use Rattle.std.proofs.Common.{◌≤◌, ◌+◌, ◌≡◌, ◌∙◌, ◌-◌, sym, subst, get_or, List, ℕ, Bool, true, false}
use Rattle.std.specs.Prelude.{slice_set, Some}
use Rattle.std.proofs.lemmas.Option.{slice_get_within}
use Rattle.exec_tree.specs.Arena.{HasArity}
use Rattle.exec_tree.specs.declared.kind.Kind.{Kind}
use Rattle.exec_tree.specs.declared.kind.Kind.TheVariants as kind
use Rattle.frame_law.specs.Looks.{element_looks, way_looks}
use Rattle.frame_law.specs.Onward.{Done, onward}
use Rattle.tree_table.specs.Placed.{placed, placed_down}
use Rattle.tree_table.specs.Rows.{levels_at}
use Rattle.tree_table.specs.Table.{IsElement}
use Rattle.run_frames.specs.Entries.{answer_in}
use Rattle.run_frames.specs.Frames.{cells_of}
use Rattle.run_frames.specs.Entered.{AreUnpickedIn}
use Rattle.run_frames.specs.Held.{HasClosed, HasTried}
use Rattle.run_frames.proofs.CloseLemmas.{closed_from}
use Rattle.run_frames.proofs.StepLemmas.{step_within, is_element, body_within}
use Rattle.run_frames.proofs.TestLemmas.{turn_unpicked, turn_tried, turn_is_over}
use Rattle.run_frames.proofs.LookLemmas.{turn_looked, turn_gone}
use Rattle.run_frames.proofs.moving.move_turn.Goals as goal

pub open_instead-requires-clause-element : goal.open_instead-requires-clause-element
open_instead-requires-clause-element g c =
    let arena = c.args.tree.now.nodes in
    let rows = c.args.table.now.rows.items in
    let f = c.args.frames.now.cells in
    let p = c.args.place in
    let x = c.args.entry.now in
    let es = c.args.elements.now in
    let n = c.requires.node in
    let arity : HasArity kind.While es = subst (λ (qs : List ℕ). HasArity kind.While qs) n.elements_are (subst (λ (k : Kind). HasArity k n.node.elements) n.kind_is (c.requires.shaped p n.node n.at)) in
    subst (λ (q : ℕ). IsElement arena p q) (sym c.element_at.ensures) (is_element arena p kind.While es 0 n (body_within es arity))

pub open_instead-requires-clause-unpicked : goal.open_instead-requires-clause-unpicked
open_instead-requires-clause-unpicked g c =
    let arena = c.args.tree.now.nodes in
    let rows = c.args.table.now.rows.items in
    let f = c.args.frames.now.cells in
    let p = c.args.place in
    let x = c.args.entry.now in
    let es = c.args.elements.now in
    let n = c.requires.node in
    let l = step_within arena f c.args.set.now.all c.requires.moves.0 p x kind.While es c.requires.moves.1 n in
    subst (λ (w : List Cell). AreUnpickedIn arena w) (sym c.put.ensures.cells) (turn_unpicked arena f p (AnsweredBy (Some c.answer_in-answer.result)) es l n c.requires.moves.1.held.unpicked)

pub close-requires-clause-within : goal.close-requires-clause-within
close-requires-clause-within g c = slice_get_within c.args.tree.now.nodes c.args.place c.requires.node.node c.requires.node.at

pub close-requires-clause-unpicked : goal.close-requires-clause-unpicked
close-requires-clause-unpicked g c =
    let arena = c.args.tree.now.nodes in
    let rows = c.args.table.now.rows.items in
    let f = c.args.frames.now.cells in
    let p = c.args.place in
    let x = c.args.entry.now in
    let es = c.args.elements.now in
    let n = c.requires.node in
    let l = step_within arena f c.args.set.now.all c.requires.moves.0 p x kind.While es c.requires.moves.1 n in
    subst (λ (w : List Cell). AreUnpickedIn arena w) (sym c.put.ensures.cells) (turn_unpicked arena f p (AnsweredBy (Some c.answer_in-answer.result)) es l n c.requires.moves.1.held.unpicked)

pub returns-then-answer-clause-moved : goal.returns-then-answer-clause-moved
returns-then-answer-clause-moved g c = λ t s.
    let arena = c.args.tree.now.nodes in
    let rows = c.args.table.now.rows.items in
    let f = c.args.frames.now.cells in
    let p = c.args.place in
    let x = c.args.entry.now in
    let es = c.args.elements.now in
    let n = c.requires.node in
    let arity : HasArity kind.While es = subst (λ (qs : List ℕ). HasArity kind.While qs) n.elements_are (subst (λ (k : Kind). HasArity k n.node.elements) n.kind_is (c.requires.shaped p n.node n.at)) in
    let l = step_within arena f c.args.set.now.all t p x kind.While es s n in
    let levels = levels_at rows p - 1 in
    let same : answer_in x ≡ true = sym c.answer_in-answer.ensures ∙ c.if-answer.true in
    let tried = subst (λ (b : Bool). HasTried arena (slice_set f p (AnsweredBy (Some b))) c.open_instead.new.frames.cells c.args.set.now.all c.open_instead.new.set.all p (placed_down arena levels (get_or es 0 0)) c.open_instead.result) c.if-answer.true
    (subst (λ (q : ℕ). HasTried arena (slice_set f p (AnsweredBy (Some c.answer_in-answer.result))) c.open_instead.new.frames.cells c.args.set.now.all c.open_instead.new.set.all p (placed_down arena levels q) c.open_instead.result) c.element_at.ensures
    (subst (λ (w : List Cell). HasTried arena w c.open_instead.new.frames.cells c.args.set.now.all c.open_instead.new.set.all p (placed_down arena levels c.element_at.result) c.open_instead.result) c.put.ensures.cells c.open_instead.ensures.moved)) in
    turn_tried arena rows f c.open_instead.new.frames.cells c.args.set.now.all c.open_instead.new.set.all t p x es c.open_instead.result c.requires.table c.requires.distinct n arity l same s tried

pub returns-else-answer-clause-moved : goal.returns-else-answer-clause-moved
returns-else-answer-clause-moved g c = λ t s.
    let arena = c.args.tree.now.nodes in
    let rows = c.args.table.now.rows.items in
    let f = c.args.frames.now.cells in
    let p = c.args.place in
    let x = c.args.entry.now in
    let es = c.args.elements.now in
    let n = c.requires.node in
    let l = step_within arena f c.args.set.now.all t p x kind.While es s n in
    let same : answer_in x ≡ false = sym c.answer_in-answer.ensures ∙ c.if-answer.false in
    turn_is_over arena rows f c.close.new.frames.cells c.args.set.now.all c.close.new.set.all t p x es c.requires.table c.requires.distinct n l same s
    (subst (λ (b : Bool). HasClosed arena (slice_set f p (AnsweredBy (Some b))) c.close.new.frames.cells c.args.set.now.all c.close.new.set.all p) c.if-answer.false
    (closed_from arena c.put.new.self.cells (slice_set f p (AnsweredBy (Some c.answer_in-answer.result))) c.close.new.frames.cells c.args.set.now.all c.close.new.set.all p c.put.ensures.cells c.close.ensures.moved))

pub returns-then-answer-clause-looks : goal.returns-then-answer-clause-looks
returns-then-answer-clause-looks g c = λ t s.
    let arena = c.args.tree.now.nodes in
    let rows = c.args.table.now.rows.items in
    let f = c.args.frames.now.cells in
    let p = c.args.place in
    let x = c.args.entry.now in
    let es = c.args.elements.now in
    let n = c.requires.node in
    let arity : HasArity kind.While es = subst (λ (qs : List ℕ). HasArity kind.While qs) n.elements_are (subst (λ (k : Kind). HasArity k n.node.elements) n.kind_is (c.requires.shaped p n.node n.at)) in
    let levels = levels_at rows p - 1 in
    let tried = subst (λ (q : ℕ). c.open_instead.new.steps ≤ c.args.steps.now + element_looks (placed_down arena levels q) 0) c.element_at.ensures c.open_instead.ensures.looks in
    turn_looked arena rows f c.args.set.now.all t p x es _ _ c.requires.table c.requires.distinct n arity (sym c.answer_in-answer.ensures ∙ c.if-answer.true) s tried

pub returns-else-answer-clause-looks : goal.returns-else-answer-clause-looks
returns-else-answer-clause-looks g c = λ t s.
    let arena = c.args.tree.now.nodes in
    let rows = c.args.table.now.rows.items in
    let f = c.args.frames.now.cells in
    let p = c.args.place in
    let x = c.args.entry.now in
    let es = c.args.elements.now in
    let n = c.requires.node in
    turn_gone arena rows f c.args.set.now.all t p x es (AnsweredBy (Some c.answer_in-answer.result)) _ _ c.requires.table c.requires.distinct n (sym c.answer_in-answer.ensures ∙ c.if-answer.false) s
    (subst (λ (w : List Cell). c.close.new.steps ≤ c.args.steps.now + way_looks (cells_of w) (onward (placed arena) Done p)) c.put.ensures.cells c.close.ensures.looks)
