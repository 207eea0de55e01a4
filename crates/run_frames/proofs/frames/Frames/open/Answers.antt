use Rattle.std.proofs.Common.{◌≡◌, ◌<◌, [], ◌∙◌, ap, sym, subst, ℕ, List, length}
use Rattle.std.proofs.lemmas.Option.{slice_get_within}
use Rattle.exec_tree.specs.Said.{bare_of}
use Rattle.exec_tree.specs.declared.node.BareNode.{BareNode}
use Rattle.tree_table.proofs.PlacedLemmas.{length_map}
use Rattle.run_frames.specs.Told.{rooms_of}
use Rattle.run_frames.proofs.StandLemmas.{placed_once, at_first}
use Rattle.place_classes.specs.declared.class.Class.{Class}
use Rattle.run_frames.specs.Ready.{AreClasses}
use Rattle.run_frames.proofs.frames.Frames.open.Goals as goal

pub enter_tree-requires-clause-distinct : goal.enter_tree-requires-clause-distinct
enter_tree-requires-clause-distinct g c = placed_once c.args.tree.now.nodes c.nodes-arena.ensures.distinct

pub enter_tree-requires-clause-unpicked : goal.enter_tree-requires-clause-unpicked
enter_tree-requires-clause-unpicked g c =
    let long : length c.args.tree.now.nodes ≡ length c.nodes-arena.result.now = sym (ap (λ (l : List BareNode). length l) c.nodes-arena.ensures.nodes) ∙ length_map bare_of c.nodes-arena.result.now in
    λ p node at k none. c.in_ok-frames.ensures.none p (subst (λ (m : ℕ). p < m) long (slice_get_within c.args.tree.now.nodes p node at))

pub enter_tree-requires-clause-room : goal.enter_tree-requires-clause-room
enter_tree-requires-clause-room g c =
    c.in_ok-frames.ensures.long ∙ (sym (length_map bare_of c.nodes-arena.result.now) ∙ ap (λ (l : List BareNode). length l) c.nodes-arena.ensures.nodes)

pub returns-clause-at : goal.returns-clause-at
returns-clause-at g c =
    let arena = c.args.tree.now.nodes in
    let long = c.in_ok-frames.ensures.long ∙ (sym (length_map bare_of c.nodes-arena.result.now) ∙ ap (λ (l : List BareNode). length l) c.nodes-arena.ensures.nodes) in
    at_first arena c.in_ok-frames.frames.cells c.in_ok-set.set.all (record { frames = c.enter_tree.new.frames; table = c.in_ok-table.table; set = c.enter_tree.new.set; waits = c.in_ok-waits.waits }) long c.in_ok-set.ensures.none c.enter_tree.ensures.moved
    (c.enter_tree.ensures.rooms ∙ (c.in_ok-frames.ensures.rooms ∙ ap rooms_of c.nodes-arena.ensures.nodes)) c.in_ok-table.ensures
    (ap (λ (l : List Class). length l) (c.enter_tree.ensures.kept ∙ c.in_ok-set.ensures.kept) ∙ c.in_ok-first_classes.ensures.long)

pub returns-clause-sorted : goal.returns-clause-sorted
returns-clause-sorted g c = record {
  classes = subst (AreClasses c.args.tree.now [] []) (sym (c.enter_tree.ensures.kept ∙ c.in_ok-set.ensures.kept)) c.in_ok-first_classes.ensures.each;
  linked = c.in_ok-waits.ensures;
}
