use Rattle.std.proofs.Common.{◌≡◌, ◌∙◌, ap, sym, subst, refl, List, ℕ, length, Option}
use Rattle.std.specs.Prelude.{slice_index}
use Rattle.exec_tree.specs.declared.kind.Kind.{Kind}
use Rattle.exec_tree.specs.declared.node.BareNode.{BareNode}
use Rattle.exec_tree.specs.Said.{bare_of, kind_of_node}
use Rattle.exec_tree.specs.Walked.{place_from}
use Rattle.trace_law.specs.Offer.{Offer, IsOpen, offer}
use Rattle.trace_law.specs.Below.{tree_in}
use Rattle.tree_table.specs.Placed.{number_at}
use Rattle.run_frames.specs.Frames.{cells_of}
use Rattle.run_frames.specs.Told.{room_in}
use Rattle.run_frames.specs.Deeds.{IsDeed}
use Rattle.run_frames.specs.OfferAt.{offer_at, offer_there}
use Rattle.run_frames.proofs.StandLemmas.{AreOfTree, place_is_of, offer_there_is, does_something}
use Rattle.run_frames.proofs.RoomLemmas.{room_at}
use Rattle.run_frames.proofs.DeedLemmas as deeds
use Rattle.run_frames.proofs.frames.Frames.deed.Goals as goal

pub deed_at-requires-clause-no_plan : goal.deed_at-requires-clause-no_plan
deed_at-requires-clause-no_plan c =
    let arena = c.args.tree.now.nodes in
    let tree : AreOfTree arena = record { shaped = c.nodes.ensures.shaped; named = c.nodes.ensures.named; preorder = c.nodes.ensures.preorder; distinct = c.nodes.ensures.distinct; choices = c.nodes.ensures.choices } in
    let node = c.args.node.now in
    let p = c.args.place in
    let n = number_at arena p in
    let cell = cells_of c.args.self.now.frames.cells p in
    let at = c.requires.at in
    let place = place_is_of arena c.args.self.now at.0 n p (place_from 0 arena n) tree at.1 at.3 refl at.2 in
    let open_there = subst (λ (o : Option BareNode). IsOpen (offer_there o cell)) c.requires.node (does_something arena c.args.self.now at.0 n p tree at.1 at.3 place) in
    let other = deeds.does_something (kind_of_node node.kind) cell (length node.elements) _ refl open_there in
    λ e. other.0 (sym c.kind.ensures ∙ e)

pub deed_at-requires-clause-no_parallel : goal.deed_at-requires-clause-no_parallel
deed_at-requires-clause-no_parallel c =
    let arena = c.args.tree.now.nodes in
    let tree : AreOfTree arena = record { shaped = c.nodes.ensures.shaped; named = c.nodes.ensures.named; preorder = c.nodes.ensures.preorder; distinct = c.nodes.ensures.distinct; choices = c.nodes.ensures.choices } in
    let node = c.args.node.now in
    let p = c.args.place in
    let n = number_at arena p in
    let cell = cells_of c.args.self.now.frames.cells p in
    let at = c.requires.at in
    let place = place_is_of arena c.args.self.now at.0 n p (place_from 0 arena n) tree at.1 at.3 refl at.2 in
    let open_there = subst (λ (o : Option BareNode). IsOpen (offer_there o cell)) c.requires.node (does_something arena c.args.self.now at.0 n p tree at.1 at.3 place) in
    let other = deeds.does_something (kind_of_node node.kind) cell (length node.elements) _ refl open_there in
    λ e. other.1 (sym c.kind.ensures ∙ e)

pub deed_at-requires-clause-room : goal.deed_at-requires-clause-room
deed_at-requires-clause-room c =
    let arena = c.args.tree.now.nodes in
    let node = c.args.node.now in
    let p = c.args.place in
    ap (λ (rooms : List ℕ). slice_index rooms p) c.requires.at.1.rooms
    ∙ (room_at arena p (bare_of node) c.requires.node
    ∙ (ap (λ (k : Kind). room_in k (length node.elements)) (sym c.kind.ensures) ∙ ap (λ (m : ℕ). room_in c.kind.result m) (sym c.len.ensures)))

pub returns : goal.returns
returns c = λ t at h.
    let arena = c.args.tree.now.nodes in
    let tree : AreOfTree arena = record { shaped = c.nodes.ensures.shaped; named = c.nodes.ensures.named; preorder = c.nodes.ensures.preorder; distinct = c.nodes.ensures.distinct; choices = c.nodes.ensures.choices } in
    let node = c.args.node.now in
    let p = c.args.place in
    let n = number_at arena p in
    let cell = cells_of c.args.self.now.frames.cells p in
    let place = place_is_of arena c.args.self.now t n p (place_from 0 arena n) tree at h refl c.requires.at.2 in
    let same : offer_at c.kind.result cell c.len.result ≡ offer (tree_in c.args.tree.now) t n =
    ap (λ (k : Kind). offer_at k cell c.len.result) c.kind.ensures
    ∙ (ap (λ (m : ℕ). offer_at (kind_of_node node.kind) cell m) c.len.ensures
    ∙ (sym (ap (λ (o : Option BareNode). offer_there o cell) c.requires.node) ∙ sym (offer_there_is arena c.args.self.now t n p tree at place))) in
    subst (λ (o : Offer). IsDeed o c.deed_at.result) same c.deed_at.ensures
