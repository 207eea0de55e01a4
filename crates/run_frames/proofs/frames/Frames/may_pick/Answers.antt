use Rattle.std.proofs.Common.{◌≡◌, ◌∙◌, ap, sym, subst, refl, ℕ, Option}
use Rattle.std.specs.Prelude.{◌↔◌, IsTrue}
use Rattle.exec_tree.specs.declared.kind.Kind.{Kind}
use Rattle.exec_tree.specs.declared.node.BareNode.{BareNode}
use Rattle.exec_tree.specs.Said.{kind_of_node}
use Rattle.exec_tree.specs.Walked.{place_from}
use Rattle.trace_law.specs.Below.{tree_in}
use Rattle.trace_law.specs.Offer.{Offer, IsOffered, offer}
use Rattle.run_log.specs.declared.entry.Entry.TheVariants.{Pick}
use Rattle.tree_table.specs.Placed.{number_at}
use Rattle.run_frames.specs.Frames.{cells_of}
use Rattle.run_frames.specs.OfferAt.{offer_at, offer_there}
use Rattle.run_frames.proofs.StandLemmas.{AreOfTree, place_is_of, offer_there_is}
use Rattle.run_frames.proofs.frames.Frames.may_pick.Goals as goal

pub returns : goal.returns
returns c = λ t at h.
    let arena = c.args.tree.now.nodes in
    let tree : AreOfTree arena = record { shaped = c.nodes.ensures.shaped; named = c.nodes.ensures.named; preorder = c.nodes.ensures.preorder; distinct = c.nodes.ensures.distinct; choices = c.nodes.ensures.choices } in
    let node = c.args.node.now in
    let p = c.args.place in
    let n = number_at arena p in
    let cell = cells_of c.args.self.now.frames.cells p in
    let place = place_is_of arena c.args.self.now t n p (place_from 0 arena n) tree at h refl c.requires.at.2 in
    let same : offer_at c.kind.result cell c.len.result ≡ offer (tree_in c.args.tree.now) t n =
    ap (λ (k : Kind). offer_at k cell c.len.result) c.kind.ensures
    ∙ (ap (λ (m : ℕ). offer_at (kind_of_node node.kind) cell m) c.len.ensures
    ∙ (sym (ap (λ (o : Option BareNode). offer_there o cell) c.requires.node) ∙ sym (offer_there_is arena c.args.self.now t n p tree at place))) in
    subst (λ (o : Offer). IsTrue c.may_pick_at.result ↔ IsOffered o n (Pick n c.args.index)) same (c.may_pick_at.ensures n)
