use Rattle.std.proofs.Common.{◌≡◌, ◌<◌, ap, subst, sym, refl, length, List}
use Rattle.std.specs.Prelude.{slice_set}
use Rattle.std.proofs.lemmas.Option.{slice_get_read}
use Rattle.exec_tree.specs.declared.node.BareNode.{BareNode}
use Rattle.exec_tree.specs.Walked.{Walked, with_elements}
use Rattle.exec_tree.proofs.PlaceLemmas.{known_set, set_is}
use Rattle.exec_tree.proofs.walk.Walk.set_elements.Goals as goal

pub invariant_of-self : goal.invariant_of-self
invariant_of-self c =
    let nodes = c.self.inside.nodes.items in
    let within = subst (λ (w : Walked). c.args.place < length w.nodes) (sym c.self.view_is) c.requires in
    let at = slice_get_read nodes (length nodes) c.args.place c.index_mut.result.now refl within c.index_mut.ensures.value in
    known_set c.self.inside.places nodes c.self.inside.weight c.self.inside.channels c.args.place c.index_mut.result.now c.args.elements c.self.invariant at

pub returns : goal.returns
returns c =
    let nodes = c.self.inside.nodes.items in
    let within = subst (λ (w : Walked). c.args.place < length w.nodes) (sym c.self.view_is) c.requires in
    let at = slice_get_read nodes (length nodes) c.args.place c.index_mut.result.now refl within c.index_mut.ensures.value in
    let made = λ (w : Walked) (ns : List BareNode). let v : Walked = record { nodes = ns; weight = w.weight; channels = w.channels; fixed = w.fixed } in v in
    let inner : Walked = record { nodes = nodes; weight = c.self.inside.weight; channels = c.self.inside.channels; fixed = c.self.inside.fixed } in
    let node : BareNode = c.index_mut.result.now in
    subst (λ (w : Walked). made inner (slice_set nodes c.args.place (record node { elements = c.args.elements })) ≡ made w (with_elements w.nodes c.args.place c.args.elements)) c.self.view_is
    (ap (made inner) (set_is nodes c.args.place node c.args.elements at))
