use Rattle.std.proofs.Common.{◌≡◌, ◌∙◌, ℕ, ap, sym, subst, ◌+◌, length, map, refl}
use Rattle.std.specs.Prelude.{Option, Some, slice_get, option_map}
use Rattle.std.proofs.lemmas.Option.{slice_get_read, slice_get-map}
use Rattle.exec_tree.specs.Said.{said_by}
use Rattle.run_state.specs.State.{variable_by}
use Rattle.run_state.specs.Opening.{AreOpening, AreAssigned, opened}
use Rattle.run_state.proofs.OpeningLemmas.{node_opened}
use Rattle.run_state.proofs.variables.open_assigned.Goals as goal

pub loop-node-preserved : goal.loop-node-preserved
loop-node-preserved c =
    let e : c.open_one.new.pairs.items ≡ opened c.args.store.now c.variable_said.result c.loop-node.pairs.items = c.in_ok-open_one.ensures in
    let f : c.variable_said.result ≡ variable_by (Some (said_by c.node-item.result)) = c.variable_said.ensures in
    let n : slice_get c.args.nodes.now c.loop-node.node-index ≡ Some c.node-item.result = slice_get_read c.args.nodes.now (length c.args.nodes.now) c.loop-node.node-index c.node-item.result refl c.loop-node-test.true c.node-item.is in
    let m : slice_get (map said_by c.args.nodes.now) c.loop-node.node-index ≡ Some (said_by c.node-item.result) =
    slice_get-map said_by c.args.nodes.now c.loop-node.node-index ∙ ap (λ (o : Option _). option_map said_by o) n in
    let z = node_opened c.args.store.now (length c.args.store.now) c.loop-node.node-index (map said_by c.args.nodes.now) (Some (said_by c.node-item.result)) c.loop-node.pairs.items m c.loop-node.invariant.opening c.loop-node.invariant.assigned in
    let g = e ∙ ap (λ (o : Option ℕ). opened c.args.store.now o c.loop-node.pairs.items) f in
    record {
      opening = subst (AreOpening c.args.store.now (length c.args.store.now)) (sym g) z.0;
      assigned = subst (AreAssigned (map said_by c.args.nodes.now) (c.loop-node.node-index + 1)) (sym g) z.1;
    }
