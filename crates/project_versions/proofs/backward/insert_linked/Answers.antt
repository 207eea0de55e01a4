use Rattle.std.proofs.Common.{◌≡◌, ◌-◌, ◌<◌, length, Some, ap, sym, ◌∙◌, arith}
use Rattle.std.specs.Prelude.{slice_get}
use Rattle.std.proofs.lemmas.Option.{slice_get-get_or}
use Rattle.project_versions.specs.Users.{rows_of}
use Rattle.project_versions.proofs.BackwardLemmas.{linked_none, linked_more}
use Rattle.project_versions.proofs.backward.insert_linked.Goals as goal

pub loop-link-init : goal.loop-link-init
loop-link-init c = record {
  adds = linked_none c.args.store.now (rows_of c.args.users.now) c.args.head c.args.set.now.order.items;
  members = c.requires.members;
  within = c.requires.within;
}

pub loop-link-smaller : goal.loop-link-smaller
loop-link-smaller c =
    let edges = c.args.users.now.edges.items in
    let k = c.loop-link.link - 1 in
    let edge = c.index.result.now in
    let within : k < length edges = omega (arith, c.loop-link.invariant.within, c.loop-link-test.true) in
    let at : slice_get edges k ≡ Some edge = slice_get-get_or edges k edge within ∙ ap Some (sym c.index.ensures) in
    omega (arith, c.requires.linked.back k edge at, c.loop-link-test.true)

pub loop-link-preserved : goal.loop-link-preserved
loop-link-preserved c =
    let edges = c.args.users.now.edges.items in
    let k = c.loop-link.link - 1 in
    let edge = c.index.result.now in
    let within : k < length edges = omega (arith, c.loop-link.invariant.within, c.loop-link-test.true) in
    let at : slice_get edges k ≡ Some edge = slice_get-get_or edges k edge within ∙ ap Some (sym c.index.ensures) in
    record {
      adds = linked_more c.args.store.now (rows_of c.args.users.now) c.args.head c.loop-link.link k c.args.set.now.order.items c.loop-link.set.order.items c.insert_edge.new.set.order.items edge
          (omega (arith, c.loop-link-test.true)) at c.loop-link.invariant.adds c.in_ok-insert_edge.ensures.order;
      members = c.in_ok-insert_edge.ensures.members;
      within = omega (arith, c.requires.linked.back k edge at, within);
    }
