use Rattle.std.proofs.Common.{◌≡◌, ◌<◌, length, Some, ap, sym, ◌∙◌, arith}
use Rattle.std.specs.Prelude.{slice_get}
use Rattle.std.proofs.lemmas.List.{get_or_read}
use Rattle.std.proofs.lemmas.Option.{slice_get-get_or}
use Rattle.project_versions.specs.Users.{rows_of}
use Rattle.project_versions.proofs.BackwardLemmas.{on_ok, edge_put, edge_passed}
use Rattle.project_versions.proofs.backward.insert_edge.Goals as goal

pub returns-then-index-k-clause-order : goal.returns-then-index-k-clause-order
returns-then-index-k-clause-order c =
    let users = c.args.users.now in
    let edge = c.index-edge.result.now in
    let at : slice_get users.edges.items c.args.k ≡ Some edge = slice_get-get_or users.edges.items c.args.k edge c.requires.within ∙ ap Some (sym c.index-edge.ensures) in
    let within : edge.user < length users.since.items = omega (arith, c.requires.linked.users c.args.k edge at, c.requires.rows.since) in
    let since = get_or_read users.since.items edge.user c.index.result.now within c.index.ensures 0 in
    on_ok c.insert.result
    (edge_put c.args.store.now (rows_of users) c.args.k c.args.set.now.order.items c.insert.new.self.order.items edge c.at.result.now at c.at.ensures (omega (arith, since, c.if-index-k.true)))
    c.insert.ensures.order

pub returns-else-index-k-clause-order : goal.returns-else-index-k-clause-order
returns-else-index-k-clause-order c =
    let users = c.args.users.now in
    let edge = c.index-edge.result.now in
    let at : slice_get users.edges.items c.args.k ≡ Some edge = slice_get-get_or users.edges.items c.args.k edge c.requires.within ∙ ap Some (sym c.index-edge.ensures) in
    let within : edge.user < length users.since.items = omega (arith, c.requires.linked.users c.args.k edge at, c.requires.rows.since) in
    let since = get_or_read users.since.items edge.user c.index.result.now within c.index.ensures 0 in
    edge_passed c.args.store.now (rows_of users) c.args.k c.args.set.now.order.items edge at (omega (arith, since, c.if-index-k.false))
