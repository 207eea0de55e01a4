use Rattle.std.proofs.Common.{◌≡◌, ◌<◌, ◌-◌, suc, length, Some, sym, ap, ◌∙◌, arith}
use Rattle.std.specs.Prelude.{slice_get}
use Rattle.std.proofs.lemmas.Bool.Decides.{nat_tests}
use Rattle.std.proofs.lemmas.List.{get_or_read}
use Rattle.std.proofs.lemmas.Option.{slice_get-get_or}
use Rattle.project_versions.specs.Users.{rows_of}
use Rattle.project_versions.proofs.UnlinkLemmas.{newest}
use Rattle.project_versions.proofs.users.Users.is_linked.Goals as goal

pub returns-then-edge-user : goal.returns-then-edge-user
returns-then-edge-user c = λ counts.
    let users = c.args.self.now in
    let link = c.index-link.result.now in
    let edge = c.index-edge.result.now in
    let head = get_or_read users.heads.items c.args.place link c.requires.place c.index-link.ensures 0 in
    let is : link ≡ suc (link - 1) = omega (arith, c.if-link-eq0.false) in
    let within : link - 1 < length users.edges.items = omega (arith, c.requires.linked.ends c.args.place, head, is) in
    let at : slice_get users.edges.items (link - 1) ≡ Some edge = slice_get-get_or users.edges.items (link - 1) edge within ∙ ap Some (sym c.index-edge.ensures) in
    let since = get_or_read users.since.items c.args.user c.index.result.now c.requires.user c.index.ensures 0 in
    let less : c.index.result.now < link = grind (arith, nat_tests) in
    (link - 1, newest (rows_of users) c.args.user c.args.place link (link - 1) edge is (sym head) at c.if-edge-user.true (omega (arith, since, less)))
