use Rattle.std.proofs.Common.{◌≡◌, length, arith, rules}
use Rattle.entity_types.specs.Entity.{uses_of}
use Rattle.project_versions.specs.Users.{rows_of}
use Rattle.project_versions.proofs.UserLemmas.{row_begins, row_set}
use Rattle.project_versions.proofs.UnlinkLemmas.{row_spared}
use Rattle.project_versions.proofs.users.Users.set_row.Goals as goal

pub returns-clause-row : goal.returns-clause-row
returns-clause-row c =
    let store = c.args.store.now in
    let old = rows_of c.args.self.now in
    let count : c.len.result ≡ length c.args.self.now.edges.items = search rules in
    let begun = row_begins store old c.args.place c.len.result c.requires.linked (omega (arith, c.requires.place, c.requires.rows.since)) count in
    let bare = row_spared store old _ (rows_of c.unlink_row.new.self) c.args.place begun c.unlink_row.ensures.spares in
    row_set store old (rows_of c.unlink_row.new.self) (rows_of c.link_uses.new.self) c.args.place (uses_of c.args.entity.now) bare c.link_uses.ensures.links
