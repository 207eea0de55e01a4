use Rattle.std.proofs.Common.{ap, ◌∙◌, subst}
use Rattle.project_versions.specs.Users.{Rows, rows_of, PutsRows}
use Rattle.project_versions.proofs.UserLemmas.{index_made}
use Rattle.project_versions.proofs.users.Users.new.Goals as goal

pub returns-clause-index : goal.returns-clause-index
returns-clause-index c =
    let store = c.args.store.now in
    index_made store (rows_of c.reserve.new.self) (rows_of c.put.new.self) c.len.ensures.distinct (ap (λ (rows : Rows). rows.edges) c.reserve.ensures.rows ∙ c.new.ensures.items)
    (subst (PutsRows store (rows_of c.reserve.new.self) (rows_of c.put.new.self)) c.as_slice-all.ensures c.put.ensures)
