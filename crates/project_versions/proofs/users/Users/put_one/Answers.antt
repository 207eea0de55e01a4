use Rattle.project_versions.specs.Users.{rows_of}
use Rattle.project_versions.proofs.UserLemmas.{placed, unplaced, one_put, none_put}
use Rattle.project_versions.proofs.users.Users.put_one.Goals as goal

pub set_row-requires-clause-place : goal.set_row-requires-clause-place
set_row-requires-clause-place c = (placed c.args.store.now c.args.item.now.number c.in-Some.place c.in-Some.ensures.found).there

pub returns-in-Some-clause-puts : goal.returns-in-Some-clause-puts
returns-in-Some-clause-puts c =
    one_put c.args.store.now (rows_of c.args.self.now) (rows_of c.set_row.new.self) c.in-Some.place c.args.item.now
    (placed c.args.store.now c.args.item.now.number c.in-Some.place c.in-Some.ensures.found) c.set_row.ensures.row

pub returns-in_default-clause-puts : goal.returns-in_default-clause-puts
returns-in_default-clause-puts c =
    none_put c.args.store.now (rows_of c.args.self.now) c.args.item.now c.requires.linked
    (unplaced c.args.store.now c.args.item.now.number c.place_of.result c.in_default.is c.place_of.ensures.found)
