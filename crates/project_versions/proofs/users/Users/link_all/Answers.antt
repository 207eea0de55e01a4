use Rattle.std.proofs.Common.{◌<◌, length, take, sym, subst, arith}
use Rattle.std.proofs.lemmas.List.{take_more}
use Rattle.project_versions.specs.Users.{rows_of, Links}
use Rattle.project_versions.proofs.UserLemmas.{Links-both, Links-rows}
use Rattle.project_versions.proofs.users.Users.link_all.Goals as goal

pub loop-reference-preserved : goal.loop-reference-preserved
loop-reference-preserved c =
    let store = c.args.store.now in
    let first = rows_of c.args.self.now in
    let before = rows_of c.loop-reference.self in
    let now = rows_of c.link_to.new.self in
    let i = c.loop-reference.reference-index in
    let within : i < length c.args.references.now = omega arith in
    record {
      links = subst (Links store first now c.args.user) (sym (take_more c.args.references.now i 0 within)) (Links-both store first before now c.args.user (take i c.args.references.now) _ c.loop-reference.invariant.links c.link_to.ensures.links);
      rows = Links-rows store before now c.args.user _ (length store) c.link_to.ensures.links c.loop-reference.invariant.rows;
      len = omega arith;
      capacity = omega arith;
    }
