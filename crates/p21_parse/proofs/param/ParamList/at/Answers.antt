use Rattle.std.proofs.Common.{arith, refl}
use Rattle.p21_parse.specs.View.{tree_of}
use Rattle.p21_parse.proofs.ListLemmas.{count_seen, read_at}
use Rattle.p21_parse.proofs.param.ParamList.at.Goals as goal

pub index-requires : goal.index-requires
index-requires c =
    let ps = c.args.self.now.params in
    omega (arith, count_seen tree_of ps.items, ps.ok.0)

pub returns : goal.returns
returns c =
    let ps = c.args.self.now.params in
    read_at tree_of ps.items _ c.args.i c.index.result.now refl (omega (arith, count_seen tree_of ps.items)) c.index.ensures
