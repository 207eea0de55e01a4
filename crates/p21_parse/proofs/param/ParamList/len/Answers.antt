use Rattle.std.proofs.Common.{arith}
use Rattle.p21_parse.specs.View.{tree_of}
use Rattle.p21_parse.proofs.ListLemmas.{count_seen}
use Rattle.p21_parse.proofs.param.ParamList.len.Goals as goal

pub returns-then-len : goal.returns-then-len
returns-then-len c =
    let ps = c.args.self.now.params in
    omega (arith, count_seen tree_of ps.items, ps.ok.0)

pub returns-else-len : goal.returns-else-len
returns-else-len c =
    let ps = c.args.self.now.params in
    omega (arith, count_seen tree_of ps.items, ps.ok.0)
