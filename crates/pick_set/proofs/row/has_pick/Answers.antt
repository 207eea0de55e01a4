use Rattle.std.proofs.Common.{arith}
use Rattle.pick_set.proofs.SparseLemmas.{beyond, unpicked_spot, spot_says}
use Rattle.pick_set.proofs.row.has_pick.Goals as goal

pub returns-then-index-row : goal.returns-then-index-row
returns-then-index-row c = beyond c.args.row c.args.order.now c.args.spot.now c.args.index c.requires (omega arith)

pub returns-then-at-row : goal.returns-then-at-row
returns-then-at-row c = spot_says c.args.row c.args.order.now c.args.spot.now c.args.index c.requires (omega arith)

pub returns-else-at-row : goal.returns-else-at-row
returns-else-at-row c = unpicked_spot c.args.row c.args.order.now c.args.spot.now c.args.index c.requires (omega arith)
