use Rattle.pick_set.proofs.WriteLemmas.{clears}
use Rattle.pick_set.proofs.set.PickSet.clear.Goals as goal

pub invariant_of-self : goal.invariant_of-self
invariant_of-self c =
    let s = c.self.inside in
    (clears s.rows.items s.order.items s.spot.items c.args.self.now c.args.place c.index-row.result.now c.self.invariant c.self.view_is c.requires c.index-row.ensures).all

pub returns-clause-made : goal.returns-clause-made
returns-clause-made c =
    let s = c.self.inside in
    (clears s.rows.items s.order.items s.spot.items c.args.self.now c.args.place c.index-row.result.now c.self.invariant c.self.view_is c.requires c.index-row.ensures).made

pub returns-clause-rooms : goal.returns-clause-rooms
returns-clause-rooms c =
    let s = c.self.inside in
    (clears s.rows.items s.order.items s.spot.items c.args.self.now c.args.place c.index-row.result.now c.self.invariant c.self.view_is c.requires c.index-row.ensures).rooms
