use Rattle.std.proofs.Common.{◌≡◌, ◌<◌, ℕ, true, List, sym, subst, arith, rules}
use Rattle.pick_set.specs.Picks.{is_picked, IsLeastLeft}
use Rattle.pick_set.specs.Rows.{picks_of, IsSparse}
use Rattle.pick_set.proofs.AddLemmas.{more, more_order}
use Rattle.pick_set.proofs.WriteLemmas.{adds}
use Rattle.pick_set.proofs.set.PickSet.add.Goals as goal

pub index_mut-requires : goal.index_mut-requires
index_mut-requires c =
    let s = c.self.inside in
    let r = c.requires in
    let a = adds s.rows.items s.order.items s.spot.items c.args.self.now c.args.place c.args.index c.index-row.result.now c.self.invariant c.self.view_is r.there r.within r.left c.index-row.ensures in
    let few = a.few in
    let room = a.order_room in
    let len = s.order.ok.0 in
    omega (arith, few, room, len)

pub overflow_add-row-2 : goal.overflow_add-row-2
overflow_add-row-2 c =
    let s = c.self.inside in
    let r = c.requires in
    let a = adds s.rows.items s.order.items s.spot.items c.args.self.now c.args.place c.args.index c.index-row.result.now c.self.invariant c.self.view_is r.there r.within r.left c.index-row.ensures in
    let within = a.within in
    let room = a.spot_room in
    let len = s.spot.ok.0 in
    search (rules, within, room, len)

pub index_mut-requires-2 : goal.index_mut-requires-2
index_mut-requires-2 c =
    let s = c.self.inside in
    let r = c.requires in
    let a = adds s.rows.items s.order.items s.spot.items c.args.self.now c.args.place c.args.index c.index-row.result.now c.self.invariant c.self.view_is r.there r.within r.left c.index-row.ensures in
    let within = a.within in
    let room = a.spot_room in
    let len = s.spot.ok.0 in
    omega (arith, within, room, len)

pub overflow_add-more : goal.overflow_add-more
overflow_add-more c =
    let s = c.self.inside in
    let r = c.requires in
    let a = adds s.rows.items s.order.items s.spot.items c.args.self.now c.args.place c.args.index c.index-row.result.now c.self.invariant c.self.view_is r.there r.within r.left c.index-row.ensures in
    let few = a.few in
    omega (arith, few)

pub next_left-next-requires-clause-sparse : goal.next_left-next-requires-clause-sparse
next_left-next-requires-clause-sparse c =
    let s = c.self.inside in
    let r = c.requires in
    let a = adds s.rows.items s.order.items s.spot.items c.args.self.now c.args.place c.args.index c.index-row.result.now c.self.invariant c.self.view_is r.there r.within r.left c.index-row.ensures in
    subst (λ (l : List ℕ). IsSparse (more c.index-row.result.now) l c.as_slice-2.result.now) (sym c.as_slice.ensures.value)
    (subst (λ (l : List ℕ). IsSparse (more c.index-row.result.now) (more_order c.index-row.result.now c.args.index s.order.items) l) (sym c.as_slice-2.ensures.value) a.sparse)

pub next_left-next-requires-clause-within : goal.next_left-next-requires-clause-within
next_left-next-requires-clause-within c =
    let s = c.self.inside in
    let r = c.requires in
    let a = adds s.rows.items s.order.items s.spot.items c.args.self.now c.args.place c.args.index c.index-row.result.now c.self.invariant c.self.view_is r.there r.within r.left c.index-row.ensures in
    a.next_within

pub next_left-next-requires-clause-before : goal.next_left-next-requires-clause-before
next_left-next-requires-clause-before c =
    let s = c.self.inside in
    let r = c.requires in
    let a = adds s.rows.items s.order.items s.spot.items c.args.self.now c.args.place c.args.index c.index-row.result.now c.self.invariant c.self.view_is r.there r.within r.left c.index-row.ensures in
    subst (λ (l : List ℕ). (j : ℕ) → j < c.index-row.result.now.next → is_picked (picks_of (more c.index-row.result.now) l) j ≡ true) (sym c.as_slice.ensures.value) a.before

pub invariant_of-self : goal.invariant_of-self
invariant_of-self c =
    let s = c.self.inside in
    let r = c.requires in
    let a = adds s.rows.items s.order.items s.spot.items c.args.self.now c.args.place c.args.index c.index-row.result.now c.self.invariant c.self.view_is r.there r.within r.left c.index-row.ensures in
    a.all c.next_left-next.result (subst (λ (l : List ℕ). IsLeastLeft c.index-row.result.now.room (picks_of (more c.index-row.result.now) l) c.next_left-next.result) c.as_slice.ensures.value c.next_left-next.ensures)

pub returns-clause-made : goal.returns-clause-made
returns-clause-made c =
    let s = c.self.inside in
    let r = c.requires in
    let a = adds s.rows.items s.order.items s.spot.items c.args.self.now c.args.place c.args.index c.index-row.result.now c.self.invariant c.self.view_is r.there r.within r.left c.index-row.ensures in
    a.made c.next_left-next.result

pub returns-clause-rooms : goal.returns-clause-rooms
returns-clause-rooms c =
    let s = c.self.inside in
    let r = c.requires in
    let a = adds s.rows.items s.order.items s.spot.items c.args.self.now c.args.place c.args.index c.index-row.result.now c.self.invariant c.self.view_is r.there r.within r.left c.index-row.ensures in
    a.rooms c.next_left-next.result
