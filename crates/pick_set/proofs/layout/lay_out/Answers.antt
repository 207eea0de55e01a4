use Rattle.std.proofs.Common.{◌≡◌, ◌+◌, [], List, ℕ, take, get_or, refl, sym, subst, arith}
use Rattle.pick_set.specs.Rows.{AreLaidOut}
use Rattle.pick_set.specs.declared.row.Row.{Row}
use Rattle.pick_set.proofs.LayoutLemmas.{none_laid, laid_more}
use Rattle.pick_set.proofs.layout.lay_out.Goals as goal

pub loop-room-init : goal.loop-room-init
loop-room-init c = subst (λ (l : List Row). AreLaidOut [] l 0) (sym c.in_ok-rows.ensures.items) none_laid

pub loop-room-preserved : goal.loop-room-preserved
loop-room-preserved c =
    let rooms = c.args.rooms.now in
    let i = c.loop-room.room-index in
    let end : c.in-Some.end ≡ c.loop-room.base + get_or rooms i 0 = omega (arith, c.in-Some.ensures) in
    subst (λ (n : ℕ). AreLaidOut (take (i + 1) rooms) c.push.new.self.items n) (sym end)
    (subst (λ (l : List Row). AreLaidOut (take (i + 1) rooms) l (c.loop-room.base + get_or rooms i 0)) (sym c.in_ok-push.ensures.items)
    (laid_more rooms i c.loop-room.rows.items c.loop-room.base (get_or rooms i 0) c.loop-room-test.true refl c.loop-room.invariant))
