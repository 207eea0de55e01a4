use Rattle.std.proofs.Common.{◌+◌, ◌∙◌, Some, ap, sym, subst, arith}
use Rattle.std.proofs.lemmas.Option.{slice_get-get_or}
use Rattle.project_store.specs.Inserts.{insert_number}
use Rattle.project_store.proofs.Reaching.{Grows, Grows-start, Grows-turn, members_reached}
use Rattle.project_store.proofs.reach.reached.Goals as goal

pub loop-next-init : goal.loop-next-init
loop-next-init g c =
    let entities = g.E.Entities.entities c.args.entities.now in
    record {
      grows =
          subst (λ ks. Grows entities c.args.n ks 0) (sym (c.in_ok-insert.ensures.order ∙ ap (λ ks. insert_number ks c.args.n) c.new-set.ensures.order)) (Grows-start entities c.args.n);
      members = c.in_ok-insert.ensures.members;
    }

pub loop-next-preserved : goal.loop-next-preserved
loop-next-preserved g c =
    let entities = g.E.Entities.entities c.args.entities.now in
    let i = c.loop-next.next in
    record {
      grows =
          subst (λ ks. Grows entities c.args.n ks (i + 1)) (sym c.in_ok-insert_used.ensures.order)
          (Grows-turn entities c.args.n c.index-number.result.now c.loop-next.set.order.items i c.loop-next.invariant.grows
          (slice_get-get_or c.loop-next.set.order.items i c.index-number.result.now (omega arith) ∙ ap Some (sym c.index-number.ensures)) (omega arith));
      members = c.in_ok-insert_used.ensures.members;
    }

pub returns : goal.returns
returns g c =
    members_reached (g.E.Entities.entities c.args.entities.now) c.args.n c.loop-next.set.order.items c.loop-next.next c.loop-next.set.members c.loop-next.invariant.members c.loop-next.invariant.grows (omega arith)
