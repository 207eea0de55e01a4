use Rattle.std.proofs.Common.{◌<◌, length, sym, arith}
use Rattle.std.proofs.lemmas.List.{get_or_read}
use Rattle.project_versions.proofs.GrownLemmas.{tree_members}
use Rattle.project_versions.proofs.BackwardLemmas.{Backward-start, Backward-turn, Backward-end}
use Rattle.project_versions.proofs.backward.leading.Goals as goal

pub loop-next-init : goal.loop-next-init
loop-next-init c = record {
  back = Backward-start c.args.store.now c.args.items.now c.in_ok-set.set.order.items c.in_ok-set.ensures.order;
  members = c.in_ok-set.ensures.members;
}

pub loop-next-preserved : goal.loop-next-preserved
loop-next-preserved c =
    let ks = c.loop-next.set.order.items in
    let i = c.loop-next.next in
    let m = c.index-number.result.now in
    let within : i < length ks = omega arith in
    record {
      back = Backward-turn c.args.store.now c.args.items.now ks c.insert_users.new.set.order.items i m c.loop-next.invariant.back within
          (sym (get_or_read ks i m within c.index-number.ensures 0)) c.in_ok-insert_users.ensures.order;
      members = c.in_ok-insert_users.ensures.members;
    }

pub returns : goal.returns
returns c = λ n.
    let list = Backward-end c.args.store.now c.args.items.now c.loop-next.set.order.items c.loop-next.next c.loop-next.invariant.back (omega arith) n in
    let tree = tree_members c.loop-next.set.order.items c.loop-next.set.members n c.loop-next.invariant.members in
    (λ h. list.0 (tree.0 h), λ h. tree.1 (list.1 h))
