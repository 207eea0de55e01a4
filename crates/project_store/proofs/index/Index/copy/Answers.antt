use Rattle.project_store.proofs.FaultLemmas.{take_next}
use Rattle.project_store.proofs.index.Index.copy.Goals as goal

pub loop-i-preserved : goal.loop-i-preserved
loop-i-preserved c =
    take_next c.args.self.now c.loop-i.i c.at.result.now c.in_ok-copy.field-0 c.loop-i.copies.items c.push.new.self.items
    c.in_ok-push.ensures.items c.in_ok-copy.ensures c.loop-i.invariant c.at.ensures
