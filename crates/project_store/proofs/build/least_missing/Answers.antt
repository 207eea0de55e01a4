use Rattle.project_store.specs.Build.{missing_reference}
use Rattle.project_store.proofs.FaultLemmas.{least_more}
use Rattle.project_store.proofs.build.least_missing.Goals as goal

pub loop-i-preserved : goal.loop-i-preserved
loop-i-preserved c =
    least_more (missing_reference c.args.index.now) c.args.index.now c.loop-i.i c.at-entity.result.now c.missing_reference.result c.loop-i.least c.numbered.result c.lesser-least.result
    c.lesser-least.ensures c.numbered.ensures c.missing_reference.ensures c.at-entity.ensures c.loop-i.invariant
