use Rattle.std.proofs.Common.{◌∙◌, ap}
use Rattle.project_store.specs.Build.{wrong_position, wrong_among}
use Rattle.project_store.proofs.FaultLemmas.{least_more}
use Rattle.project_store.proofs.build.least_wrong.Goals as goal

pub loop-i-preserved : goal.loop-i-preserved
loop-i-preserved c =
    let all = c.args.index.now in
    let same = c.wrong_among-position.ensures ∙ ap (λ us. wrong_among all us c.as_slice.result.now) c.used.ensures ∙ ap (wrong_among all _) c.as_slice.ensures in
    least_more (wrong_position all) all c.loop-i.i c.at-entity.result.now c.wrong_among-position.result c.loop-i.least c.numbered.result c.lesser-least.result
    c.lesser-least.ensures c.numbered.ensures same c.at-entity.ensures c.loop-i.invariant
