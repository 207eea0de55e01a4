use Rattle.project_versions.proofs.StepLemmas.{none_set}
use Rattle.project_versions.proofs.step_set.StepSet.new.Goals as goal

pub returns-clause-empty : goal.returns-clause-empty
returns-clause-empty c =
    none_set c.in_ok-order.order.order c.new-marks.result.items c.resize.new.self.items _ _ c.new-marks.ensures.items c.in_ok-resize.ensures.items
