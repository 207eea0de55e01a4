use Rattle.std.proofs.Common.{◌≡◌, ◌+◌, drop, true}
use Rattle.std.specs.List.{list_all}
use Rattle.step_def.specs.Condition.{is_workingstep}
use Rattle.edit_rules.specs.Judge.{step_fault}
use Rattle.edit_rules.specs.Judging.{first_step}
use Rattle.edit_rules.proofs.step_faults.first_faulty.Given as goal

-- the first fault is among the steps that are left, which are workingsteps; those before are counted
abbrev pub invariant-loop-step : goal.invariant-loop-step
invariant-loop-step g l = (first_step (step_fault (g.E.Entities.entities l.entities)) (drop l.step-index l.numbers) ≡ first_step (step_fault (g.E.Entities.entities l.entities)) l.numbers)
    × (list_all (is_workingstep (g.E.Entities.entities l.entities)) (drop l.step-index l.numbers) ≡ true)
    × (l.steps ≡ l.initial.steps + l.step-index)
