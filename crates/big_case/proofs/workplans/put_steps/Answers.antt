use Rattle.std.proofs.Common.{◌∙◌}
use Rattle.big_case.proofs.Putting.{step_more, steps_no}
use Rattle.big_case.proofs.workplans.put_steps.Goals as goal
use Rattle.big_case.proofs.workplans.put_steps.Goals.{then-i-remainder+in_ok-push, else-i-remainder}

pub loop-i-preserved : goal.loop-i-preserved
loop-i-preserved c =
    let remainder = c.args.remainder in
    let i = c.loop-i.i in
    let start = c.args.elements.now in
    elim c.if-i-remainder.branch [
      | then-i-remainder+in_ok-push w ↦
          step_more remainder i w.step_number.result start c.loop-i.elements c.if-i-remainder.elements w.if-i-remainder.true w.step_number.ensures c.loop-i.invariant
          (w.elements-is ∙ w.in_ok-push.ensures.ok)
      | else-i-remainder w ↦ w.elements-is ∙ steps_no remainder i start c.loop-i.elements w.if-i-remainder.false c.loop-i.invariant
    ]
