use Rattle.std.proofs.Common.{ap, ◌∙◌}
use Rattle.big_case.specs.Draws.{state_after}
use Rattle.big_case.proofs.DrawLemmas.{after_step}
use Rattle.big_case.proofs.Putting.{more_steps}
use Rattle.big_case.proofs.project.put_steps.Goals as goal

pub loop-i-preserved : goal.loop-i-preserved
loop-i-preserved c =
    let start = c.args.draws.now.state in
    let i = c.loop-i.i in
    let so_far = c.loop-i.invariant in
    let drawn = c.step-step.ensures in (
      more_steps start i c.loop-i.draws.state c.step-step.result c.step_number.result c.args.items.now c.loop-i.items c.put_step.new.items so_far.1 drawn.step c.step_number.ensures so_far.0
          c.in_ok-put_step.ensures,
      drawn.state ∙ ap (λ state. state_after state 4) so_far.1 ∙ after_step start i,
    )
