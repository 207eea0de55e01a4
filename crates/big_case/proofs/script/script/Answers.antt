use Rattle.std.proofs.Common.{ap, ◌*◌, ◌∙◌}
use Rattle.big_case.specs.Draws.{state_after}
use Rattle.big_case.proofs.DrawLemmas.{after_revision}
use Rattle.big_case.proofs.Putting.{edit_more}
use Rattle.big_case.proofs.script.script.Goals as goal

pub loop-j-preserved : goal.loop-j-preserved
loop-j-preserved c = λ start before.
    let so_far = c.loop-j.invariant start before in
    let steps = c.args.steps in
    let j = c.loop-j.j in
    let drawn = c.revision-revision.ensures in (
      drawn.state ∙ ap (λ state. state_after state 2) so_far.0 ∙ after_revision start (4 * steps) j,
      edit_more steps start j c.loop-j.draws.state c.revision-revision.result c.loop-j.out.items c.put_edit.new.out.items so_far.0 drawn.revision so_far.1 c.in_ok-put_edit.ensures,
    )
