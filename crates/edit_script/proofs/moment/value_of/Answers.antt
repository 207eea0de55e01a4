use Rattle.std.proofs.Common.{get_or, refl}
use Rattle.edit_script.proofs.Moments.{moment_more, moment_below}
use Rattle.edit_script.proofs.moment.value_of.Goals as goal

pub loop-digit-preserved : goal.loop-digit-preserved
loop-digit-preserved c =
    let digits = c.args.digits.now in
    let i = c.loop-digit.digit-index in
    let b = get_or digits i 0 in
    let lt = c.loop-digit-test.true in
    let so_far = c.loop-digit.invariant.0 in
    rw c.from.ensures (
      moment_more digits i c.loop-digit.value b lt refl (c.requires.digits i 0 lt) so_far,
      moment_below digits i c.loop-digit.value b lt refl (c.requires.digits i 0 lt) so_far c.requires.digits c.requires.few,
    )
