use Rattle.std.proofs.Common.{get_or, arith}
use Rattle.units_um.proofs.Digits.{value_more, digit_in, digit_is, room_for_one, room_left}
use Rattle.units_um.proofs.value.short_value_after.Goals as goal

pub overflow_sub-digit : goal.overflow_sub-digit
overflow_sub-digit c = (digit_in c.args.digits.now c.loop-digit.digit-index c.requires.digits (omega arith)).0

pub overflow_mul-value : goal.overflow_mul-value
overflow_mul-value c = omega (arith, room_for_one _ _ _ _ c.loop-digit.invariant.1 (omega arith))

pub overflow_add-value : goal.overflow_add-value
overflow_add-value c =
    let digit = digit_in c.args.digits.now c.loop-digit.digit-index c.requires.digits (omega arith) in
    omega (arith, room_for_one _ _ _ _ c.loop-digit.invariant.1 (omega arith))

pub loop-digit-preserved : goal.loop-digit-preserved
loop-digit-preserved c =
    let ds = c.args.digits.now in
    let i = c.loop-digit.digit-index in
    let digit = digit_in ds i c.requires.digits (omega arith) in
    let is = digit_is (get_or ds i 0) digit in
    let more = value_more c.args.so_far i ds (omega arith) in
    (grind arith, room_left _ _ _ _ _ c.loop-digit.invariant.1 (omega arith) (omega arith))
