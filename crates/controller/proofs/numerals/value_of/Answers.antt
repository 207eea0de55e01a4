use Rattle.std.proofs.Common.{arith, refl, get_or}
use Rattle.controller.proofs.NumeralsLemmas.{digit_at, digit_range, value_more, bound_more, bound_few}
use Rattle.controller.proofs.numerals.value_of.Goals as goal

pub overflow_mul-value : goal.overflow_mul-value
overflow_mul-value c =
    let few = bound_few c.loop-digit.value c.loop-digit.digit-index c.loop-digit.invariant.bound (omega (arith, c.requires.few)) in
    omega arith

pub overflow_add-value : goal.overflow_add-value
overflow_add-value c =
    let few = bound_few c.loop-digit.value c.loop-digit.digit-index c.loop-digit.invariant.bound (omega (arith, c.requires.few)) in
    let range = digit_range (get_or c.args.digits.now c.loop-digit.digit-index 0) (digit_at c.args.digits.now c.loop-digit.digit-index c.requires.digits c.loop-digit-test.true) in
    omega (arith, c.from.ensures, range.1)

pub loop-digit-preserved : goal.loop-digit-preserved
loop-digit-preserved c =
    let i = c.loop-digit.digit-index in
    let range = digit_range (get_or c.args.digits.now i 0) (digit_at c.args.digits.now i c.requires.digits c.loop-digit-test.true) in
    record {
      so_far = rw (value_more c.args.digits.now i c.loop-digit-test.true, c.from.ensures, c.loop-digit.invariant.so_far) refl;
      bound = bound_more c.loop-digit.value i c.from.result c.loop-digit.invariant.bound (omega (arith, c.from.ensures, range.1));
    }
