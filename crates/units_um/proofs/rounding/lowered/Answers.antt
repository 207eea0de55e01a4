use Rattle.std.proofs.Common.{arith}
use Rattle.units_um.specs.Thousandths.{nearest}
use Rattle.units_um.proofs.Scale.{power_grows, power_positive, within_limit, lowered_far}
use Rattle.units_um.proofs.rounding.lowered.Goals as goal

pub returns-then-by : goal.returns-then-by
returns-then-by c = rw (lowered_far c.args.mantissa c.args.by (omega arith) (omega arith)) (within_limit 0 (omega arith))

pub pow-unit-requires : goal.pow-unit-requires
pow-unit-requires c = omega (arith, power_grows c.args.by 38 (omega arith))

pub overflow_add-mantissa : goal.overflow_add-mantissa
overflow_add-mantissa c = omega (arith, power_grows c.args.by 38 (omega arith))

pub overflow_mul-unit : goal.overflow_mul-unit
overflow_mul-unit c = omega (arith, power_grows c.args.by 38 (omega arith))

pub nonzero_div-mantissa : goal.nonzero_div-mantissa
nonzero_div-mantissa c = omega (arith, power_positive c.args.by)

pub returns : goal.returns
unfolding nearest
returns c = grind arith
