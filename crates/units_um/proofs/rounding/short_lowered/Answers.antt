use Rattle.std.proofs.Common.{arith}
use Rattle.units_um.specs.Thousandths.{nearest}
use Rattle.units_um.specs.declared.rounding.TheConstants.{SHORT_DIGITS}
use Rattle.units_um.proofs.Scale.{power_grows, power_positive}
use Rattle.units_um.proofs.rounding.short_lowered.Goals as goal

pub pow-unit-requires : goal.pow-unit-requires
pow-unit-requires c = omega (arith, power_grows c.args.by SHORT_DIGITS c.requires.by)

pub overflow_mul-mantissa : goal.overflow_mul-mantissa
overflow_mul-mantissa c = omega (arith, c.requires.mantissa)

pub overflow_add-mantissa : goal.overflow_add-mantissa
overflow_add-mantissa c = omega (arith, c.requires.mantissa, power_grows c.args.by SHORT_DIGITS c.requires.by)

pub overflow_mul-unit : goal.overflow_mul-unit
overflow_mul-unit c = omega (arith, power_grows c.args.by SHORT_DIGITS c.requires.by)

pub nonzero_div-mantissa : goal.nonzero_div-mantissa
nonzero_div-mantissa c = omega (arith, power_positive c.args.by)

pub returns : goal.returns
unfolding nearest
returns c = grind arith
