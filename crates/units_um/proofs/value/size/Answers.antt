use Rattle.std.proofs.Common.{ap, arith}
use Rattle.std.specs.Option.{option_map}
use Rattle.units_um.specs.View.{fraction_view}
use Rattle.units_um.proofs.Sizes.{size_int, size_real, digits_real}
use Rattle.units_um.proofs.value.size.Goals as goal

pub returns-in_default : goal.returns-in_default
returns-in_default c =
    let n = c.args.number.now in
    let is = size_int n.sign n.whole.now (option_map fraction_view n.fraction) (ap (option_map fraction_view) c.in_default.is) in
    rw (is, ← c.mantissa.ensures.value) c.scaled.ensures

pub mantissa-mantissa-requires-clause-room : goal.mantissa-mantissa-requires-clause-room
mantissa-mantissa-requires-clause-room c =
    let n = c.args.number.now in
    let digits = digits_real n.sign n.whole.now (option_map fraction_view n.fraction) (fraction_view c.in-Some.fraction) (ap (option_map fraction_view) c.in-Some.is) in
    omega (arith, c.requires.room)

pub returns : goal.returns
returns c =
    let n = c.args.number.now in
    let is = size_real n.sign n.whole.now (option_map fraction_view n.fraction) (fraction_view c.in-Some.fraction) (ap (option_map fraction_view) c.in-Some.is) in
    rw (is, ← c.mantissa-mantissa.ensures.value, ← c.shifts-up.ensures.up, ← c.shifts-up.ensures.down) c.scaled-2.ensures
