use Rattle.std.proofs.Common.{◌≡◌, ◌∙◌, ap, sym, arith, ◌*◌, ◌^◌}
use Rattle.units_um.specs.Thousandths.{in_range}
use Rattle.units_um.proofs.Scale.{power_positive, within_limit, nearest_none, nearest_whole, nearest_part}
use Rattle.units_um.proofs.rounding.scaled.Goals as goal

pub returns-then-mantissa-eq0 : goal.returns-then-mantissa-eq0
returns-then-mantissa-eq0 c =
    let none : c.args.mantissa * 10 ^ c.args.up ≡ 0 = grind arith in
    rw (none, nearest_none (10 ^ c.args.down) (power_positive c.args.down)) (within_limit 0 (omega arith))

pub returns-then-up-down : goal.returns-then-up-down
returns-then-up-down c = c.lowered.ensures ∙ ap in_range (sym (nearest_part c.args.mantissa c.args.up c.args.down (omega arith)))

pub returns-else-up-down : goal.returns-else-up-down
returns-else-up-down c = c.raised.ensures ∙ ap in_range (sym (nearest_whole c.args.mantissa c.args.up c.args.down (omega arith)))
