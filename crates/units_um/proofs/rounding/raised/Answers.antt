use Rattle.std.proofs.Common.{◌<◌, ◌*◌, ◌^◌, arith}
use Rattle.nc_base.specs.declared.numbers.TheConstants.{MAX_THOUSANDTHS}
use Rattle.units_um.proofs.Scale.{past_limit, raised_far, raised_past}
use Rattle.units_um.proofs.rounding.raised.Goals as goal
use Rattle.units_um.proofs.rounding.raised.Goals.{then-by-gt15-via-then-by-gt15, then-by-gt15-via-else-by-gt15+then-mantissa-from}

pub returns-then-by-gt15 : goal.returns-then-by-gt15
returns-then-by-gt15 c =
    let past : MAX_THOUSANDTHS < c.args.mantissa * 10 ^ c.args.by =
    elim c.then-by-gt15.branch [
      | then-by-gt15-via-then-by-gt15 w ↦ raised_far c.args.mantissa c.args.by (omega arith) (omega arith)
      | then-by-gt15-via-else-by-gt15+then-mantissa-from w ↦ raised_past c.args.mantissa c.args.by (omega arith)
    ] in
    past_limit (c.args.mantissa * 10 ^ c.args.by) past
