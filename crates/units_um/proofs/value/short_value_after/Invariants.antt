use Rattle.std.proofs.Common.{◌≡◌, ◌+◌, ◌-◌, ◌*◌, ◌^◌, ◌≤◌, length, take}
use Rattle.std.specs.Str.Parse.{digits_value_after}
use Rattle.units_um.proofs.value.short_value_after.Given as goal

abbrev pub invariant-loop-digit : goal.invariant-loop-digit
invariant-loop-digit l =
    (l.value ≡ digits_value_after 10 l.so_far (take l.digit-index l.digits)) × ((l.value + 1) * 10 ^ (length l.digits - l.digit-index) ≤ (l.so_far + 1) * 10 ^ length l.digits)
