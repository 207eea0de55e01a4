use Rattle.std.proofs.Common.{length, arith}
use Rattle.units_um.specs.declared.value.TheConstants.{MAX_DIGITS}
use Rattle.units_um.proofs.Digits.{room_at_first}
use Rattle.units_um.proofs.value.shifts.Goals as goal

pub value_after-by-requires-clause-room : goal.value_after-by-requires-clause-room
value_after-by-requires-clause-room c =
    let room = rw c.in-Some.is at c.requires.room in
    room_at_first (length c.in-Some.exponent.digits.now) MAX_DIGITS room

pub returns-then-is_minus-clause-small : goal.returns-then-is_minus-clause-small
returns-then-is_minus-clause-small c =
    let room = rw c.in-Some.is at c.requires.room in
    omega (arith, room_at_first (length c.in-Some.exponent.digits.now) MAX_DIGITS room, c.value_after-by.ensures.room)

pub returns-else-is_minus-clause-small : goal.returns-else-is_minus-clause-small
returns-else-is_minus-clause-small c =
    let room = rw c.in-Some.is at c.requires.room in
    omega (arith, room_at_first (length c.in-Some.exponent.digits.now) MAX_DIGITS room, c.value_after-by.ensures.room)
