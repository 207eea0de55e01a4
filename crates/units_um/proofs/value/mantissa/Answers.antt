use Rattle.std.proofs.Common.{length, arith}
use Rattle.units_um.specs.declared.value.TheConstants.{MAX_DIGITS}
use Rattle.units_um.specs.declared.rounding.TheConstants.{SHORT_DIGITS}
use Rattle.units_um.proofs.Digits.{room_at_first, room_behind}
use Rattle.units_um.proofs.value.mantissa.Goals as goal

pub value_after-front-requires-clause-room : goal.value_after-front-requires-clause-room
value_after-front-requires-clause-room c = room_at_first (length c.args.whole.now) MAX_DIGITS (omega arith)

pub value_after-requires-clause-room : goal.value_after-requires-clause-room
value_after-requires-clause-room c = room_behind c.value_after-front.result (length c.args.whole.now) (length c.args.digits.now) MAX_DIGITS c.value_after-front.ensures.room c.requires.room

pub short_value_after-front-requires-clause-room : goal.short_value_after-front-requires-clause-room
short_value_after-front-requires-clause-room c = room_at_first (length c.args.whole.now) SHORT_DIGITS (omega arith)

pub short_value_after-requires-clause-room : goal.short_value_after-requires-clause-room
short_value_after-requires-clause-room c =
    room_behind c.short_value_after-front.result (length c.args.whole.now) (length c.args.digits.now) SHORT_DIGITS c.short_value_after-front.ensures.room (omega arith)

pub returns-then-whole-digits-gt-SHORT_DIGITS-clause-small : goal.returns-then-whole-digits-gt-SHORT_DIGITS-clause-small
returns-then-whole-digits-gt-SHORT_DIGITS-clause-small c =
    let room = room_behind c.value_after-front.result (length c.args.whole.now) (length c.args.digits.now) MAX_DIGITS c.value_after-front.ensures.room c.requires.room in
    omega (arith, room, c.value_after.ensures.room)
