use Rattle.std.proofs.Common.{refl}
use Rattle.controller.proofs.refusal.put_fault.Goals as goal

pub returns-in-NotPositive-clause-items : goal.returns-in-NotPositive-clause-items
returns-in-NotPositive-clause-items c = rw (c.in-NotPositive.is, c.put_two-in-NotPositive.ensures.items, c.from-in-NotPositive.ensures) refl

pub returns-in-TooManyBlocks-clause-items : goal.returns-in-TooManyBlocks-clause-items
returns-in-TooManyBlocks-clause-items c = rw (c.in-TooManyBlocks.is, c.put_two-in-TooManyBlocks.ensures.items) refl
