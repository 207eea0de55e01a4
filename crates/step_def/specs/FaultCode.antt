-- The numbers of the kinds of fault.
use Rattle.std.specs.Prelude.{ℕ}
use Rattle.step_def.specs.declared.fault.DefFault.{DefFault}
use Rattle.step_def.specs.declared.fault.DefFault.TheVariants.{Missing, HasToolpath, BadDirection, Mismatch, NotRectangle, NotPositive, OutOfRange, ToolTooBig, TooManyBlocks}

-- the number of a fault's kind, in the order in which the kinds are looked for
abbrev pub fault_code : DefFault → ℕ
fault_code (Missing n position) = 1
fault_code (HasToolpath operation) = 2
fault_code (BadDirection direction) = 3
fault_code (Mismatch operation feature) = 4
fault_code (NotRectangle profile) = 5
fault_code (NotPositive n position) = 6
fault_code (OutOfRange n position) = 7
fault_code (ToolTooBig tool) = 8
fault_code (TooManyBlocks step count) = 9
