use Rattle.std.proofs.Common.{◌≡◌, ◌^◌, ◌<◌, take}
use Rattle.controller.specs.Numerals.{value_of}
use Rattle.controller.proofs.numerals.value_of.Given as goal

abbrev pub invariant-loop-digit : goal.invariant-loop-digit
invariant-loop-digit l = record {
  so_far : l.value ≡ value_of (take l.digit-index l.digits);
  bound : l.value < 10 ^ l.digit-index;
}
