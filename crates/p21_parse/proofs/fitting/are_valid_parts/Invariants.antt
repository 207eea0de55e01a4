use Rattle.std.proofs.Common.{map, take}
use Rattle.std.specs.List.{AllByRecursion}
use Rattle.p21_parse.specs.View.{part_of}
use Rattle.p21_parse.specs.Built.{IsValidPart}
use Rattle.p21_parse.proofs.fitting.are_valid_parts.Given as goal

abbrev pub invariant-loop-part : goal.invariant-loop-part
invariant-loop-part l = AllByRecursion IsValidPart (map part_of (take l.part-index l.parts))
