use Rattle.std.proofs.Common.{◌≤◌, map, take}
use Rattle.std.specs.List.{AllByRecursion}
use Rattle.p21_parse.specs.declared.limits.TheConstants.{MAX_NESTING}
use Rattle.p21_parse.specs.Nesting.{part_nesting}
use Rattle.p21_parse.specs.View.{part_of}
use Rattle.p21_print.proofs.shallow.parts_are_shallow.Given as goal

abbrev pub invariant-loop-part : goal.invariant-loop-part
invariant-loop-part l = AllByRecursion (λ x. part_nesting x ≤ MAX_NESTING) (map part_of (take l.part-index l.parts))
