use Rattle.std.proofs.Common.{◌≡◌, map, take}
use Rattle.p21_parse.specs.Tree.{reference, trees}
use Rattle.p21_parse.specs.View.{trees_of}
use Rattle.big_case.proofs.params.references.Given as goal

abbrev pub invariant-loop-number : goal.invariant-loop-number
invariant-loop-number l = trees_of l.elements ≡ trees (map reference (take l.number-index l.numbers))
