use Rattle.std.proofs.Common.{◌*◌, ◌+◌, ◌≤◌, map, take}
use Rattle.std.specs.List.{AllByRecursion}
use Rattle.p21_parse.specs.Nesting.{nesting}
use Rattle.p21_parse.specs.View.{tree_of}
use Rattle.p21_print.proofs.shallow.+shallow.Given as goal

abbrev pub decreases-is_shallow : goal.decreases-is_shallow
decreases-is_shallow l = 3 * l.most + 1

abbrev pub decreases-list_is_shallow : goal.decreases-list_is_shallow
decreases-list_is_shallow l = 3 * l.most

abbrev pub decreases-are_shallow : goal.decreases-are_shallow
decreases-are_shallow l = 3 * l.most + 2

abbrev pub invariant-are_shallow-loop-param : goal.invariant-are_shallow-loop-param
invariant-are_shallow-loop-param l = AllByRecursion (λ t. nesting t ≤ l.most) (map tree_of (take l.param-index l.params))
