use Rattle.std.proofs.Common.{◌≤◌, map, take}
use Rattle.std.specs.List.{AllByRecursion}
use Rattle.p21_parse.specs.declared.limits.TheConstants.{MAX_NESTING}
use Rattle.p21_parse.specs.Nesting.{instance_nesting}
use Rattle.p21_parse.specs.View.{instance_of}
use Rattle.p21_print.proofs.shallow.instances_are_shallow.Given as goal

abbrev pub invariant-loop-instance : goal.invariant-loop-instance
invariant-loop-instance l = AllByRecursion (λ x. instance_nesting x ≤ MAX_NESTING) (map instance_of (take l.instance-index l.instances))
