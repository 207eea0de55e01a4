use Rattle.std.proofs.Common.{◌≡◌, ◌++◌, map, drop}
use Rattle.std.specs.Prelude.{option_map}
use Rattle.p21_parse.specs.View.{tree_of}
use Rattle.entity_read.specs.Typed.{all_references}
use Rattle.entity_read.proofs.field.all_references.Given as goal

-- the references so far and those of what is left are those of all
abbrev pub invariant-loop-param : goal.invariant-loop-param
invariant-loop-param l = option_map (λ rest. l.numbers ++ rest) (all_references (map tree_of (drop l.param-index l.params))) ≡ all_references (map tree_of l.params)
