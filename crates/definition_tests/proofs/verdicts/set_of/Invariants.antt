use Rattle.std.proofs.Common.{◌≡◌}
use Rattle.exec_tree.specs.Built.{steps_in}
use Rattle.definition_tests.proofs.verdicts.set_of.Given as goal

-- the set has room for the tree's steps
abbrev pub invariant-loop-word : goal.invariant-loop-word
invariant-loop-word g l = l.set.steps ≡ steps_in l.tree.nodes
