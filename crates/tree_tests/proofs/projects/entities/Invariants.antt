use Rattle.std.proofs.Common.{◌≡◌}
use Rattle.project_store.specs.Entities.{numbers_of}
use Rattle.tree_tests.proofs.projects.entities.Given as goal

abbrev pub invariant-loop-instance : goal.invariant-loop-instance
invariant-loop-instance l = numbers_of l.all.items ≡ l.numbers.items
