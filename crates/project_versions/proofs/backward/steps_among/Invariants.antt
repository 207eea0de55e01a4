use Rattle.std.proofs.Common.{◌≡◌, ◌++◌}
use Rattle.std.specs.Prelude.{filter}
use Rattle.project_store.specs.Inserts.{is_among}
use Rattle.project_versions.proofs.backward.steps_among.Given as goal

-- the list so far and the steps of what is left are all
abbrev pub invariant-loop-number : goal.invariant-loop-number
invariant-loop-number l = l.list ++ filter (is_among l.order.steps) l.number-iterator ≡ filter (is_among l.order.steps) l.numbers.keys
