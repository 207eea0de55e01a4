use Rattle.std.proofs.Common.{◌≡◌, ◌++◌}
use Rattle.project_store.proofs.reach.listed.Given as goal

-- the list so far and what is left are all
abbrev pub invariant-loop-number : goal.invariant-loop-number
invariant-loop-number l = l.list ++ l.number-iterator ≡ l.numbers.keys
