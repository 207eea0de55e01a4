use Rattle.std.proofs.Common.{◌≡◌, ◌∷◌, [], length}
use Rattle.base_tests.proofs.picks.picks_are_those_of_lists.Given as goal

abbrev pub invariant-loop-place : goal.invariant-loop-place
invariant-loop-place g l = record { rooms : l.set.rooms ≡ 3 ∷ 0 ∷ 5 ∷ []; long : length l.set.made ≡ 3 }
